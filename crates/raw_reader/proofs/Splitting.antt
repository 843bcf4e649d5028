use Rattle.std.proofs.Common.{◌≡◌, ℕ, List, [], ◌∷◌, ◌++◌, length, All, refl, sym, ap, subst, ◌∙◌, append-nil, arith}
use Rattle.causal_base.specs.Fields.{SplitsOnce}
use Rattle.causal_base.specs.Spelling.{text_part}
use Rattle.causal_base.proofs.CallerLemmas.{split_in_one_way, unsplit}
use Rattle.raw_reader.specs.Splits.{IsSplit, IsTimeAndText}

-- a line without a text is its time
alone : (bytes time : List ℕ) → IsTimeAndText bytes time [] → bytes ≡ time
alone bytes time split = split.whole ∙ append-nil time

one_word_alone : (bytes time : List ℕ) → IsTimeAndText bytes time [] → All (λ b. b ≡ 32 → ⊥) bytes
one_word_alone bytes time split = subst (All (λ b. b ≡ 32 → ⊥)) (sym (alone bytes time split)) split.one_word

-- a time with a text behind it is cut at the space between them
pub cut_at_text : (bytes time : List ℕ) (c : ℕ) (cs : List ℕ) → IsTimeAndText bytes time (c ∷ cs) → SplitsOnce 32 bytes time (c ∷ cs)
cut_at_text bytes time c cs split = record { whole = split.whole; first = split.one_word }

-- a time and a text are written in one way
pub time_and_text_once : (bytes time text other more : List ℕ) → IsTimeAndText bytes time text → IsTimeAndText bytes other more → (time ≡ other) × (text ≡ more)
time_and_text_once bytes time [] other [] split same = (sym (alone bytes time split) ∙ alone bytes other same, refl)
time_and_text_once bytes time [] other (c ∷ cs) split same =
    absurd (unsplit 32 bytes other (c ∷ cs) (one_word_alone bytes time split) (cut_at_text bytes other c cs same))
time_and_text_once bytes time (c ∷ cs) other [] split same =
    absurd (unsplit 32 bytes time (c ∷ cs) (one_word_alone bytes other same) (cut_at_text bytes time c cs split))
time_and_text_once bytes time (c ∷ cs) other (d ∷ ds) split same =
    split_in_one_way 32 bytes time (c ∷ cs) other (d ∷ ds) (cut_at_text bytes time c cs split) (cut_at_text bytes other d ds same)

-- a space with nothing behind it is no text
pub no_empty_text : (bytes front rest time text : List ℕ) → length rest ≡ 0 → SplitsOnce 32 bytes front rest → IsTimeAndText bytes time text → ⊥
no_empty_text bytes front rest time [] empty cut split = unsplit 32 bytes front rest (one_word_alone bytes time split) cut
no_empty_text bytes front rest time (c ∷ cs) empty cut split =
    let same = split_in_one_way 32 bytes front rest time (c ∷ cs) cut (cut_at_text bytes time c cs split) in omega (arith, ap length same.1)

-- what stands behind the third field of a line
abbrev pub behind_mate : List ℕ → List ℕ → List ℕ
behind_mate time text = time ++ text_part text

-- what stands behind the second field of a line
abbrev pub behind_name : List ℕ → List ℕ → List ℕ → List ℕ
behind_name mate time text = mate ++ 32 ∷ behind_mate time text

-- what stands behind the first field of a line
abbrev pub behind_id : List ℕ → List ℕ → List ℕ → List ℕ → List ℕ
behind_id name mate time text = name ++ 32 ∷ behind_name mate time text

-- a line is cut behind its first field, its rest behind the second, and that rest behind the third
pub id_cut : (line id name mate time text : List ℕ) → IsSplit line id name mate time text → SplitsOnce 32 line id (behind_id name mate time text)
id_cut line id name mate time text split = record { whole = split.whole; first = split.id_one_word }

pub name_cut : (rest line id name mate time text : List ℕ) → rest ≡ behind_id name mate time text → IsSplit line id name mate time text → SplitsOnce 32 rest name (behind_name mate time text)
name_cut rest line id name mate time text is_rest split = record { whole = is_rest; first = split.name_one_word }

pub mate_cut : (rest line id name mate time text : List ℕ) → rest ≡ behind_name mate time text → IsSplit line id name mate time text → SplitsOnce 32 rest mate (behind_mate time text)
mate_cut rest line id name mate time text is_rest split = record { whole = is_rest; first = split.mate_one_word }

-- what is left is the time and the text
pub time_left : (rest line id name mate time text : List ℕ) → rest ≡ behind_mate time text → IsSplit line id name mate time text → IsTimeAndText rest time text
time_left rest line id name mate time text is_rest split = record { whole = is_rest; one_word = split.time_one_word }

-- each cut of a line that was split gives the next field, and what stands behind it
pub after_id : (front rest line id name mate time text : List ℕ) → SplitsOnce 32 line front rest → IsSplit line id name mate time text → (front ≡ id) × (rest ≡ behind_id name mate time text)
after_id front rest line id name mate time text cut split =
    split_in_one_way 32 line front rest id (behind_id name mate time text) cut (id_cut line id name mate time text split)

pub after_name : (front more rest line id name mate time text : List ℕ) → SplitsOnce 32 rest front more → rest ≡ behind_id name mate time text → IsSplit line id name mate time text → (front ≡ name) × (more ≡ behind_name mate time text)
after_name front more rest line id name mate time text cut is_rest split =
    split_in_one_way 32 rest front more name (behind_name mate time text) cut (name_cut rest line id name mate time text is_rest split)

pub after_mate : (front more rest line id name mate time text : List ℕ) → SplitsOnce 32 rest front more → rest ≡ behind_name mate time text → IsSplit line id name mate time text → (front ≡ mate) × (more ≡ behind_mate time text)
after_mate front more rest line id name mate time text cut is_rest split =
    split_in_one_way 32 rest front more mate (behind_mate time text) cut (mate_cut rest line id name mate time text is_rest split)

-- The fields of one split are those of another.
pub record SameFields (id name mate time text id' name' mate' time' text' : List ℕ) : Type 0 where
  pub id_same : id ≡ id'
  pub name_same : name ≡ name'
  pub mate_same : mate ≡ mate'
  pub time_same : time ≡ time'
  pub text_same : text ≡ text'

-- a line is split in one way
pub split_once : (line id name mate time text id' name' mate' time' text' : List ℕ) → IsSplit line id name mate time text → IsSplit line id' name' mate' time' text' → SameFields id name mate time text id' name' mate' time' text'
split_once line id name mate time text id' name' mate' time' text' split same =
    let ids = after_id id (behind_id name mate time text) line id' name' mate' time' text' (id_cut line id name mate time text split) same in
    let names = after_name name (behind_name mate time text) (behind_id name mate time text) line id' name' mate' time' text' (name_cut _ line id name mate time text refl split) ids.1 same in
    let mates = after_mate mate (behind_mate time text) (behind_name mate time text) line id' name' mate' time' text' (mate_cut _ line id name mate time text refl split) names.1 same in
    let times = time_and_text_once (behind_mate time text) time text time' text' (time_left _ line id name mate time text refl split) (time_left _ line id' name' mate' time' text' mates.1 same) in
    record { id_same = ids.0; name_same = names.0; mate_same = mates.0; time_same = times.0; text_same = times.1 }
