-- A line is words in one way.
use Rattle.std.proofs.Common.{◌≡◌, ◌≢◌, ℕ, suc, inl, inr, List, [], ◌∷◌, ◌++◌, length, Bool, true, false, Option, None, Some, refl, sym, ap, subst, ◌∙◌, append-nil, arith}
use Rattle.std.specs.Prelude.{Contains, ◌==◌}
use Rattle.std.specs.List.{AllByRecursion, flat_map}
use Rattle.std.proofs.lemmas.Bool.{eqb-true, eqb-false}
use Rattle.std.proofs.lemmas.List.Elements.{All-cons, All-nil}
use Rattle.causal_base.proofs.CallerLemmas.{Contains-cons, Contains-here, Contains-nil, Contains-there, has_none, split_in_one_way}
use Rattle.client_session.specs.Scripts.{AreWords, IsOneWord}
use Rattle.client_session.specs.Words.{AreAllWords, AreOthers, IsBadShape, IsNextWord, IsWordBefore, LacksNextWord, behind}

-- words, each behind a space
abbrev pub each_behind : List (List ℕ) → List ℕ
each_behind words = flat_map (λ word. 32 ∷ word) words

-- a word, and what stands behind it, are parted in one way
cut_same : (word other : List ℕ) (rest : Option (List ℕ)) (words : List (List ℕ)) → IsOneWord word → IsOneWord other → word ++ behind rest ≡ other ++ each_behind words → (word ≡ other) × (behind rest ≡ each_behind words)
cut_same word other None [] one also same = (sym (append-nil word) ∙ (same ∙ append-nil other), refl)
cut_same word other None (w ∷ ws) one also same = absurd (has_none 32 word other (w ++ each_behind ws) one (sym (append-nil word) ∙ same))
cut_same word other (Some more) [] one also same = absurd (has_none 32 other word more also (sym (append-nil other) ∙ sym same))
cut_same word other (Some more) (w ∷ ws) one also same =
    let parts : (word ≡ other) × (more ≡ w ++ each_behind ws) = split_in_one_way 32 (word ++ 32 ∷ more) word more other (w ++ each_behind ws) (record { whole = refl; first = one }) (record { whole = same; first = also }) in
    (parts.0, ap (λ bytes. 32 ∷ bytes) parts.1)

-- the next word is the first of the words, whichever they are
pub next_is : (bytes word : List ℕ) (rest : Option (List ℕ)) (words : List (List ℕ)) → IsNextWord bytes word (behind rest) → AreOthers bytes words → (more : List (List ℕ)) × (words ≡ word ∷ more) × AreOthers (behind rest) more
next_is bytes word rest [] next are = absurd (let none = are.whole in let some = next.whole in cc)
next_is bytes word rest (w ∷ ws) next are =
    let whole : 32 ∷ (word ++ behind rest) ≡ 32 ∷ (w ++ each_behind ws) = sym next.whole ∙ are.whole in
    let tails : word ++ behind rest ≡ w ++ each_behind ws = cc in
    let same = cut_same word w rest ws next.one_word are.one_word_each.0 tails in
    (ws, ap (λ first. first ∷ ws) (sym same.0), record { whole = same.1; one_word_each = are.one_word_each.1 })

-- nothing is no words
pub lacks_none : (others : Option (List ℕ)) → others ≡ None → LacksNextWord (behind others)
lacks_none others none [] are = inl refl
lacks_none None none (w ∷ ws) are = absurd (let whole = are.whole in cc)
lacks_none (Some more) none (w ∷ ws) are = absurd cc

-- an empty word comes first
pub lacks_empty : (bytes word : List ℕ) (rest : Option (List ℕ)) → IsWordBefore bytes word (behind rest) → word ≡ [] → LacksNextWord (32 ∷ bytes)
lacks_empty bytes word rest before empty [] are = absurd (let whole = are.whole in cc)
lacks_empty bytes word rest before empty (w ∷ ws) are =
    let whole : 32 ∷ bytes ≡ 32 ∷ (w ++ each_behind ws) = are.whole in
    let tails : bytes ≡ w ++ each_behind ws = cc in
    let same = cut_same word w rest ws before.one_word are.one_word_each.0 (sym before.whole ∙ tails) in
    inr (ws, ap (λ first. first ∷ ws) (sym same.0 ∙ empty))

-- where no next word is, so many words aren't there
pub lacks_shape : (bytes : List ℕ) (count : ℕ) → LacksNextWord bytes → (words : List (List ℕ)) → AreOthers bytes words → IsBadShape (suc count) words
lacks_shape bytes count lacks words are = elim (lacks words are) [
  | inl none ↦ inl (λ same. let length_is = ap length none in absurd (omega (arith, length_is, same)))
  | inr empty ↦ inr (subst (λ ws. Contains ws []) (sym empty.1) (Contains-here [] empty.0))
]

-- behind a next word the shape is as bad
pub next_shape : (bytes word : List ℕ) (rest : Option (List ℕ)) (count : ℕ) → IsNextWord bytes word (behind rest) → ((words : List (List ℕ)) → AreOthers (behind rest) words → IsBadShape count words)
    → (words : List (List ℕ)) → AreOthers bytes words → IsBadShape (suc count) words
next_shape bytes word rest count next bad words are =
    let parts = next_is bytes word rest words next are in
    subst (IsBadShape (suc count)) (sym parts.1) (elim (bad parts.0 parts.2) [
      | inl other ↦ inl (λ same. other (omega (arith, same)))
      | inr empty ↦ inr (Contains-there word parts.0 [] empty)
    ])

-- what stands behind a word is words, and in one way
as_behind : (words : List (List ℕ)) → (rest : Option (List ℕ)) × (each_behind words ≡ behind rest)
as_behind [] = (None, refl)
as_behind (w ∷ ws) = (Some (w ++ each_behind ws), refl)

words_once : (words others : List (List ℕ)) → each_behind words ≡ each_behind others → AllByRecursion IsOneWord words → AllByRecursion IsOneWord others → words ≡ others
words_once [] [] same one also = refl
words_once [] (v ∷ vs) same one also = absurd cc
words_once (w ∷ ws) [] same one also = absurd cc
words_once (w ∷ ws) (v ∷ vs) same one also =
    let tails : w ++ each_behind ws ≡ v ++ each_behind vs = cc in
    let rest = as_behind ws in
    let parts = cut_same w v rest.0 vs one.0 also.0 (ap (λ bytes. w ++ bytes) (sym rest.1) ∙ tails) in
    let later : ws ≡ vs = words_once ws vs (rest.1 ∙ parts.1) one.1 also.1 in
    let first : w ≡ v = parts.0 in
    cc

pub same_words : (bytes : List ℕ) (words others : List (List ℕ)) → AreAllWords bytes words → AreOthers bytes others → words ≡ others
same_words bytes words others all are = words_once words others (sym all.others.whole ∙ are.whole) all.others.one_word_each are.one_word_each

-- none of them is empty
pub none_empty : (words : List (List ℕ)) → AllByRecursion (λ word. word ≢ []) words → Contains words [] → ⊥
none_empty [] some has = Contains-nil [] has
none_empty (w ∷ ws) some has = elim (Contains-cons w ws [] has) [ inl here ↦ some.0 here | inr there ↦ none_empty ws some.1 there ]

-- all bytes are words
cut_off : (byte : ℕ) (bytes first : List ℕ) (others : List (List ℕ)) → AreWords bytes first others → (is : Bool) → (byte == 32) ≡ is → (word : List ℕ) × (words : List (List ℕ)) × AreWords (byte ∷ bytes) word words
cut_off byte bytes first others are true is = (
  [],
  first ∷ others,
  record {
    whole = ap (λ b. b ∷ bytes) (eqb-true byte 32 is) ∙ ap (λ rest. 32 ∷ rest) are.whole;
    one_word = All-nil (λ b. b ≢ 32);
    one_word_each = (are.one_word, are.one_word_each);
  },
)
cut_off byte bytes first others are false is = (
  byte ∷ first,
  others,
  record {
    whole = ap (λ rest. byte ∷ rest) are.whole;
    one_word = All-cons (λ b. b ≢ 32) byte first (eqb-false byte 32 is) are.one_word;
    one_word_each = are.one_word_each;
  },
)

some_words : (bytes : List ℕ) → (first : List ℕ) × (others : List (List ℕ)) × AreWords bytes first others
some_words [] = ([], [], record { whole = refl; one_word = All-nil (λ b. b ≢ 32); one_word_each = tt })
some_words (byte ∷ bytes) = let rest = some_words bytes in cut_off byte bytes rest.0 rest.1 rest.2 (byte == 32) refl

pub some_others : (others : Option (List ℕ)) → (words : List (List ℕ)) × AreOthers (behind others) words
some_others None = ([], record { whole = refl; one_word_each = tt })
some_others (Some more) = let words = some_words more in
    (words.0 ∷ words.1, record { whole = ap (λ rest. 32 ∷ rest) words.2.whole; one_word_each = (words.2.one_word, words.2.one_word_each) })

pub nil_from_length : (word : List ℕ) → length word ≡ 0 → word ≡ []
nil_from_length [] none = refl
nil_from_length (byte ∷ bytes) none = absurd (omega (arith, none))
