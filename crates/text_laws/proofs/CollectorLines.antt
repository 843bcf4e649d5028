-- What is told of collectors is read in one way, where no collector's lines stand behind it.
use Rattle.std.proofs.Common.{◌≡◌, ℕ, ◌+◌, ◌^◌, ◌<◌, List, [], ◌∷◌, ◌++◌, get_or, map, refl, sym, ◌∙◌, ap, arith, append_assoc}
use Rattle.std.specs.Prelude.{codes, decimal}
use Rattle.std.specs.List.{AllByRecursion, enumerate_from, flat_map}
use Rattle.std.proofs.lemmas.List.{append_cancel_left}
use Rattle.std.proofs.lemmas.List.Concat.{flat_map-append}
use Rattle.causal_base.specs.declared.event_id.EventId.{EventId}
use Rattle.causal_base.specs.Spelling.{id_text}
use Rattle.poet_serve.specs.declared.report.Stop.{Stop}
use Rattle.poet_serve.specs.Collecting.{Told}
use Rattle.run_text.specs.Lines.{ended_lines, lines_of_collector, text_of_clash, text_of_collector, text_of_stop, with_number}
use Rattle.text_laws.specs.OneReading.{FitsId, FitsStop}
use Rattle.text_laws.proofs.Items.{AreRead, ended-map, items_once, line_of}
use Rattle.text_laws.proofs.Stops.{stop_once}
use Rattle.text_laws.proofs.Tokens.{id_once, number_once}

-- The numbers that are told of a collector can be read.
pub record IsReadableTold (told : Told) : Type 0 where
  pub accepted : told.accepted < 2 ^ 64
  pub repeats : told.repeats < 2 ^ 64
  pub clashes : told.clashes < 2 ^ 64
  pub first : AllByRecursion FitsId told.first
  pub stop : FitsStop told.stop

-- an id that clashed, and what stands behind it
clash_once : (a b : EventId) (rest more : List ℕ) → FitsId a → FitsId b → line_of text_of_clash a ++ rest ≡ line_of text_of_clash b ++ more → (a ≡ b) × (rest ≡ more)
clash_once a b rest more fits fits_too same =
    let parted : id_text a ++ 10 ∷ rest ≡ id_text b ++ 10 ∷ more =
    append_cancel_left (codes "clash ") _ _ (sym (three (codes "clash ") (id_text a) (codes "\n") rest) ∙ (same ∙ three (codes "clash ") (id_text b) (codes "\n") more)) in
    let once = id_once a b 10 10 rest more (omega (arith, fits.0)) (omega (arith, fits_too.0)) (omega (arith, fits.1)) (omega (arith, fits_too.1)) (omega arith) (omega arith) parted in
    (once.0, once.2)
  where
    three : (x y z rest : List ℕ) → ((x ++ y) ++ z) ++ rest ≡ x ++ (y ++ (z ++ rest))
    three x y z rest = simp append_assoc

-- the second byte is no `l`, as in each line that may stand behind clashes
abbrev pub HasNoLSecond : List ℕ → Type 0
HasNoLSecond bytes = get_or bytes 1 0 ≡ 108 → ⊥

clashes_are_read : AreRead (line_of text_of_clash) FitsId (λ bytes. Unit {0}) HasNoLSecond
clashes_are_read = record {
  end_behind = λ bytes ends. tt;
  item_behind = λ id rest. tt;
  no_end = λ id rest good ends. ends refl;
  once = λ a b rest more good good_too behind behind_too same. clash_once a b rest more good good_too same;
}

-- the first line of a collector, parted behind its number
head_parted : (a b c d e f g h i rest : List ℕ) → (((((a ++ (b ++ c)) ++ (d ++ e)) ++ (f ++ g)) ++ (h ++ i)) ++ codes "\n") ++ rest ≡ a ++ (b ++ (c ++ (d ++ (e ++ (f ++ (g ++ (h ++ (i ++ (10 ∷ rest)))))))))
head_parted a b c d e f g h i rest = all a b c d e f g h i (codes "\n") rest
  where
    all : (a b c d e f g h i j rest : List ℕ) → (((((a ++ (b ++ c)) ++ (d ++ e)) ++ (f ++ g)) ++ (h ++ i)) ++ j) ++ rest ≡ a ++ (b ++ (c ++ (d ++ (e ++ (f ++ (g ++ (h ++ (i ++ (j ++ rest)))))))))
    all a b c d e f g h i j rest = simp append_assoc

-- the first line of a collector, with its end
abbrev head_of : ℕ → Told → List ℕ
head_of n told = text_of_collector n told.accepted told.repeats told.clashes told.stop ++ codes "\n"

-- Its counts, and why it stopped, are the same.
record SameHead (told other : Told) (rest more : List ℕ) : Type 0 where
  accepted : told.accepted ≡ other.accepted
  repeats : told.repeats ≡ other.repeats
  clashes : told.clashes ≡ other.clashes
  stop : told.stop ≡ other.stop
  behind : rest ≡ more

head_once : (n : ℕ) (told other : Told) (rest more : List ℕ) → IsReadableTold told → IsReadableTold other → head_of n told ++ rest ≡ head_of n other ++ more → SameHead told other rest more
head_once n told other rest more fits fits_too same =
    let part : (one : Told) (behind : List ℕ) → head_of n one ++ behind ≡ with_number (codes "collector ") n ++ (codes " accepted " ++ (decimal one.accepted ++ (codes " repeats " ++ (decimal one.repeats ++ (codes " clashes " ++ (decimal one.clashes ++ (codes " " ++ (text_of_stop one.stop ++ (10 ∷ behind))))))))) =
    λ (one : Told) (behind : List ℕ). head_parted (with_number (codes "collector ") n) (codes " accepted ") (decimal one.accepted) (codes " repeats ") (decimal one.repeats) (codes " clashes ") (decimal one.clashes) (codes " ") (text_of_stop one.stop) behind in
    let numbered = append_cancel_left (with_number (codes "collector ") n) _ _ (sym (part told rest) ∙ (same ∙ part other more)) in
    let one = number_once told.accepted other.accepted 32 32 _ _ fits.accepted fits_too.accepted (omega arith) (omega arith) (append_cancel_left (codes " accepted ") _ _ numbered) in
    let two = number_once told.repeats other.repeats 32 32 _ _ fits.repeats fits_too.repeats (omega arith) (omega arith) (append_cancel_left (codes "repeats ") _ _ one.2) in
    let three = number_once told.clashes other.clashes 32 32 _ _ fits.clashes fits_too.clashes (omega arith) (omega arith) (append_cancel_left (codes "clashes ") _ _ two.2) in
    let four = stop_once told.stop other.stop rest more fits.stop fits_too.stop three.2 in
    record { accepted = one.0; repeats = two.0; clashes = three.0; stop = four.0; behind = four.1 }

same_told : (told other : Told) (rest more : List ℕ) → SameHead told other rest more → told.first ≡ other.first → told ≡ other
same_told told other rest more same first =
    let by_accepted : ℕ → Told = λ n. record told { accepted = n } in
    let by_repeats : ℕ → Told = λ n. record { accepted = other.accepted; repeats = n; clashes = told.clashes; first = told.first; stop = told.stop } in
    let by_clashes : ℕ → Told = λ n. record { accepted = other.accepted; repeats = other.repeats; clashes = n; first = told.first; stop = told.stop } in
    let by_first : List EventId → Told = λ ids. record { accepted = other.accepted; repeats = other.repeats; clashes = other.clashes; first = ids; stop = told.stop } in
    let by_stop : Stop → Told = λ s. record { accepted = other.accepted; repeats = other.repeats; clashes = other.clashes; first = other.first; stop = s } in
    ap by_accepted same.accepted ∙ (ap by_repeats same.repeats ∙ (ap by_clashes same.clashes ∙ (ap by_first first ∙ ap by_stop same.stop)))

-- the lines of a collector with their ends, and what stands behind them
collector_parted : (n : ℕ) (told : Told) (rest : List ℕ) → ended_lines (lines_of_collector n told) ++ rest ≡ head_of n told ++ (flat_map (line_of text_of_clash) told.first ++ rest)
collector_parted n told rest =
    append_assoc (head_of n told) (ended_lines (map text_of_clash told.first)) rest
    ∙ ap (λ (x : List ℕ). head_of n told ++ (x ++ rest)) (ended-map text_of_clash told.first)

collector_once : (n : ℕ) (told other : Told) (rest more : List ℕ) → IsReadableTold told → IsReadableTold other → HasNoLSecond rest → HasNoLSecond more → ended_lines (lines_of_collector n told) ++ rest ≡ ended_lines (lines_of_collector n other) ++ more → (told ≡ other) × (rest ≡ more)
collector_once n told other rest more fits fits_too ends ends_too same =
    let head = head_once n told other _ _ fits fits_too (sym (collector_parted n told rest) ∙ (same ∙ collector_parted n other more)) in
    let ids = items_once (line_of text_of_clash) FitsId (λ bytes. Unit {0}) HasNoLSecond clashes_are_read told.first other.first rest more fits.first fits_too.first ends ends_too head.behind in
    (same_told told other _ _ head ids.0, ids.1)

-- the lines of each collector, from this number on
abbrev collectors_from : ℕ → List Told → List (List ℕ)
collectors_from n all = flat_map (λ one. lines_of_collector one.0 one.1) (enumerate_from n all)

from_parted : (n : ℕ) (told : Told) (all : List Told) (rest : List ℕ) → ended_lines (collectors_from n (told ∷ all)) ++ rest ≡ ended_lines (lines_of_collector n told) ++ (ended_lines (collectors_from (n + 1) all) ++ rest)
from_parted n told all rest =
    ap (λ (x : List ℕ). x ++ rest) (flat_map-append (λ line. line ++ codes "\n") (lines_of_collector n told) (collectors_from (n + 1) all))
    ∙ append_assoc (ended_lines (lines_of_collector n told)) (ended_lines (collectors_from (n + 1) all)) rest

-- the bytes begin with an `h` and an `e`, as the line of those that are held
abbrev pub BeginsAsHeld : List ℕ → Type 0
BeginsAsHeld bytes = (get_or bytes 0 0 ≡ 104) × (get_or bytes 1 0 ≡ 101)

no_l_from : (n : ℕ) (all : List Told) (rest : List ℕ) → BeginsAsHeld rest → HasNoLSecond (ended_lines (collectors_from n all) ++ rest)
no_l_from n [] rest begins is = omega (arith, is, begins.1)
no_l_from n (told ∷ all) rest begins is = let wrong : 111 ≡ 108 = is in omega (arith, wrong)

pub collectors_once : (n : ℕ) (all others : List Told) (rest more : List ℕ) → AllByRecursion IsReadableTold all → AllByRecursion IsReadableTold others → BeginsAsHeld rest → BeginsAsHeld more → ended_lines (collectors_from n all) ++ rest ≡ ended_lines (collectors_from n others) ++ more → (all ≡ others) × (rest ≡ more)
collectors_once n [] [] rest more fits fits_too begins begins_too same = (refl, same)
collectors_once n [] (other ∷ others) rest more fits fits_too begins begins_too same =
    let wrong : get_or rest 0 0 ≡ 99 = ap (λ (x : List ℕ). get_or x 0 0) same in
    absurd (omega (arith, wrong, begins.0))
collectors_once n (told ∷ all) [] rest more fits fits_too begins begins_too same =
    let wrong : 99 ≡ get_or more 0 0 = ap (λ (x : List ℕ). get_or x 0 0) same in
    absurd (omega (arith, wrong, begins_too.0))
collectors_once n (told ∷ all) (other ∷ others) rest more fits fits_too begins begins_too same =
    let first = collector_once n told other _ _ fits.0 fits_too.0 (no_l_from (n + 1) all rest begins) (no_l_from (n + 1) others more begins_too) (sym (from_parted n told all rest) ∙ (same ∙ from_parted n other others more)) in
    let behind = collectors_once (n + 1) all others rest more fits.1 fits_too.1 begins begins_too first.1 in
    let one : told ≡ other = first.0 in
    let tail : all ≡ others = behind.0 in
    (cc, behind.1)
