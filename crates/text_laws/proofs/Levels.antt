-- The sizes of the levels and from when on clusters merge are read in one way.
use Rattle.std.proofs.Common.{◌≡◌, ◌≢◌, ℕ, ◌^◌, ◌<◌, ◌⊎◌, Bool, if◌then◌else◌, inl, inr, List, [], ◌∷◌, ◌++◌, length, get_or, refl, sym, ◌∙◌, ap, arith, append_assoc, ne_eqb}
use Rattle.std.specs.Prelude.{codes, decimal}
use Rattle.std.specs.List.{AllByRecursion, flat_map}
use Rattle.std.proofs.lemmas.Bool.{cases_eq}
use Rattle.std.proofs.lemmas.Fmt.{decimal_nonempty}
use Rattle.std.proofs.lemmas.List.{append_cancel_left}
use Rattle.answer_text.specs.Texts.{text_of_count}
use Rattle.run_text.specs.Lines.{text_of_after, text_of_levels, with_number}
use Rattle.text_laws.proofs.Items.{AreRead, items_once}
use Rattle.text_laws.proofs.Tokens.{IsDigit, decimal_has_digits, number_once}

-- a byte that is lower than the digits stands first
abbrev IsLowFirst : List ℕ → Type 0
IsLowFirst bytes = (c : ℕ) × (tail : List ℕ) × (c < 48) × (bytes ≡ c ∷ tail)

-- the line ends, or goes on with a space and an `a`
abbrev EndsSizes : List ℕ → Type 0
EndsSizes bytes = (tail : List ℕ) × ((bytes ≡ 10 ∷ tail) ⊎ (bytes ≡ 32 ∷ 97 ∷ tail))

low_first : (bytes : List ℕ) → EndsSizes bytes → IsLowFirst bytes
low_first bytes ends = elim ends.1 [ inl feed ↦ (10, ends.0, omega arith, feed) | inr space ↦ (32, 97 ∷ ends.0, omega arith, space) ]

-- no number begins with an `a`
no_letter : (bytes rest tail : List ℕ) → AllByRecursion IsDigit bytes → 0 < length bytes → bytes ++ rest ≡ 97 ∷ tail → ⊥
no_letter [] rest tail digits some same = omega arith
no_letter (b ∷ bytes) rest tail digits some same = let is : b ≡ 97 = ap (λ (x : List ℕ). get_or x 0 0) same in omega (arith, is, digits.0.1)

no_size : (n : ℕ) (rest : List ℕ) → n < 2 ^ 64 → EndsSizes (text_of_count n ++ rest) → ⊥
no_size n rest fits ends = elim ends.1 [
  | inl feed ↦ (let wrong : 32 ≡ 10 = ap (λ (x : List ℕ). get_or x 0 0) feed in omega (arith, wrong))
  | inr space ↦ no_letter (decimal n) rest ends.0 (decimal_has_digits n) (decimal_nonempty n fits) (append_cancel_left (32 ∷ []) _ _ space)
]

size_once : (m n : ℕ) (rest more : List ℕ) → m < 2 ^ 64 → n < 2 ^ 64 → IsLowFirst rest → IsLowFirst more → text_of_count m ++ rest ≡ text_of_count n ++ more → (m ≡ n) × (rest ≡ more)
size_once m n rest more fits fits_too low low_too same =
    let parted : decimal m ++ rest ≡ decimal n ++ more = append_cancel_left (32 ∷ []) _ _ same in
    let shown : decimal m ++ low.0 ∷ low.1 ≡ decimal n ++ low_too.0 ∷ low_too.1 = ap (λ (x : List ℕ). decimal m ++ x) (sym low.3) ∙ (parted ∙ ap (λ (x : List ℕ). decimal n ++ x) low_too.3) in
    let once = number_once m n low.0 low_too.0 low.1 low_too.1 fits fits_too low.2 low_too.2 shown in
    let byte : low.0 ≡ low_too.0 = once.1 in
    let tail : low.1 ≡ low_too.1 = once.2 in
    let is : rest ≡ low.0 ∷ low.1 = low.3 in
    let is_too : more ≡ low_too.0 ∷ low_too.1 = low_too.3 in
    (once.0, cc)

sizes_are_read : AreRead text_of_count (λ n. n < 2 ^ 64) IsLowFirst EndsSizes
sizes_are_read = record {
  end_behind = low_first;
  item_behind = λ n rest. (32, decimal n ++ rest, omega arith, refl);
  no_end = no_size;
  once = size_once;
}

-- what is written of when clusters merge
after_is : (after : ℕ) → ((after ≡ 1) × (text_of_after after ≡ [])) ⊎ ((after ≢ 1) × (text_of_after after ≡ with_number (codes " after ") after))
after_is after = elim (cases_eq after 1) [
  | inl is ↦ inl (is, ap text_of_after is)
  | inr other ↦ inr (other, ap (λ (t : Bool). if t then [] else with_number (codes " after ") after) (ne_eqb after 1 other))
]

after_ends : (after : ℕ) (rest : List ℕ) → EndsSizes (text_of_after after ++ 10 ∷ rest)
after_ends after rest = elim (after_is after) [
  | inl one ↦ (rest, inl (ap (λ (x : List ℕ). x ++ 10 ∷ rest) one.1))
  | inr other ↦ (_, inr (ap (λ (x : List ℕ). x ++ 10 ∷ rest) other.1))
]

after_once : (a b : ℕ) (rest more : List ℕ) → a < 2 ^ 64 → b < 2 ^ 64 → text_of_after a ++ 10 ∷ rest ≡ text_of_after b ++ 10 ∷ more → (a ≡ b) × (rest ≡ more)
after_once a b rest more fits fits_too same = elim (after_is a) [
  | inl one ↦ elim (after_is b) [
    | inl also ↦ (one.0 ∙ sym also.0, append_cancel_left (10 ∷ []) rest more (ap (λ (x : List ℕ). x ++ 10 ∷ rest) (sym one.1) ∙ (same ∙ ap (λ (x : List ℕ). x ++ 10 ∷ more) also.1)))
    | inr other ↦
        let shown : 10 ∷ rest ≡ with_number (codes " after ") b ++ 10 ∷ more = ap (λ (x : List ℕ). x ++ 10 ∷ rest) (sym one.1) ∙ (same ∙ ap (λ (x : List ℕ). x ++ 10 ∷ more) other.1) in
        let wrong : 10 ≡ 32 = ap (λ (x : List ℕ). get_or x 0 0) shown in
        absurd (omega (arith, wrong))
  ]
  | inr other ↦ elim (after_is b) [
    | inl one ↦
        let shown : with_number (codes " after ") a ++ 10 ∷ rest ≡ 10 ∷ more = ap (λ (x : List ℕ). x ++ 10 ∷ rest) (sym other.1) ∙ (same ∙ ap (λ (x : List ℕ). x ++ 10 ∷ more) one.1) in
        let wrong : 32 ≡ 10 = ap (λ (x : List ℕ). get_or x 0 0) shown in
        absurd (omega (arith, wrong))
    | inr also ↦
        let shown : with_number (codes " after ") a ++ 10 ∷ rest ≡ with_number (codes " after ") b ++ 10 ∷ more = ap (λ (x : List ℕ). x ++ 10 ∷ rest) (sym other.1) ∙ (same ∙ ap (λ (x : List ℕ). x ++ 10 ∷ more) also.1) in
        let parted : decimal a ++ 10 ∷ rest ≡ decimal b ++ 10 ∷ more = append_cancel_left (codes " after ") _ _ (sym (append_assoc (codes " after ") (decimal a) (10 ∷ rest)) ∙ (shown ∙ append_assoc (codes " after ") (decimal b) (10 ∷ more))) in
        let once = number_once a b 10 10 rest more fits fits_too (omega arith) (omega arith) parted in
        (once.0, once.2)
  ]
]

levels_parted : (a b c rest : List ℕ) → (((a ++ b) ++ c) ++ codes "\n") ++ rest ≡ a ++ (b ++ (c ++ 10 ∷ rest))
levels_parted a b c rest = four a b c (codes "\n") rest
  where
    four : (a b c d rest : List ℕ) → (((a ++ b) ++ c) ++ d) ++ rest ≡ a ++ (b ++ (c ++ (d ++ rest)))
    four a b c d rest = simp append_assoc

-- the line of the levels, and what stands behind it
pub levels_once : (sizes others : List ℕ) (after other : ℕ) (rest more : List ℕ) → AllByRecursion (λ n. n < 2 ^ 64) sizes → AllByRecursion (λ n. n < 2 ^ 64) others → after < 2 ^ 64 → other < 2 ^ 64
    → (text_of_levels sizes after ++ codes "\n") ++ rest ≡ (text_of_levels others other ++ codes "\n") ++ more → (sizes ≡ others) × (after ≡ other) × (rest ≡ more)
levels_once sizes others after other rest more fit fit_too fits fits_too same =
    let parted = append_cancel_left (codes "levels") (flat_map text_of_count sizes ++ (text_of_after after ++ 10 ∷ rest)) (flat_map text_of_count others ++ (text_of_after other ++ 10 ∷ more))
    (sym (levels_parted (codes "levels") (flat_map text_of_count sizes) (text_of_after after) rest) ∙ (same ∙ levels_parted (codes "levels") (flat_map text_of_count others) (text_of_after other) more)) in
    let once = items_once text_of_count (λ n. n < 2 ^ 64) IsLowFirst EndsSizes sizes_are_read sizes others _ _ fit fit_too (after_ends after rest) (after_ends other more) parted in
    let ends = after_once after other rest more fits fits_too once.1 in
    (once.0, ends.0, ends.1)
