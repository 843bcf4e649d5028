-- Numbers and ids that a byte ends, which is no digit, are read in one way.
use Rattle.std.proofs.Common.{◌≡◌, ℕ, ◌+◌, ◌/◌, ◌%◌, ◌^◌, ◌<◌, ◌≤◌, zero, suc, Bool, true, false, if◌then◌else◌, ◌==◌, List, [], ◌∷◌, ◌++◌, sym, ◌∙◌, subst, arith, append_assoc, lt-ltb}
use Rattle.std.specs.Prelude.{nat_lt}
use Rattle.std.specs.Fmt.{decimal, digits, digits_onto, digit_glyph}
use Rattle.std.specs.List.{AllByRecursion}
use Rattle.std.proofs.lemmas.Fmt.{decimal_injective}
use Rattle.causal_base.specs.declared.event_id.EventId.{EventId}
use Rattle.causal_base.specs.Spelling.{id_text}
use Rattle.causal_base.proofs.CallerLemmas.{same_id}

-- a digit
abbrev pub IsDigit : ℕ → Type 0
IsDigit byte = (48 ≤ byte) × (byte ≤ 57)

glyph_is_digit : (n : ℕ) → IsDigit (digit_glyph false (n % 10))
glyph_is_digit n =
    let small : n % 10 < 10 = omega arith in
    let below : nat_lt (n % 10) 10 ≡ true = lt-ltb (n % 10) 10 small in
    subst (λ (t : Bool). IsDigit (if t then 48 + n % 10 else 87 + n % 10)) (sym below) (omega arith, omega arith)

digits_onto_are : (k n : ℕ) (behind : List ℕ) → AllByRecursion IsDigit behind → AllByRecursion IsDigit (digits_onto k 10 false n behind)
digits_onto_are zero n behind all = all
digits_onto_are (suc k) n behind all =
    let more : AllByRecursion IsDigit (digit_glyph false (n % 10) ∷ behind) = (glyph_is_digit n, all) in
    elim (n / 10 == 0) as (λ t. AllByRecursion IsDigit (if t then digit_glyph false (n % 10) ∷ behind else digits_onto k 10 false (n / 10) (digit_glyph false (n % 10) ∷ behind)))
    [ true ↦ more | false ↦ digits_onto_are k (n / 10) (digit_glyph false (n % 10) ∷ behind) more ]

-- a number in decimal has digits alone
pub decimal_has_digits : (n : ℕ) → AllByRecursion IsDigit (decimal n)
unfolding digits
decimal_has_digits n = digits_onto_are 64 n [] tt

-- no byte below the digits
abbrev pub IsHigh : List ℕ → Type 0
IsHigh bytes = AllByRecursion (λ byte. 48 ≤ byte) bytes

digits_are_high : (bytes : List ℕ) → AllByRecursion IsDigit bytes → IsHigh bytes
digits_are_high [] all = tt
digits_are_high (b ∷ bytes) all = (all.0.0, digits_are_high bytes all.1)

pub decimal_is_high : (n : ℕ) → IsHigh (decimal n)
decimal_is_high n = digits_are_high (decimal n) (decimal_has_digits n)

-- the front, the byte behind it and the rest are the same
abbrev pub AreSame : {X : Type 0} → X → X → (c d : ℕ) → (rest more : List ℕ) → Type 0
AreSame x y c d rest more = (x ≡ y) × (c ≡ d) × (rest ≡ more)

-- bytes that are no lower than digits, with a lower one behind them, are read in one way
pub high_once : (front other : List ℕ) (c d : ℕ) (rest more : List ℕ) → IsHigh front → IsHigh other → c < 48 → d < 48 → front ++ c ∷ rest ≡ other ++ d ∷ more → AreSame front other c d rest more
high_once [] [] c d rest more high high_too low low_too same = (cc, cc, cc)
high_once [] (b ∷ bs) c d rest more high high_too low low_too same =
    let is : c ≡ b = cc in absurd (omega (arith, is, low, high_too.0))
high_once (a ∷ as_) [] c d rest more high high_too low low_too same =
    let is : a ≡ d = cc in absurd (omega (arith, is, low_too, high.0))
high_once (a ∷ as_) (b ∷ bs) c d rest more high high_too low low_too same =
    let tails : as_ ++ c ∷ rest ≡ bs ++ d ∷ more = cc in
    let first : a ≡ b = cc in
    let others : AreSame as_ bs c d rest more = high_once as_ bs c d rest more high.1 high_too.1 low low_too tails in
    let behind : as_ ≡ bs = others.0 in
    (cc, others.1, others.2)

-- a number and what stands behind it
pub number_once : (m n c d : ℕ) (rest more : List ℕ) → m < 2 ^ 64 → n < 2 ^ 64 → c < 48 → d < 48 → decimal m ++ c ∷ rest ≡ decimal n ++ d ∷ more → AreSame m n c d rest more
number_once m n c d rest more fits fits_too low low_too same =
    let once = high_once (decimal m) (decimal n) c d rest more (decimal_is_high m) (decimal_is_high n) low low_too same in
    (decimal_injective m n fits fits_too once.0, once.1, once.2)

-- an id and what stands behind it
pub id_once : (a b : EventId) (c d : ℕ) (rest more : List ℕ) → a.trace < 2 ^ 64 → b.trace < 2 ^ 64 → a.number < 2 ^ 64 → b.number < 2 ^ 64 → c < 48 → d < 48 → id_text a ++ c ∷ rest ≡ id_text b ++ d ∷ more → AreSame a b c d rest more
id_once a b c d rest more fits_a fits_b number_a number_b low low_too same =
    let parted : decimal a.trace ++ 46 ∷ (decimal a.number ++ c ∷ rest) ≡ decimal b.trace ++ 46 ∷ (decimal b.number ++ d ∷ more) =
    sym (append_assoc (decimal a.trace) (46 ∷ decimal a.number) (c ∷ rest)) ∙ (same ∙ append_assoc (decimal b.trace) (46 ∷ decimal b.number) (d ∷ more)) in
    let traces = number_once a.trace b.trace 46 46 (decimal a.number ++ c ∷ rest) (decimal b.number ++ d ∷ more) fits_a fits_b (omega arith) (omega arith) parted in
    let numbers = number_once a.number b.number c d rest more number_a number_b low low_too traces.2 in
    (same_id a b traces.0 numbers.0, numbers.1, numbers.2)
