use Rattle.std.proofs.Common.{◌≡◌, ◌≢◌, ℕ, ◌+◌, ◌-◌, ◌*◌, ◌^◌, ◌<◌, ◌≤◌, List, length, All, get_or, take, length-take, ◌∙◌, sym, refl, ap, subst, inl, inr, lit<, arith}
use Rattle.std.specs.Prelude.{decimal}
use Rattle.std.specs.Int.{IsInRange}
use Rattle.std.specs.Str.Parse.{AllDigits, digits_value}
use Rattle.std.proofs.lemmas.Str.Parse.{IsNumeralModel, numerals_by_value, tells_digits, not_in_digits, digits_value_short}
use Rattle.std.proofs.lemmas.Fmt.{decimal_digit, digits_decimal, decimal_nonempty, length-decimal-le, first_decimal, decimal-digits_value}
use Rattle.std.proofs.lemmas.Int.Digits.{digits_value_more}
use Rattle.std.proofs.lemmas.Str.{digit_value_digit}
use Rattle.std.proofs.lemmas.Bool.{cases_eq}
use Rattle.std.proofs.lemmas.List.Elements.{All-from_get_or}
use Rattle.causal_base.specs.Spelling.{IsNumber}

-- std's own words for digits and their value
pub own_digits : IsNumeralModel (AllDigits 10) (digits_value 10)
own_digits = numerals_by_value _ tells_digits

-- the numbers that have a spelling fit 64 bits
pub below_two_to_64 : (n : ℕ) → n < 10 ^ 18 → n < 2 ^ 64
below_two_to_64 n small = omega arith

-- What the bytes of a number look like.
pub record IsShapedAsNumber (bytes : List ℕ) : Type 0 where
  pub some : 0 < length bytes
  pub most : length bytes ≤ 18
  pub digits : AllDigits 10 bytes
  pub no_leading_zero : get_or bytes 0 0 ≡ 48 → length bytes ≡ 1

-- only 0 begins with a zero
zero_alone : (n : ℕ) → n < 2 ^ 64 → get_or (decimal n) 0 0 ≡ 48 → length (decimal n) ≡ 1
zero_alone n fits zero = elim (cases_eq n 0) [
  | inl none ↦ rw (none, decimal_digit 0 (lit< tt)) refl
  | inr some ↦ let above : 48 < get_or (decimal n) 0 0 = first_decimal n (omega arith) fits in absurd (omega arith)
]

pub number_is_shaped : (bytes : List ℕ) (n : ℕ) → IsNumber bytes n → IsShapedAsNumber bytes
number_is_shaped bytes n number =
    let small = number.small in
    let fits : n < 2 ^ 64 = below_two_to_64 n small in
    subst IsShapedAsNumber (sym number.spelled) (record {
      some = decimal_nonempty n fits;
      most = length-decimal-le 18 n (omega arith) small fits;
      digits = digits_decimal own_digits n fits;
      no_leading_zero = zero_alone n fits;
    })

-- a decimal number has no byte that isn't a digit
pub decimal_lacks : (c n : ℕ) → n < 10 ^ 18 → (IsInRange 48 57 c → ⊥) → All (λ b. b ≢ c) (decimal n)
decimal_lacks c n small other = All-from_get_or (λ b. b ≢ c) (decimal n) 0 (λ i within. not_in_digits own_digits (decimal n) c (digits_decimal own_digits n (below_two_to_64 n small)) other i within)

-- digits with no leading zero spell their value
pub digits_are_number : (bytes : List ℕ) → IsShapedAsNumber bytes → IsNumber bytes (digits_value 10 bytes)
digits_are_number bytes shape =
    let small : digits_value 10 bytes < 10 ^ 18 = digits_value_short own_digits bytes 18 shape.digits shape.most in
    record {
      small = small;
      spelled = sym (decimal-digits_value own_digits bytes shape.digits shape.some shape.no_leading_zero (below_two_to_64 _ small));
    }

-- one more digit makes ten times the value, and the digit
pub digits_value_grows : (bytes : List ℕ) (i : ℕ) → i < length bytes → IsInRange 48 57 (get_or bytes i 0) →
    digits_value 10 (take (i + 1) bytes) ≡ digits_value 10 (take i bytes) * 10 + (get_or bytes i 0 - 48)
digits_value_grows bytes i within digit =
    digits_value_more 10 bytes i within ∙ ap (λ d. digits_value 10 (take i bytes) * 10 + d) (omega (arith, digit_value_digit (get_or bytes i 0) digit))

-- the value of fewer than 18 digits leaves room for one more
pub front_is_small : (bytes : List ℕ) (i : ℕ) → i ≤ 17 → AllDigits 10 (take i bytes) → digits_value 10 (take i bytes) < 10 ^ 17
front_is_small bytes i few digits = digits_value_short own_digits (take i bytes) 17 digits (rw length-take (omega arith))
