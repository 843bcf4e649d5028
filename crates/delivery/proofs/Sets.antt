-- Which traces a set has once a bit was set or cleared.
use Rattle.std.proofs.Common.{◌≡◌, ◌≢◌, ◌<◌, ◌≤◌, ◌+◌, ◌*◌, ◌/◌, ◌%◌, ◌^◌, ◌⊎◌, ◌↔◌, ℕ, List, length, set, sym, ◌∙◌, ap, arith, inl, inr, w64}
use Rattle.std.specs.Prelude.{slice_index, bit_or, bit_and}
use Rattle.std.specs.Int.{bit_at, bit_not, trailing_zeros}
use Rattle.std.proofs.lemmas.Bool.{cases_eq, cases_lt}
use Rattle.std.proofs.lemmas.List.{get_or-set_same, get_or-set_other}
use Rattle.std.proofs.lemmas.Nat.Bits.{bit_at-trailing_zeros, bit_at_set_same, bit_at_set_other, bit_at_clear_same, bit_at_clear_other}
use Rattle.delivery.specs.TraceSets.{IsIn}

module _ (words : List ℕ) (size : length words ≡ 4) (trace : ℕ) (below : trace < 256) where
  abbrev old : ℕ
  old = slice_index words (trace / 64)

  inside : trace / 64 < length words
  inside = omega (arith, size, below)

  -- a bit of the word that was written, and of another
  here : (word other : ℕ) → other / 64 ≡ trace / 64 → bit_at (slice_index (set words (trace / 64) word) (other / 64)) (other % 64) ≡ bit_at word (other % 64)
  here word other same =
      ap (λ k. bit_at (slice_index (set words (trace / 64) word) k) (other % 64)) same
      ∙ ap (λ v. bit_at v (other % 64)) (get_or-set_same words (trace / 64) word 0 inside)

  elsewhere : (word other : ℕ) → other / 64 ≢ trace / 64 → bit_at (slice_index (set words (trace / 64) word) (other / 64)) (other % 64) ≡ bit_at (slice_index words (other / 64)) (other % 64)
  elsewhere word other apart = ap (λ v. bit_at v (other % 64)) (get_or-set_other words (trace / 64) (other / 64) word 0 apart)

  old_bit : (other : ℕ) → other / 64 ≡ trace / 64 → bit_at old (other % 64) ≡ bit_at (slice_index words (other / 64)) (other % 64)
  old_bit other same = ap (λ k. bit_at (slice_index words k) (other % 64)) (sym same)

  is_trace : (other : ℕ) → other / 64 ≡ trace / 64 → other % 64 ≡ trace % 64 → other ≡ trace
  is_trace other quotient rest = omega (arith, quotient, rest)

  abbrev set_word : ℕ
  set_word = bit_or old (1 * 2 ^ (trace % 64) % 2 ^ 64)

  abbrev cleared_word : ℕ
  cleared_word = bit_and old (bit_not w64 (1 * 2 ^ (trace % 64) % 2 ^ 64))

  low : trace % 64 < 64
  low = omega arith

  pub inserted : (other : ℕ) → IsIn (set words (trace / 64) set_word) other ↔ (IsIn words other ⊎ (other ≡ trace))
  inserted other = elim (cases_eq (other / 64) (trace / 64)) [
    | inr apart ↦ (
      (λ is. inl (sym (elsewhere set_word other apart) ∙ is)),
      (λ either. elim either [ inl was ↦ elsewhere set_word other apart ∙ was | inr same ↦ absurd (apart (ap (λ t. t / 64) same)) ]),
    )
    | inl quotient ↦ elim (cases_eq (other % 64) (trace % 64)) [
      | inl rest ↦ (
        (λ is. inr (is_trace other quotient rest)),
        (λ either. here set_word other quotient ∙ (ap (bit_at set_word) rest ∙ bit_at_set_same w64 old (trace % 64) low)),
      )
      | inr apart ↦
          let same = here set_word other quotient ∙ (bit_at_set_other w64 old (trace % 64) low (other % 64) apart ∙ old_bit other quotient) in (
            (λ is. inl (sym same ∙ is)),
            (λ either. elim either [ inl was ↦ same ∙ was | inr is ↦ absurd (apart (ap (λ t. t % 64) is)) ]),
          )
    ]
  ]

  pub removed : (other : ℕ) → IsIn (set words (trace / 64) cleared_word) other ↔ (IsIn words other × (other ≢ trace))
  removed other = elim (cases_eq (other / 64) (trace / 64)) [
    | inr apart ↦ (
      (λ is. (sym (elsewhere cleared_word other apart) ∙ is, λ same. apart (ap (λ t. t / 64) same))),
      (λ both. elsewhere cleared_word other apart ∙ both.0),
    )
    | inl quotient ↦ elim (cases_eq (other % 64) (trace % 64)) [
      | inl rest ↦
          let clear = here cleared_word other quotient ∙ (ap (bit_at cleared_word) rest ∙ bit_at_clear_same w64 old (trace % 64) low) in (
            (λ is. absurd (omega (arith, clear, is))),
            (λ both. absurd (both.1 (is_trace other quotient rest))),
          )
      | inr apart ↦
          let same = here cleared_word other quotient ∙ (bit_at_clear_other w64 old (trace % 64) low (other % 64) (omega arith) apart ∙ old_bit other quotient) in (
            (λ is. (sym same ∙ is, λ is_same. apart (ap (λ t. t % 64) is_same))),
            (λ both. same ∙ both.0),
          )
    ]
  ]

-- the lowest bit of the first word that has one
pub lowest_is : (words : List ℕ) (at : ℕ) → at < 4 → 0 < slice_index words at → slice_index words at < 2 ^ 64 → ((trace : ℕ) → trace / 64 < at → IsIn words trace → ⊥)
    → (at * 64 + trailing_zeros w64 (slice_index words at) < 256) × IsIn words (at * 64 + trailing_zeros w64 (slice_index words at))
    × ((other : ℕ) → other < 256 → IsIn words other → at * 64 + trailing_zeros w64 (slice_index words at) ≤ other)
lowest_is words at below some fits before =
    let word = slice_index words at in
    let low = bit_at-trailing_zeros w64 word some fits in
    let bit = trailing_zeros w64 word in
    let small : bit < 64 = low.0 in
    let quotient : (at * 64 + bit) / 64 ≡ at = omega (arith, small) in
    let rest : (at * 64 + bit) % 64 ≡ bit = omega (arith, small) in (
      omega (arith, below, small),
      ap (λ k. bit_at (slice_index words k) ((at * 64 + bit) % 64)) quotient ∙ (ap (bit_at word) rest ∙ low.1),
      λ other within is. elim (cases_lt other (at * 64 + bit)) [
        | inr most ↦ most
        | inl less ↦ elim (cases_lt (other / 64) at) [
          | inl earlier ↦ absurd (before other earlier is)
          | inr later ↦
              let same : other / 64 ≡ at = omega (arith, less, later, small) in
              let under : other % 64 < bit = omega (arith, less, same) in
              let none = low.2 (other % 64) under in
              let stands : bit_at word (other % 64) ≡ 1 = ap (λ k. bit_at (slice_index words k) (other % 64)) (sym same) ∙ is in
              absurd (omega (arith, none, stands))
        ]
      ],
    )
