-- The last level above another, and the links that lead to it.
use Rattle.std.proofs.Common.{◌≡◌, ◌⊎◌, ◌≤◌, ◌<◌, ℕ, zero, suc, List, Bool, true, false, cond, refl, sym, ◌∙◌, ap, subst, arith, inl, inr, Option, None, Some}
use Rattle.std.specs.Prelude.{slice_get, nat_lt}
use Rattle.std.proofs.lemmas.Bool.{ltb-true, cases_order}
use Rattle.std.proofs.lemmas.Bool.Decides.{leb_tells}
use Rattle.projected_stamp.specs.Above.{is_above, last_above}

-- a level is above another, or it isn't
above_or_not : (level its : ℕ) → ((nat_lt level its ≡ true) × (level < its)) ⊎ ((nat_lt level its ≡ false) × (its ≤ level))
above_or_not level its = elim (leb_tells (suc level) its) [
  | inl above ↦ inl (above.0, let lt = above.1 in omega (arith, lt))
  | inr not ↦ inr (not.0, let le = not.1 in omega (arith, le))
]

-- what is above no lower level is above no greater one
not_above : (lower level : ℕ) → lower ≤ level → (found : Option ℕ) → is_above lower found ≡ false → is_above level found ≡ false
not_above lower level le None h = refl
not_above lower level le (Some its) h = elim (above_or_not level its) [
  | inr not ↦ not.0
  | inl above ↦ elim (above_or_not lower its) [
    | inl same ↦ (let apart : true ≡ false = sym same.0 ∙ h in absurd cc)
    | inr not ↦ (let low = not.1 in let high = above.1 in absurd (omega (arith, le, low, high)))
  ]
]

stands_above : (level : ℕ) (found there : Option ℕ) → found ≡ there → is_above level there ≡ true → (its : ℕ) × (found ≡ Some its) × (level < its)
stands_above level found None place h = absurd cc
stands_above level found (Some its) place h = (its, place, ltb-true level its h)

not_greater : (level its : ℕ) → is_above level (Some its) ≡ false → its ≤ level
not_greater level its h = elim (above_or_not level its) [
  | inr not ↦ not.1
  | inl above ↦ (let apart : true ≡ false = sym above.0 ∙ h in absurd cc)
]

most_by_test : (test : Bool) (before rest : ℕ) → rest ≤ before → cond test (suc before) rest ≤ suc before
most_by_test true before rest le = omega arith
most_by_test false before rest le = omega (arith, le)

module _ (levels : List ℕ) where
  abbrev step : ℕ → ℕ → Bool → ℕ
  step level before test = cond test (suc before) (last_above levels level before)

  pub last_above-most : (level n : ℕ) → last_above levels level n ≤ n
  last_above-most level zero = omega arith
  last_above-most level (suc before) = most_by_test (is_above level (slice_get levels before)) before (last_above levels level before) (last_above-most level before)

  through_by_test : (lower level before : ℕ) → lower ≤ level → (test : Bool) → is_above lower (slice_get levels before) ≡ test
      → last_above levels level (last_above levels lower before) ≡ last_above levels level before
      → last_above levels level (step lower before test) ≡ last_above levels level (suc before)
  through_by_test lower level before le true is rest = refl
  through_by_test lower level before le false is rest = rest ∙ sym (ap (step level before) (not_above lower level le (slice_get levels before) is))

  -- the last above a greater level is sought from the last above a lower one
  pub last_above-through : (lower level n : ℕ) → lower ≤ level → last_above levels level (last_above levels lower n) ≡ last_above levels level n
  last_above-through lower level zero le = refl
  last_above-through lower level (suc before) le = through_by_test lower level before le (is_above lower (slice_get levels before)) refl (last_above-through lower level before le)

  -- Where there is one, it has a greater level.
  abbrev Stands : ℕ → ℕ → Type 0
  Stands level before = (its : ℕ) × (slice_get levels before ≡ Some its) × (level < its)

  stands_by_test : (level at before : ℕ) (test : Bool) → is_above level (slice_get levels at) ≡ test → last_above levels level (suc at) ≡ suc before
      → (last_above levels level at ≡ suc before → Stands level before) → Stands level before
  stands_by_test level at before true h is rest =
      let here : suc at ≡ suc before = sym (ap (step level at) h) ∙ is in
      let same : at ≡ before = omega (arith, here) in
      subst (Stands level) same (stands_above level (slice_get levels at) (slice_get levels at) refl h)
  stands_by_test level at before false h is rest = rest (sym (ap (step level at) h) ∙ is)

  pub last_above-stands : (level n before : ℕ) → last_above levels level n ≡ suc before → Stands level before
  last_above-stands level zero before is = absurd (omega (arith, is))
  last_above-stands level (suc at) before is = stands_by_test level at before (is_above level (slice_get levels at)) refl is (last_above-stands level at before)

  last_by_test : (level at later : ℕ) (other : ℕ) (test : Bool) → is_above level (slice_get levels at) ≡ test → last_above levels level (suc at) < suc later → suc later ≤ suc at → slice_get levels later ≡ Some other
      → (last_above levels level at < suc later → suc later ≤ at → other ≤ level) → other ≤ level
  last_by_test level at later other true h behind within there rest =
      let last : last_above levels level (suc at) ≡ suc at = ap (step level at) h in
      absurd (omega (arith, behind, within, last))
  last_by_test level at later other false h behind within there rest =
      let same : last_above levels level (suc at) ≡ last_above levels level at = ap (step level at) h in
      elim (cases_order later at) [
        | inl is ↦ (
            let place : slice_get levels at ≡ Some other = subst (λ k. slice_get levels k ≡ Some other) is there in
            not_greater level other (sym (ap (is_above level) place) ∙ h))
        | inr apart ↦ elim apart [
          | inl before ↦ rest (omega (arith, behind, same)) (omega (arith, before))
          | inr past ↦ absurd (omega (arith, past, within))
        ]
      ]

  -- none behind it has a greater level
  pub last_above-last : (level n later : ℕ) (other : ℕ) → last_above levels level n < suc later → suc later ≤ n → slice_get levels later ≡ Some other → other ≤ level
  last_above-last level zero later other behind within there = absurd (omega (arith, within))
  last_above-last level (suc at) later other behind within there =
      last_by_test level at later other (is_above level (slice_get levels at)) refl behind within there (λ after inside. last_above-last level at later other after inside there)

  -- a level that is no greater is passed over
  pub last_above-passed : (level before its : ℕ) → slice_get levels before ≡ Some its → its ≤ level → last_above levels level (suc before) ≡ last_above levels level before
  last_above-passed level before its there low = ap (step level before) (ap (is_above level) there ∙ passed)
    where
      passed : is_above level (Some its) ≡ false
      passed = elim (above_or_not level its) [
        | inr not ↦ not.0
        | inl above ↦ (let high = above.1 in absurd (omega (arith, low, high)))
      ]
