-- Following the link that a stamp is kept with.
use Rattle.std.proofs.Common.{◌≡◌, ◌≤◌, ◌<◌, ◌-◌, ℕ, suc, List, sym, ◌∙◌, ap, subst, arith, Some}
use Rattle.std.specs.Prelude.{slice_get}
use Rattle.projected_stamp.specs.declared.above.Kept.{Kept}
use Rattle.projected_stamp.specs.Above.{last_above, levels_of, IsLinked}
use Rattle.projected_stamp.proofs.Aboves.{last_above-most, last_above-through, last_above-passed}
use Rattle.projected_stamp.proofs.StampsOf.{level_found}

module _ (kept : List Kept) (linked : IsLinked kept) (level number : ℕ) (k : Kept) (some : 0 < number) (there : slice_get kept (number - 1) ≡ Some k) (low : k.level ≤ level) where
  link : k.above ≡ last_above (levels_of kept) k.level (number - 1)
  link = linked (number - 1) k there

  pub link-smaller : k.above < number
  link-smaller = let most = last_above-most (levels_of kept) k.level (number - 1) in let is = link in omega (arith, is, most, some)

  pub link-same : last_above (levels_of kept) level k.above ≡ last_above (levels_of kept) level number
  link-same =
      let passed = last_above-passed (levels_of kept) level (number - 1) k.level (level_found kept (number - 1) k there) low in
      let next : suc (number - 1) ≡ number = omega (arith, some) in
      ap (last_above (levels_of kept) level) link
      ∙ (last_above-through (levels_of kept) k.level level (number - 1) low
      ∙ sym (subst (λ n. last_above (levels_of kept) level n ≡ last_above (levels_of kept) level (number - 1)) next passed))
