-- What the look-up of the last stamp above a level finds.
use Rattle.std.proofs.Common.{◌≡◌, ◌⊎◌, ◌≤◌, ◌<◌, ◌-◌, ℕ, suc, List, length, map, sym, ◌∙◌, ap, arith, inl, inr, refl, None, Some}
use Rattle.std.specs.Prelude.{slice_get, Option}
use Rattle.std.specs.Option.{option_map, unwrap_or}
use Rattle.std.proofs.lemmas.Bool.{cases_order}
use Rattle.std.proofs.lemmas.Option.{slice_get-map, slice_get_within}
use Rattle.causal_base.specs.Stamps.{ClusterTimestamp}
use Rattle.projected_stamp.specs.StampLists.{IsAt, IsLastOf, HasNoneAbove}
use Rattle.projected_stamp.specs.Above.{last_above}
use Rattle.projected_stamp.proofs.Aboves.{last_above-most, last_above-stands, last_above-last}

abbrev its_level : ClusterTimestamp → ℕ
its_level s = s.level

module _ (stamps : List ClusterTimestamp) (levels : List ℕ) (are : map (λ (s : ClusterTimestamp). s.level) stamps ≡ levels)
    (count upto within level number : ℕ) (all : count ≡ length stamps) (least : within ≤ upto) (one : (within ≡ count) ⊎ (within ≡ upto)) (is : number ≡ last_above levels level within) where
  level_at : (at : ℕ) (s : ClusterTimestamp) → slice_get stamps at ≡ Some s → slice_get levels at ≡ Some s.level
  level_at at s there = ap (λ (l : List ℕ). slice_get l at) (sym are) ∙ (slice_get-map its_level stamps at ∙ ap (option_map its_level) there)

  behind : (later : ℕ) (other : ClusterTimestamp) → number < later → later ≤ upto → IsAt stamps later other → other.level ≤ level
  behind later other after most at =
      let from = at.from in
      let place : later - 1 < length stamps = slice_get_within stamps (later - 1) other at.stands in
      let inside : later ≤ within = elim one [
        | inl c ↦ omega (arith, c, all, place, from)
        | inr u ↦ omega (arith, u, most)
      ] in
      last_above-last levels level within (later - 1) other.level (omega (arith, after, is, from)) (omega (arith, inside, from)) (level_at (later - 1) other at.stands)

  stands : 1 ≤ number → (its : ℕ) × (slice_get levels (number - 1) ≡ Some its) × (level < its)
  stands from = let next : number ≡ suc (number - 1) = omega (arith, from) in last_above-stands levels level within (number - 1) (sym is ∙ next)

  pub is_last : (stamp : ClusterTimestamp) → IsAt stamps number stamp → IsLastOf stamps upto level number stamp
  is_last stamp at =
      let found = stands at.from in
      let same : found.0 ≡ stamp.level = ap (λ (o : Option ℕ). unwrap_or o stamp.level) (sym found.1 ∙ level_at (number - 1) stamp at.stands) in
      record {
        at = at;
        most = (let most = last_above-most levels level within in omega (arith, most, is, least));
        above = (let above = found.2 in omega (arith, above, same));
        last = behind;
      }

  pub none_above : ((stamp : ClusterTimestamp) → IsAt stamps number stamp → ⊥) → HasNoneAbove stamps upto level
  none_above missing later other most at = elim (cases_order number 0) [
    | inl none ↦ (let from = at.from in behind later other (omega (arith, none, from)) most at)
    | inr apart ↦ elim apart [
      | inl less ↦ absurd (omega (arith, less))
      | inr some ↦ (
          let from : 1 ≤ number = omega (arith, some) in
          let found = stands from in
          let there = stamp_at (slice_get stamps (number - 1)) from found.0 (sym (slice_get-map its_level stamps (number - 1)) ∙ (ap (λ (l : List ℕ). slice_get l (number - 1)) are ∙ found.1)) in
          absurd (missing there.0 (record { from = from; stands = there.1 })))
    ]
  ]
    where
      stamp_at : (found : Option ClusterTimestamp) → 1 ≤ number → (its : ℕ) → option_map its_level found ≡ Some its → (stamp : ClusterTimestamp) × (found ≡ Some stamp)
      stamp_at None from its is = absurd cc
      stamp_at (Some stamp) from its is = (stamp, refl)
