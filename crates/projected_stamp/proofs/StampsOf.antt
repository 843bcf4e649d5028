-- The stamps and the levels of what is kept.
use Rattle.std.proofs.Common.{◌≡◌, ◌<◌, ◌-◌, ℕ, List, [], ◌∷◌, map, refl, sym, ◌∙◌, ap, arith, None, Some}
use Rattle.std.specs.Prelude.{slice_get}
use Rattle.std.specs.Option.{option_map}
use Rattle.std.proofs.Math.ListN.{get_or-map}
use Rattle.std.proofs.lemmas.Option.{slice_get-map}
use Rattle.causal_base.specs.Stamps.{ClusterTimestamp}
use Rattle.shared_list.specs.Traces.{list_of}
use Rattle.projected_stamp.specs.declared.above.Kept.{Kept}
use Rattle.projected_stamp.specs.StampLists.{StampLists, IsAt}
use Rattle.projected_stamp.specs.Above.{levels_of, stamp_of, stamps_of}

pub level_found : (kept : List Kept) (at : ℕ) (k : Kept) → slice_get kept at ≡ Some k → slice_get (levels_of kept) at ≡ Some k.level
level_found kept at k there = slice_get-map (λ (k : Kept). k.level) kept at ∙ ap (option_map (λ (k : Kept). k.level)) there

module _ (blocks : List (List ℕ)) where
  -- the levels of the stamps
  pub levels-stamps : (kept : List Kept) → map (λ (s : ClusterTimestamp). s.level) (stamps_of blocks kept) ≡ levels_of kept
  levels-stamps [] = refl
  levels-stamps (k ∷ kept) = ap (λ (l : List ℕ). k.level ∷ l) (levels-stamps kept)

  -- the list of a trace, and a stamp of it
  pub list_of-stamps : (lists : List (List Kept)) (trace : ℕ) → list_of (map (stamps_of blocks) lists) trace ≡ stamps_of blocks (list_of lists trace)
  list_of-stamps lists trace = get_or-map (stamps_of blocks) lists trace []

  stamp_found : (kept : List Kept) (at : ℕ) (k : Kept) → slice_get kept at ≡ Some k → slice_get (stamps_of blocks kept) at ≡ Some (stamp_of blocks k)
  stamp_found kept at k there = slice_get-map (stamp_of blocks) kept at ∙ ap (option_map (stamp_of blocks)) there

  stamp_missing : (kept : List Kept) (at : ℕ) → slice_get kept at ≡ None → slice_get (stamps_of blocks kept) at ≡ None
  stamp_missing kept at missing = slice_get-map (stamp_of blocks) kept at ∙ ap (option_map (stamp_of blocks)) missing

  -- The stamp of a number, where the look-up at the place before it found one, or none.
  module _ (lists : List (List Kept)) (seen : StampLists) (is : map (stamps_of blocks) lists ≡ seen.lists) (trace number : ℕ) where
    pub list_is : list_of seen.lists trace ≡ stamps_of blocks (list_of lists trace)
    list_is = ap (λ l. list_of l trace) (sym is) ∙ list_of-stamps lists trace

    pub found_at : (k : Kept) → 0 < number → slice_get (list_of lists trace) (number - 1) ≡ Some k → IsAt (list_of seen.lists trace) number (stamp_of blocks k)
    found_at k some there = record {
      from = omega (arith, some);
      stands = ap (λ l. slice_get l (number - 1)) list_is ∙ stamp_found (list_of lists trace) (number - 1) k there;
    }

    pub none_at : slice_get (list_of lists trace) (number - 1) ≡ None → (stamp : ClusterTimestamp) → IsAt (list_of seen.lists trace) number stamp → ⊥
    none_at missing stamp at_it =
        let none = ap (λ l. slice_get l (number - 1)) list_is ∙ stamp_missing (list_of lists trace) (number - 1) missing in
        let apart : None ≡ Some stamp = sym none ∙ at_it.stands in
        absurd cc
