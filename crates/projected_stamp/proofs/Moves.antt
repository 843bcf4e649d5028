-- The stamps that are kept, as more numbers come.
use Rattle.std.proofs.Common.{◌≡◌, ℕ, suc, List, [], ◌∷◌, length, map, get_or, refl, ◌∙◌, ap, arith}
use Rattle.std.specs.Prelude.{All}
use Rattle.causal_base.specs.Stamps.{ClusterTimestamp}
use Rattle.projected_stamp.specs.declared.above.Kept.{Kept}
use Rattle.projected_stamp.specs.Above.{stamp_of, stamps_of, IsKept}
use Rattle.projected_stamp.specs.Runs.{HasRun, Stay}

module _ (blocks later : List (List ℕ)) (stay : Stay blocks later) where
  same_stamp : (k : Kept) → HasRun blocks k.run (length k.members) → stamp_of later k ≡ stamp_of blocks k
  same_stamp k has = ap (λ (clock : List ℕ). let s : ClusterTimestamp = record { level = k.level; members = k.members; clock = clock } in s) (stay k.run (length k.members) has).1

  same_stamps : (kept : List Kept) → All (λ (k : Kept). HasRun blocks k.run (length k.members)) kept → stamps_of later kept ≡ stamps_of blocks kept
  same_stamps [] stand = refl
  same_stamps (k ∷ kept) stand =
      ap (λ (s : ClusterTimestamp). s ∷ stamps_of later kept) (same_stamp k (stand 0 k (omega arith)))
      ∙ ap (λ (l : List ClusterTimestamp). stamp_of blocks k ∷ l) (same_stamps kept (λ at d within. stand (suc at) d (omega (arith, within))))

  moved : (kept : List Kept) → IsKept blocks kept → IsKept later kept
  moved kept is = record {
    linked = is.linked;
    few = is.few;
    small = is.small;
    stand = λ at d within. let k = get_or kept at d in (stay k.run (length k.members) (is.stand at d within)).0;
  }

  pub all_moved : (lists : List (List Kept)) → All (IsKept blocks) lists → All (IsKept later) lists
  all_moved lists all at d within = moved (get_or lists at d) (all at d within)

  pub same_lists : (lists : List (List Kept)) → All (IsKept blocks) lists → map (stamps_of later) lists ≡ map (stamps_of blocks) lists
  same_lists [] all = refl
  same_lists (kept ∷ lists) all =
      let its : IsKept blocks kept = all 0 kept (omega arith) in
      ap (λ (l : List ClusterTimestamp). l ∷ map (stamps_of later) lists) (same_stamps kept its.stand)
      ∙ ap (λ (l : List (List ClusterTimestamp)). stamps_of blocks kept ∷ l) (same_lists lists (λ at d within. all (suc at) d (omega (arith, within))))
