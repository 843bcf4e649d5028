-- The stamps after one more came to a trace.
use Rattle.std.proofs.Common.{◌≡◌, ◌≤◌, ◌<◌, ◌+◌, ℕ, zero, suc, List, [], ◌∷◌, ◌++◌, length, map, get_or, set, cond, refl, sym, ◌∙◌, ap, subst, arith, inl, inr, Option, Some, length-append}
use Rattle.std.specs.Prelude.{All, slice_get}
use Rattle.std.specs.Option.{unwrap_or}
use Rattle.std.specs.List.{sum_by}
use Rattle.std.proofs.lemmas.Bool.{cases_order}
use Rattle.std.proofs.lemmas.Option.{slice_get_within}
use Rattle.std.proofs.lemmas.List.{map-set, map-append, length-map}
use Rattle.std.proofs.lemmas.List.Elements.{All-set, All-append, All-map}
use Rattle.std.proofs.lemmas.List.Sums.{sum_by-set, sum_by_push, sum_by-le}
use Rattle.causal_base.specs.Stamps.{ClusterTimestamp}
use Rattle.causal_base.specs.declared.limits.TheConstants.{MOST_NUMBER, MOST_TRACES}
use Rattle.shared_list.specs.Traces.{list_of, with_item}
use Rattle.shared_list.proofs.CallerLemmas.{slice_get-push_before, slice_get-push_last}
use Rattle.projected_stamp.specs.declared.above.Kept.{Kept}
use Rattle.projected_stamp.specs.declared.numbers.Run.{Run}
use Rattle.projected_stamp.specs.Above.{is_above, last_above, levels_of, next_kept, stamp_of, stamps_of, IsLinked, IsKept}
use Rattle.projected_stamp.specs.Runs.{HasRun, IsRun, Stay, run_of}
use Rattle.projected_stamp.specs.StampLists.{StampLists, parts_of}
use Rattle.projected_stamp.proofs.Empties.{kept_of}
use Rattle.projected_stamp.proofs.Moves.{all_moved, same_lists}
use Rattle.projected_stamp.proofs.Runs.{Stay-refl}
use Rattle.projected_stamp.proofs.StampsOf.{list_is, list_of-stamps}

-- what is above among the levels so far stays where one more comes
last_above-more : (levels : List ℕ) (new level n : ℕ) → n ≤ length levels → last_above (levels ++ new ∷ []) level n ≡ last_above levels level n
last_above-more levels new level zero within = refl
last_above-more levels new level (suc before) within =
    let place = slice_get-push_before levels new before (omega (arith, within)) in
    let rest = last_above-more levels new level before (omega (arith, within)) in
    ap (λ (found : Option ℕ). cond (is_above level found) (suc before) (last_above (levels ++ new ∷ []) level before)) place
    ∙ ap (λ (r : ℕ). cond (is_above level (slice_get levels before)) (suc before) r) rest

module _ (kept : List Kept) (k : Kept) (linked : IsLinked kept) (above : k.above ≡ last_above (levels_of kept) k.level (length kept)) where
  same_above : (level n : ℕ) → n ≤ length kept → last_above (levels_of (kept ++ k ∷ [])) level n ≡ last_above (levels_of kept) level n
  same_above level n within =
      let count = length-map kept (λ (k : Kept). k.level) in
      ap (λ (l : List ℕ). last_above l level n) (map-append (λ (k : Kept). k.level) kept (k ∷ []))
      ∙ last_above-more (levels_of kept) k.level level n (omega (arith, within, count))

  IsLinked-more : IsLinked (kept ++ k ∷ [])
  IsLinked-more before old found = elim (cases_order before (length kept)) [
    | inl at ↦ (
        let last : slice_get (kept ++ k ∷ []) before ≡ Some k = ap (slice_get (kept ++ k ∷ [])) at ∙ slice_get-push_last kept k in
        let it : k ≡ old = ap (λ (o : Option Kept). unwrap_or o old) (sym last ∙ found) in
        subst (λ (x : Kept). x.above ≡ last_above (levels_of (kept ++ k ∷ [])) x.level before) it
        (above ∙ (ap (last_above (levels_of kept) k.level) (sym at) ∙ sym (same_above k.level before (omega (arith, at))))))
    | inr apart ↦ elim apart [
      | inl earlier ↦ linked before old (sym (slice_get-push_before kept k before earlier) ∙ found) ∙ sym (same_above old.level before (omega (arith, earlier)))
      | inr past ↦ (
          let within = slice_get_within (kept ++ k ∷ []) before old found in
          let count = length-append kept (k ∷ []) in
          absurd (omega (arith, past, within, count)))
    ]
  ]

-- A stamp is kept, whose numbers are a run of the blocks.
module _ (blocks : List (List ℕ)) (lists : List (List Kept)) (all : All (IsKept blocks) lists) (trace : ℕ) (stamp : ClusterTimestamp) (run : Run) (is : IsRun blocks run stamp.clock)
    (as_many : length stamp.clock ≡ length stamp.members) (few : length (list_of lists trace) + 1 ≤ MOST_NUMBER) (small : length stamp.members ≤ MOST_TRACES) where
  abbrev kept : List Kept
  kept = list_of lists trace

  abbrev k : Kept
  k = next_kept kept stamp run

  abbrev Stands : Kept → Type 0
  Stands k = HasRun blocks k.run (length k.members)

  stands : Stands k
  stands = subst (λ (n : ℕ). HasRun blocks run n) as_many is.has

  -- it is the stamp that is seen
  it_is : stamp_of blocks k ≡ stamp
  it_is =
      ap (λ (n : ℕ). let s : ClusterTimestamp = record { level = stamp.level; members = stamp.members; clock = run_of blocks run n } in s) (sym as_many)
      ∙ ap (λ (clock : List ℕ). let s : ClusterTimestamp = record { level = stamp.level; members = stamp.members; clock = clock } in s) is.same

  only : (P : Kept → Type 0) → P k → All P (k ∷ [])
  only P its zero d within = its
  only P its (suc at) d within = absurd (omega (arith, within))

  IsKept-more : IsKept blocks (kept ++ k ∷ [])
  IsKept-more =
      let its = kept_of blocks lists all trace in
      record {
        linked = IsLinked-more kept k its.linked refl;
        few = (let count = length-append kept (k ∷ []) in omega (arith, few, count));
        small = All-append (λ (k : Kept). length k.members ≤ MOST_TRACES) kept (k ∷ []) its.small (only (λ (k : Kept). length k.members ≤ MOST_TRACES) small);
        stand = All-append Stands kept (k ∷ []) its.stand (only Stands stands);
      }

  pub all_more : All (IsKept blocks) (with_item lists trace k)
  all_more = All-set (IsKept blocks) lists trace (kept ++ k ∷ []) IsKept-more all

  -- they are the stamps that were seen, with one more
  pub stamps_more : map (stamps_of blocks) (with_item lists trace k) ≡ with_item (map (stamps_of blocks) lists) trace stamp
  stamps_more =
      map-set (stamps_of blocks) lists trace (kept ++ k ∷ [])
      ∙ ap (set (map (stamps_of blocks) lists) trace) (map-append (stamp_of blocks) kept (k ∷ [])
      ∙ (ap (λ (s : ClusterTimestamp). stamps_of blocks kept ++ s ∷ []) it_is
      ∙ ap (λ (l : List ClusterTimestamp). l ++ stamp ∷ []) (sym (list_of-stamps blocks lists trace))))

-- The stamp of the next event of a trace is kept, after its numbers came.
module _ (blocks later : List (List ℕ)) (stay : Stay blocks later) (lists : List (List Kept)) (all : All (IsKept blocks) lists) (seen : StampLists) (are : map (stamps_of blocks) lists ≡ seen.lists)
    (trace number : ℕ) (next : number ≡ length (list_of seen.lists trace) + 1) (most : number ≤ MOST_NUMBER) (stamp : ClusterTimestamp) (run : Run) (is : IsRun later run stamp.clock)
    (as_many : length stamp.clock ≡ length stamp.members) (small : length stamp.members ≤ MOST_TRACES) where
  few : length (list_of lists trace) + 1 ≤ MOST_NUMBER
  few =
      let count = ap length (list_is blocks lists seen are trace 0) ∙ length-map (list_of lists trace) (stamp_of blocks) in
      omega (arith, next, most, count)

  pub all_next : All (IsKept later) (with_item lists trace (next_kept (list_of lists trace) stamp run))
  all_next = all_more later lists (all_moved blocks later stay lists all) trace stamp run is as_many few small

  pub stamps_next : map (stamps_of later) (with_item lists trace (next_kept (list_of lists trace) stamp run)) ≡ with_item seen.lists trace stamp
  stamps_next =
      stamps_more later lists (all_moved blocks later stay lists all) trace stamp run is as_many few small
      ∙ ap (λ (l : List (List ClusterTimestamp)). with_item l trace stamp) (same_lists blocks later stay lists all ∙ are)

-- And so is the same stamp, as the next one of another trace.
module _ (blocks later : List (List ℕ)) (stay : Stay blocks later) (lists : List (List Kept)) (all : All (IsKept blocks) lists) (seen : StampLists) (are : map (stamps_of blocks) lists ≡ seen.lists)
    (first first_number : ℕ) (first_next : first_number ≡ length (list_of seen.lists first) + 1) (first_most : first_number ≤ MOST_NUMBER) (stamp : ClusterTimestamp) (run : Run) (is : IsRun later run stamp.clock)
    (as_many : length stamp.clock ≡ length stamp.members) (small : length stamp.members ≤ MOST_TRACES)
    (second second_number : ℕ) (second_next : second_number ≡ length (list_of (with_item seen.lists first stamp) second) + 1) (second_most : second_number ≤ MOST_NUMBER) where
  abbrev with_first : List (List Kept)
  with_first = with_item lists first (next_kept (list_of lists first) stamp run)

  abbrev seen_first : StampLists
  seen_first = record { lists = with_item seen.lists first stamp; spare = seen.spare }

  all_first : All (IsKept later) with_first
  all_first = all_next blocks later stay lists all seen are first first_number first_next first_most stamp run is as_many small

  are_first : map (stamps_of later) with_first ≡ seen_first.lists
  are_first = stamps_next blocks later stay lists all seen are first first_number first_next first_most stamp run is as_many small

  pub all_two : All (IsKept later) (with_item with_first second (next_kept (list_of with_first second) stamp run))
  all_two = all_next later later (Stay-refl later) with_first all_first seen_first are_first second second_number second_next second_most stamp run is as_many small

  pub stamps_two : map (stamps_of later) (with_item with_first second (next_kept (list_of with_first second) stamp run)) ≡ with_item (with_item seen.lists first stamp) second stamp
  stamps_two = stamps_next later later (Stay-refl later) with_first all_first seen_first are_first second second_number second_next second_most stamp run is as_many small

abbrev sizes : List ClusterTimestamp → ℕ
sizes stamps = sum_by (λ (stamp : ClusterTimestamp). length stamp.members) stamps

-- as many parts more as the new stamp has
pub parts-with_item : (lists : List (List ClusterTimestamp)) (trace : ℕ) (new : ClusterTimestamp) → trace < length lists → parts_of (with_item lists trace new) ≡ parts_of lists + length new.members
parts-with_item lists trace new within =
    let whole = sum_by-set sizes lists trace (list_of lists trace ++ new ∷ []) [] within in
    let more = sum_by_push (λ (stamp : ClusterTimestamp). length stamp.members) (list_of lists trace) new in
    omega (arith, whole, more)

module _ (blocks : List (List ℕ)) where
  -- all parts are far fewer than a counter of them counts
  sizes-few : (kept : List Kept) → IsKept blocks kept → sizes (stamps_of blocks kept) ≤ 256000000
  sizes-few kept is =
      let each = All-map (λ (stamp : ClusterTimestamp). length stamp.members ≤ MOST_TRACES) (stamp_of blocks) kept is.small in
      let few = sum_by-le (λ (stamp : ClusterTimestamp). length stamp.members) MOST_TRACES (stamps_of blocks kept) each in
      let count = length-map kept (stamp_of blocks) in
      let most = is.few in
      omega (arith, few, count, most)

  pub parts-few : (lists : List (List Kept)) → All (IsKept blocks) lists → length lists ≤ MOST_TRACES → parts_of (map (stamps_of blocks) lists) ≤ 65536000000
  parts-few lists all traces =
      let each = All-map (λ (stamps : List ClusterTimestamp). sizes stamps ≤ 256000000) (stamps_of blocks) lists (λ at d within. sizes-few (get_or lists at d) (all at d within)) in
      let few = sum_by-le sizes 256000000 (map (stamps_of blocks) lists) each in
      let count = length-map lists (stamps_of blocks) in
      omega (arith, few, count, traces)
