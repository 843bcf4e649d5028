-- What is known where a walk began with zeros.
use Rattle.std.proofs.Common.{◌≡◌, ◌≤◌, ◌+◌, ℕ, List, inl, inr, subst, arith}
use Rattle.std.specs.Prelude.{replicate, slice_index}
use Rattle.std.proofs.lemmas.Bool.{cases_lt}
use Rattle.std.proofs.lemmas.List.{get_or_past, get_or-replicate, length-replicate}
use Rattle.causal_base.specs.declared.event.Event.{Event}
use Rattle.causal_base.specs.declared.event_id.EventId.{EventId}
use Rattle.causal_base.specs.Clocks.{HasClock}
use Rattle.causal_base.specs.Clusters.{bound_of}
use Rattle.causal_base.specs.Journal.{delivered_by}
use Rattle.causal_base.specs.Stamps.{ClusterTimestamp}
use Rattle.projected_stamp.specs.Parts.{IsPart}
use Rattle.projected_stamp.specs.StampLists.{IsStampAt}
use Rattle.precedence.specs.declared.walk.Wanted.{Wanted}
use Rattle.precedence.specs.StampedJournal.{StampedJournal, AreStampsOf, IsStampIn}
use Rattle.precedence.specs.Laws.{HasLaws}
use Rattle.precedence.specs.Walking.{bound_from, Covers, IsDelivered, IsNumber, IsWanted, TakesIn}
use Rattle.precedence.proofs.Bounds.{bound_from-falls}
use Rattle.precedence.proofs.OwnMembers.{number_of_part}
use Rattle.precedence.proofs.Lookups.{event_of_stamp}

pub zeros : (n trace : ℕ) → slice_index (replicate n 0) trace ≡ 0
zeros n trace = elim (cases_lt trace n) [
  | inl within ↦ get_or-replicate n trace 0 0 within
  | inr past ↦ get_or_past (replicate n 0) trace 0 (let count = length-replicate {A = ℕ} n 0 in omega (arith, count, past))
]

abbrev pub AreZeros : List ℕ → Type 0
AreZeros numbers = (trace : ℕ) → slice_index numbers trace ≡ 0

module _ (w : StampedJournal) (laws : HasLaws w) where
  -- zeros have no event within them
  covers_zeros : (numbers : List ℕ) → AreZeros numbers → (trace : ℕ) → Covers w numbers trace
  covers_zeros numbers empty trace x there within n clock =
      let least = laws.numbered x there in
      let none = empty x.id.trace in
      absurd (omega (arith, least, none, within))

  -- what was taken in by zeros is the clock
  pub clock_taken : (wanted : Wanted) (e : Event) → IsDelivered w e → (before after : List ℕ) → AreZeros before → TakesIn w wanted e before after → (trace : ℕ) → IsWanted w wanted trace → IsNumber w e trace (slice_index after trace)
  clock_taken wanted e there before after empty taken trace is =
      let n = laws.clock_exists e there trace in
      let least = taken.reached trace is (covers_zeros before empty trace) n.0 n.1 in
      let most = taken.grown.within trace n.0 n.1 in
      let none = empty trace in
      let same : n.0 ≡ slice_index after trace = omega (arith, least, most, none) in
      subst (IsNumber w e trace) same n.1

  module _ (lists : List (List ClusterTimestamp)) (are : AreStampsOf w lists) (id : EventId) (stamp : ClusterTimestamp) (at : IsStampAt lists id stamp) where
    pub clock_is : (wanted : Wanted) (before after : List ℕ) → AreZeros before → ((e : Event) → IsStampIn w e stamp → TakesIn w wanted e before after) → (trace : ℕ) → IsWanted w wanted trace → HasClock w.types (delivered_by w.journal) id trace (slice_index after trace)
    clock_is wanted before after empty taken trace is =
        let e = event_of_stamp w lists are id stamp at in
        record { e = e.0; among = e.1; id_is = e.2; clock = clock_taken wanted e.0 e.1 before after empty (taken e.0 e.3) trace is }

    pub part_is : (trace n : ℕ) → IsPart stamp trace n → HasClock w.types (delivered_by w.journal) id trace n
    part_is trace n part =
        let e = event_of_stamp w lists are id stamp at in
        record { e = e.0; among = e.1; id_is = e.2; clock = number_of_part w laws e.0 stamp e.3 trace n part }

    -- the walk and the look-up before it are within the bound
    pub steps_are : (start after : ℕ) → ((e : Event) → IsStampIn w e stamp → after + 1 ≤ (start + 1) + bound_from w stamp.level) → after ≤ start + bound_of w.clustering.sizes
    steps_are start after walked =
        let e = event_of_stamp w lists are id stamp at in
        let steps = walked e.0 e.3 in
        let falls : bound_from w stamp.level ≤ bound_of w.clustering.sizes = bound_from-falls w 0 stamp.level (omega arith) in
        omega (arith, steps, falls)
