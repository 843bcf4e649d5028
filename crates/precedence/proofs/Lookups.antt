-- What a look-up among the stamps of a journal finds: the stamp of an event, and the entry on a member.
use Rattle.std.proofs.Common.{◌≡◌, ◌≤◌, ◌<◌, ℕ, List, inl, inr, sym, ◌∙◌, ap, subst, arith}
use Rattle.std.specs.Prelude.{Contains}
use Rattle.std.specs.Option.{unwrap_or}
use Rattle.std.proofs.lemmas.Bool.{cases_lt}
use Rattle.causal_base.specs.declared.event.Event.{Event}
use Rattle.causal_base.specs.declared.event_id.EventId.{EventId}
use Rattle.causal_base.specs.Journal.{delivered_by, deliveries_by}
use Rattle.causal_base.specs.Stamps.{ClusterTimestamp, level_of, IsLastAbove, IsEntry}
use Rattle.shared_list.specs.Traces.{list_of}
use Rattle.projected_stamp.specs.StampLists.{IsAt, IsStampAt, IsLastOf, HasNoneAbove}
use Rattle.precedence.specs.StampedJournal.{StampedJournal, AreStampsOf, IsStampIn}
use Rattle.precedence.specs.Laws.{HasLaws}
use Rattle.precedence.specs.Walking.{IsDelivered, IsNumber}

one_at : (stamps : List ClusterTimestamp) (number : ℕ) (one other : ClusterTimestamp) → IsAt stamps number one → IsAt stamps number other → one ≡ other
one_at stamps number one other a b = ap (λ o. unwrap_or o one) (sym a.stands ∙ b.stands)

module _ (w : StampedJournal) (lists : List (List ClusterTimestamp)) (are : AreStampsOf w lists) where
  -- a stamp that stands is that of a delivered event
  pub event_of_stamp : (id : EventId) (stamp : ClusterTimestamp) → IsStampAt lists id stamp → (e : Event) × IsDelivered w e × (e.id ≡ id) × IsStampIn w e stamp
  event_of_stamp id stamp at =
      let e = are.only id stamp at in
      let its = are.each e.0 e.1 in
      let there = subst (λ (i : EventId). IsStampAt lists i its.0) e.2 its.1 in
      (e.0, e.1, e.2, subst (IsStampIn w e.0) (one_at (list_of lists id.trace) id.number its.0 stamp there at) its.2)

  -- and each delivered event has one
  pub none_without : (id : EventId) → ((stamp : ClusterTimestamp) → IsStampAt lists id stamp → ⊥) → (e : Event) × Contains (delivered_by w.journal) e × (e.id ≡ id) → ⊥
  none_without id none there =
      let its = are.each there.0 there.1 in
      none its.0 (subst (λ (i : EventId). IsStampAt lists i its.0) there.2 its.1)

  -- the last stamp above a level is that of the last event above it
  pub event_found : (trace upto level number : ℕ) (stamp : ClusterTimestamp) → IsLastOf (list_of lists trace) upto level number stamp → (r : Event) × (r.id.trace ≡ trace) × (r.id.number ≡ number) × IsStampIn w r stamp × IsLastAbove w.clustering (deliveries_by w.journal) trace level upto r
  event_found trace upto level number stamp found =
      let id : EventId = record { trace = trace; number = number } in
      let r = event_of_stamp id stamp found.at in
      let on : r.0.id.trace ≡ trace = ap (λ (i : EventId). i.trace) r.2 in
      let its : r.0.id.number ≡ number = ap (λ (i : EventId). i.number) r.2 in
      let its_level = r.3.level in
      let most : r.0.id.number ≤ upto = let le = found.most in omega (arith, its, le) in
      let above : level < level_of w.clustering (deliveries_by w.journal) r.0.id = let lt = found.above in omega (arith, lt, its_level) in (
        r.0,
        on,
        its,
        r.3,
        record {
          among = r.1;
          on = on;
          most = most;
          above = above;
          last = λ x x_there x_on x_most x_above. elim (cases_lt r.0.id.number x.id.number) [
            | inr le ↦ le
            | inl later ↦
                let x_stamp = are.each x x_there in
                let at = subst (λ t. IsAt (list_of lists t) x.id.number x_stamp.0) x_on x_stamp.1 in
                let low = found.last x.id.number x_stamp.0 (omega (arith, later, its)) x_most at in
                let x_level = x_stamp.2.level in
                absurd (omega (arith, low, x_above, x_level))
          ];
        },
      )

  -- where there is no stamp above a level, there is no event above it
  pub none_found : (trace upto level : ℕ) → HasNoneAbove (list_of lists trace) upto level → (r : Event) → IsLastAbove w.clustering (deliveries_by w.journal) trace level upto r → ⊥
  none_found trace upto level none r last =
      let its = are.each r last.among in
      let at = subst (λ t. IsAt (list_of lists t) r.id.number its.0) last.on its.1 in
      let low = none r.id.number its.0 last.most at in
      let above = last.above in
      let level_is = its.2.level in
      omega (arith, low, above, level_is)

module _ (w : StampedJournal) (laws : HasLaws w) where
  -- an entry on a trace is the last above the level up to the part
  pub entry_is_last : (e : Event) (trace level part : ℕ) → level ≡ level_of w.clustering (deliveries_by w.journal) e.id → IsNumber w e trace part → (r : Event) → IsEntry w.types w.clustering (deliveries_by w.journal) e r → r.id.trace ≡ trace → IsLastAbove w.clustering (deliveries_by w.journal) trace level part r
  entry_is_last e trace level part is clock r entry on =
      let number : entry.number ≡ part = laws.clock_is_one e trace entry.number part (subst (λ t. IsNumber w e t entry.number) on entry.clock) clock in
      subst (λ t. IsLastAbove w.clustering (deliveries_by w.journal) t level part r) on
      (subst (λ k. IsLastAbove w.clustering (deliveries_by w.journal) r.id.trace k part r) (sym is)
      (subst (λ n. IsLastAbove w.clustering (deliveries_by w.journal) r.id.trace (level_of w.clustering (deliveries_by w.journal) e.id) n r) number entry.last))
