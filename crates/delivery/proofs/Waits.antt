-- Who waits, once a trace was added.
use Rattle.std.proofs.Common.{◌≡◌, ◌<◌, ◌≤◌, ◌↔◌, ℕ, List, inl, inr, sym, ap, subst, arith, Result, Ok, Err, Some}
use Rattle.std.specs.Prelude.{Contains, IsTrue, nat_le}
use Rattle.std.specs.Result.{OnErr, OnOk}
use Rattle.std.proofs.lemmas.Bool.{cases_eq, cases_lt, leb-true}
use Rattle.std.proofs.lemmas.Bool.Decides.{leb_tells}
use Rattle.causal_base.specs.declared.event.Event.{Event}
use Rattle.causal_base.specs.declared.event_id.EventId.{EventId}
use Rattle.causal_base.specs.Types.{TypeTable}
use Rattle.causal_base.specs.Event.{IsFit}
use Rattle.causal_base.specs.History.{EventBlock, all_events, count_on}
use Rattle.causal_base.specs.Past.{HasEvent, IsHistoryOf}
use Rattle.causal_base.proofs.CallerLemmas.{delivered_from_number_among, delivered_numbered_among, event_at, mate_in_range, number_from_delivered_among, same_id}
use Rattle.partner_match.specs.Waiting.{Waits, waiting_for, WaitsToo}

still : (old new : Waits) (on : EventId) (trace : ℕ) → WaitsToo old new on trace → (id : EventId) (other : ℕ) → Contains (waiting_for old id) other → Contains (waiting_for new id) other
still old new on trace too id other inside = elim (cases_eq id.trace on.trace) [
  | inr apart ↦ subst (λ ts. Contains ts other) (sym (too.elsewhere id (λ is. apart (ap (λ (i : EventId). i.trace) is)))) inside
  | inl same ↦ elim (cases_eq id.number on.number) [
    | inr apart ↦ subst (λ ts. Contains ts other) (sym (too.elsewhere id (λ is. apart (ap (λ (i : EventId). i.number) is)))) inside
    | inl number ↦
        let is = same_id id on same number in
        subst (λ i. Contains (waiting_for new i) other) (sym is) ((too.here other).1 (inl (subst (λ i. Contains (waiting_for old i) other) is inside)))
  ]
]

-- what waited waits, whatever the answer
pub still_waits : {T E : Type 0} (old new : Waits) (on : EventId) (trace : ℕ) (r : Result T E) → OnOk r (WaitsToo old new on trace) → OnErr r (new ≡ old) → (id : EventId) (other : ℕ) → Contains (waiting_for old id) other → Contains (waiting_for new id) other
still_waits old new on trace (Ok value) ok err id other inside = still old new on trace ok id other inside
still_waits old new on trace (Err error) ok err id other inside = subst (λ w. Contains (waiting_for w id) other) (sym err) inside

-- of what isn't delivered fewer of its trace are than its number
pub not_so_many : (types : TypeTable) (events : List Event) (history : List EventBlock) → IsHistoryOf types events history → (e : Event) → IsFit types e → (mate : EventId) → e.mate ≡ Some mate → (HasEvent (all_events history) mate → ⊥) → count_on mate.trace (all_events history) < mate.number
not_so_many types events history basis e fit mate names absent = elim (cases_lt (count_on mate.trace (all_events history)) mate.number) [
  | inl fewer ↦ fewer
  | inr most ↦
      let range = mate_in_range types e mate fit names in
      let at = event_at (all_events history) (delivered_numbered_among types events history basis) mate.trace mate.number range.least most in
      absurd (absent (at.0, at.1, same_id at.0.id mate at.2 at.3))
]

-- an event that came is delivered exactly where so many of its trace are
pub is_gone : (types : TypeTable) (events : List Event) (history : List EventBlock) → IsHistoryOf types events history → (id : EventId) (e : Event) → Contains events e → e.id ≡ id → (count : ℕ) → count ≡ count_on id.trace (all_events history) → IsTrue (nat_le id.number count) ↔ HasEvent (all_events history) id
is_gone types events history basis id e there is count counted = (
  (λ yes.
      let most = leb-true id.number count yes in
      let at : e.id.number ≤ count_on e.id.trace (all_events history) = subst (λ (i : EventId). i.number ≤ count_on i.trace (all_events history)) (sym is) (omega (arith, most, counted)) in
      (e, delivered_from_number_among types events history basis e there at, is)),
  (λ has.
      let most = number_from_delivered_among types events history basis has.0 has.1 in
      let at = subst (λ (i : EventId). i.number ≤ count_on i.trace (all_events history)) has.2 most in
      elim (leb_tells id.number count) [ inl low ↦ low.0 | inr above ↦ absurd (omega (arith, above.1, at, counted)) ]),
)
