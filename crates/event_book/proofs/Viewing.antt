-- The delivered events of a view, by their ids.
use Rattle.std.proofs.Common.{◌≡◌, ◌<◌, ◌≤◌, Bool, List, reverse, cond, sym, ◌∙◌, ap, subst, arith, inl, inr, Some, Bor}
use Rattle.std.specs.Prelude.{Contains, Option, None, IfSome, IfNone, slice_index, slice_get, option_and_then}
use Rattle.std.specs.Option.{option_copied}
use Rattle.std.proofs.lemmas.Bool.{cases_lt, lt-leb}
use Rattle.causal_base.specs.declared.entry.Entry.{Entry}
use Rattle.causal_base.specs.declared.event.Event.{Event}
use Rattle.causal_base.specs.declared.event_id.EventId.{EventId}
use Rattle.causal_base.specs.declared.limits.TheConstants.{MOST_TRACES}
use Rattle.causal_base.specs.History.{count_on}
use Rattle.causal_base.specs.Journal.{came_by, delivered_by}
use Rattle.causal_base.specs.Past.{event_of, HasEvent}
use Rattle.causal_base.proofs.CallerLemmas.{came_fit, delivered_came, delivered_numbered, event_at, event_of-came, number_within, same_id}
use Rattle.journal.specs.Delivered.{delivered_at}
use Rattle.journal.specs.Places.{place_in_order}
use Rattle.event_book.specs.Views.{IsViewOf, ViewState}

module _ (view : ViewState) (journal : List Entry) (is : IsViewOf view journal) (id : EventId) where
  -- a delivered event has a trace and a number
  pub trace_within : HasEvent (delivered_by journal) id → id.trace < MOST_TRACES
  trace_within (e, there, same) =
      let fit = came_fit view.setup.types (reverse journal) is.is_journal.legal e (delivered_came view.setup.types (reverse journal) is.is_journal.legal e there) in
      let below = fit.id.trace in
      let most = is.is_setup.table.most_traces in
      subst (λ (i : EventId). i.trace < MOST_TRACES) same (omega (arith, below, most))

  pub number_least : HasEvent (delivered_by journal) id → 1 ≤ id.number
  number_least (e, there, same) =
      let fit = came_fit view.setup.types (reverse journal) is.is_journal.legal e (delivered_came view.setup.types (reverse journal) is.is_journal.legal e there) in
      subst (λ (i : EventId). 1 ≤ i.number) same fit.id.least

  module _ (low : id.trace < MOST_TRACES) (least : 1 ≤ id.number) where
    counted : slice_index view.delivered.counts id.trace ≡ count_on id.trace (delivered_by journal)
    counted = is.events.counts_are id.trace low

    -- where it is delivered it is found
    found : id.number ≤ count_on id.trace (delivered_by journal) → (e : Event) × (delivered_at view.delivered id ≡ Some e) × Contains (delivered_by journal) e × (e.id ≡ id)
    found within =
        let at = event_at (delivered_by journal) (delivered_numbered view.setup.types (reverse journal) is.is_journal.legal) id.trace id.number least within in
        let same = same_id at.0.id id at.2 at.3 in
        let known = event_of-came view.setup.types (reverse journal) is.is_journal.legal at.0 (delivered_came view.setup.types (reverse journal) is.is_journal.legal at.0 at.1) in (
          at.0,
          is.events.found id low least within ∙ (ap (λ (i : EventId). event_of (came_by journal) i) (sym same) ∙ known),
          at.1,
          same,
        )

    -- and where it isn't, it isn't
    absent : count_on id.trace (delivered_by journal) < id.number → delivered_at view.delivered id ≡ None
    absent past = ap (λ (b : Bool). cond b (option_and_then (slice_get view.delivered.events) (place_in_order view.delivered.in_order id)) None) (lt-leb id.number (slice_index view.delivered.counts id.trace) (omega (arith, past, counted)))

    not_there : count_on id.trace (delivered_by journal) < id.number → HasEvent (delivered_by journal) id → ⊥
    not_there past (e, there, same) =
        let within = number_within (delivered_by journal) (delivered_numbered view.setup.types (reverse journal) is.is_journal.legal) e there in
        let less = subst (λ (i : EventId). i.number ≤ count_on i.trace (delivered_by journal)) same within.1 in
        omega (arith, past, less)

    pub told_some : (r : Option Event) → r ≡ delivered_at view.delivered id → IfSome r (λ e. Contains (delivered_by journal) e × (e.id ≡ id))
    told_some r told = elim (cases_lt (count_on id.trace (delivered_by journal)) id.number) [
      | inl past ↦ subst (λ (o : Option Event). IfSome o (λ e. Contains (delivered_by journal) e × (e.id ≡ id))) (sym (told ∙ absent past)) tt
      | inr within ↦ (let e = found within in subst (λ (o : Option Event). IfSome o (λ e. Contains (delivered_by journal) e × (e.id ≡ id))) (sym (told ∙ e.1)) (e.2, e.3))
    ]

    pub told_none : (r : Option Event) → r ≡ delivered_at view.delivered id → IfNone r (HasEvent (delivered_by journal) id → ⊥)
    told_none r told = elim (cases_lt (count_on id.trace (delivered_by journal)) id.number) [
      | inl past ↦ subst (λ (o : Option Event). IfNone o (HasEvent (delivered_by journal) id → ⊥)) (sym (told ∙ absent past)) (not_there past)
      | inr within ↦ (let e = found within in subst (λ (o : Option Event). IfNone o (HasEvent (delivered_by journal) id → ⊥)) (sym (told ∙ e.1)) tt)
    ]

-- what is told for each journal of the event that is found holds of the one that is lent
pub each_journal : (view : ViewState) (id : EventId) (r : Option (Bor Event)) → ((journal : List Entry) → IsViewOf view journal → IfSome (option_copied r) (λ e. Contains (delivered_by journal) e × (e.id ≡ id)))
    → IfSome r (λ e. (journal : List Entry) → IsViewOf view journal → Contains (delivered_by journal) e.now × (e.now.id ≡ id))
each_journal view id None told = tt
each_journal view id (Some e) told = told

pub no_journal : (view : ViewState) (id : EventId) (r : Option (Bor Event)) → ((journal : List Entry) → IsViewOf view journal → IfNone (option_copied r) (HasEvent (delivered_by journal) id → ⊥))
    → IfNone r ((journal : List Entry) → IsViewOf view journal → HasEvent (delivered_by journal) id → ⊥)
no_journal view id None told = told
no_journal view id (Some e) told = tt
