use Rattle.std.proofs.Common.{◌≡◌, ◌≢◌, ℕ, Some, sym, subst, List, reverse}
use Rattle.std.specs.Prelude.{Contains, IfSome, IfNone, slice_get}
use Rattle.causal_base.specs.declared.entry.Entry.{Entry}
use Rattle.causal_base.specs.declared.entry.Entry.TheVariants.{Came}
use Rattle.causal_base.specs.declared.event.Event.{Event}
use Rattle.causal_base.specs.Past.{came, HasEvent}
use Rattle.causal_base.proofs.Indexes.{found_some, found_none, absent}
use Rattle.causal_base.proofs.indexed_journal.IndexedJournalAccepted.event.Goals as goal

pub returns-in-Some-clause-some : goal.returns-in-Some-clause-some
returns-in-Some-clause-some c =
    let j = c.self.inside in
    subst (λ (journal : List Entry). IfSome c.event_at.result (λ e. Contains (came (reverse journal)) e.now × (e.now.id ≡ c.args.id))) c.self.view_is
    (found_some j.entries.items j.places j.counts j.accepted c.self.invariant.0 c.args.id c.in-Some.place.now (sym c.in-Some.ensures.value) c.event_at.result (subst (λ (entries : List Entry). IfSome c.event_at.result (λ e. (collector : ℕ) × (slice_get entries c.in-Some.place.now ≡ Some (Came collector e.now)))) c.deref.ensures.value c.event_at.ensures.some))

pub returns-in-Some-clause-none : goal.returns-in-Some-clause-none
returns-in-Some-clause-none c =
    let j = c.self.inside in
    subst (λ (journal : List Entry). IfNone c.event_at.result (HasEvent (came (reverse journal)) c.args.id → ⊥)) c.self.view_is
    (found_none j.entries.items j.places j.counts j.accepted c.self.invariant.0 c.args.id c.in-Some.place.now (sym c.in-Some.ensures.value) c.event_at.result
    (subst (λ (entries : List Entry). IfNone c.event_at.result ((collector : ℕ) (e : Event) → slice_get entries c.in-Some.place.now ≢ Some (Came collector e))) c.deref.ensures.value c.event_at.ensures.none))

pub returns-in-None-clause-none : goal.returns-in-None-clause-none
returns-in-None-clause-none c =
    let j = c.self.inside in
    subst (λ (journal : List Entry). HasEvent (came (reverse journal)) c.args.id → ⊥) c.self.view_is
    (absent j.entries.items j.places j.counts j.accepted c.self.invariant.0 c.args.id (sym c.in-None.ensures.value))
