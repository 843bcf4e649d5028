-- The delivered events that are shared are those of the journal.
use Rattle.std.proofs.Common.{◌≡◌, ◌<◌, ◌≤◌, ℕ, List, reverse, refl, sym, ◌∙◌, ap, subst, arith, None, Some, Option, inl, inr, true, cond}
use Rattle.std.specs.Prelude.{Contains, IfSome, IsSome, nat_le, option_and_then, slice_get, slice_index}
use Rattle.std.specs.Borrow.{Bor}
use Rattle.std.specs.Option.{option_copied, option_or}
use Rattle.std.proofs.lemmas.Bool.Decides.{leb_tells}
use Rattle.causal_base.specs.declared.event.Event.{Event}
use Rattle.causal_base.specs.declared.event_id.EventId.{EventId}
use Rattle.causal_base.specs.History.{count_on}
use Rattle.causal_base.specs.Past.{came, delivered, event_of}
use Rattle.causal_base.proofs.CallerLemmas.{event_of-only}
use Rattle.trace_queue.specs.Held.{held_at}
use Rattle.journal.specs.declared.mark.Mark.{Mark}
use Rattle.journal.specs.Delivered.{AreOfJournal, DeliveredEvents}
use Rattle.journal.specs.Marks.{entries_of}
use Rattle.journal.specs.Places.{PlaceIndex, place_in_order, place_of}
use Rattle.journal.specs.Store.{IsStore}
use Rattle.journal.proofs.Stores.{found, reversed_place}

within : (a b : ℕ) → a ≤ b → nat_le a b ≡ true
within a b most = elim (leb_tells a b) [ inl low ↦ low.0 | inr above ↦ absurd (omega (arith, above.1, most)) ]

-- what a look-up gives is so where the event that it finds is
pub some_found : (r : Option (Bor Event)) (o : Option Event) → option_copied r ≡ o → (P : Event → Type 0) → IfSome o P → IfSome r (λ e. P e.now)
some_found None o is P h = tt
some_found (Some e) None is P h = absurd cc
some_found (Some e) (Some x) is P h = let same : x ≡ e.now = cc in subst P same h

module _ (events : List Event) (marks : List Mark) (room : ℕ) (index : PlaceIndex) (counts : List ℕ) (gone : ℕ) (store : IsStore events marks room index counts gone) where
  -- the event at the place of an id is the one that came with it
  came_there : (id : EventId) (place : ℕ) → place_of index id ≡ Some place → slice_get events place ≡ event_of (came (reverse (entries_of events marks))) id
  came_there id place at =
      let past = came (reverse (entries_of events marks)) in
      let its = found events marks room index counts gone store id place at in
      let only : event_of past its.0.id ≡ Some its.0 = event_of-only past its.0 its.2 (λ x inside same.
      let x_at = reversed_place events x (subst (λ es. Contains es x) store.came_in inside) in
      let x_place : Some x_at.0 ≡ Some place = sym (store.places.complete x_at.0 x x_at.1) ∙ (ap (place_of index) (same ∙ its.3) ∙ at) in
      let k : x_at.0 ≡ place = cc in
      let both : Some x ≡ Some its.0 = sym x_at.1 ∙ (ap (slice_get events) k ∙ its.1) in
      cc) in
      its.1 ∙ (sym only ∙ ap (event_of past) its.3)

  pub are_of_journal : (shared : DeliveredEvents) → shared.events ≡ events → shared.counts ≡ counts → ((id : EventId) → place_in_order shared.in_order id ≡ place_in_order index.in_order id)
      → ((id : EventId) → id.trace < 256 → 1 ≤ id.number → id.number ≤ slice_index counts id.trace → IsSome (place_in_order index.in_order id))
      → AreOfJournal (entries_of events marks) shared
  are_of_journal shared same_events same_counts same_order reach = record {
    counts_are = counts_are;
    found = λ id below least most.
        let number : id.number ≤ slice_index shared.counts id.trace = (let count = counts_are id.trace below in omega (arith, most, count)) in
        let some = reach id below least (let count = store.counts_are id.trace below in omega (arith, most, count)) in
        ap (λ b. cond b (option_and_then (slice_get shared.events) (place_in_order shared.in_order id)) None) (within id.number (slice_index shared.counts id.trace) number)
        ∙ (ap (λ es. option_and_then (slice_get es) (place_in_order shared.in_order id)) same_events
        ∙ (ap (option_and_then (slice_get events)) (same_order id) ∙ at_place id some));
  }
    where
      counts_are : (trace : ℕ) → trace < 256 → slice_index shared.counts trace ≡ count_on trace (delivered (reverse (entries_of events marks)))
      counts_are trace below = ap (λ cs. slice_index cs trace) same_counts ∙ store.counts_are trace below

      at_place : (id : EventId) → IsSome (place_in_order index.in_order id) → option_and_then (slice_get events) (place_in_order index.in_order id) ≡ event_of (came (reverse (entries_of events marks))) id
      at_place id some = elim (place_in_order index.in_order id) as (λ o. place_in_order index.in_order id ≡ o → IsSome o → option_and_then (slice_get events) o ≡ event_of (came (reverse (entries_of events marks))) id) [
        | None ↦ λ is none. absurd cc
        | Some place ↦ λ is h. came_there id place (ap (λ o. option_or o (held_at index.early id)) is)
      ] refl some
