-- All events of a list are delivered, where one thread took them.
use Rattle.std.proofs.Common.{◌≡◌, ◌≤◌, List, length, sym, subst, arith}
use Rattle.std.specs.Prelude.{◌↔◌, AllPairs, Contains, reverse}
use Rattle.std.proofs.lemmas.List.{reverse-reverse}
use Rattle.std.proofs.lemmas.List.Sorted.{Contains-permutation, IsPermutation-reverse}
use Rattle.causal_base.specs.declared.entry.Entry.{Entry}
use Rattle.causal_base.specs.declared.event.Event.{Event}
use Rattle.causal_base.specs.declared.limits.TheConstants.{MOST_EVENTS}
use Rattle.causal_base.specs.History.{EventBlock, IsCausal, all_events}
use Rattle.causal_base.specs.Journal.{came_by, delivered_by}
use Rattle.causal_base.specs.Types.{TypeTable}
use Rattle.load_run.specs.LoadTexts.{shares}
use Rattle.load_run.proofs.Parting.{all_of, ids_differ, no_more_events, own_ids, same_events}

-- a list has the events of its reverse
reversed : (events : List Event) (e : Event) → Contains (reverse events) e ↔ Contains events e
reversed events e = (
  (λ inside. subst (λ (its : List Event). Contains its e) (reverse-reverse events) (Contains-permutation (reverse events) (reverse (reverse events)) e (IsPermutation-reverse (reverse events)) inside)),
  (λ inside. Contains-permutation events (reverse events) e (IsPermutation-reverse events) inside),
)

module _ (types : TypeTable) (events : List Event) (journal : List Entry) (few : length events ≤ MOST_EVENTS) (differ : AllPairs ids_differ events)
    (takes_all : AllPairs ids_differ (all_of (shares events)) → length (all_of (shares events)) ≤ MOST_EVENTS → came_by journal ≡ reverse (all_of (shares events))) where
  -- all events of the list came
  came_whole : (e : Event) → Contains (came_by journal) e ↔ Contains events e
  came_whole e =
      let came : came_by journal ≡ reverse (all_of (shares events)) = takes_all (own_ids events differ) (omega (arith, no_more_events events, few)) in
      let back = reversed (all_of (shares events)) e in
      let same = same_events events e in (
        (λ inside. same.0 (back.0 (subst (λ (its : List Event). Contains its e) came inside))),
        (λ inside. subst (λ (its : List Event). Contains its e) (sym came) (back.1 (same.1 inside))),
      )

  -- and as all of them can be delivered, they are
  pub delivered_whole : (history : List EventBlock) → IsCausal types history → ((e : Event) → Contains (all_events history) e ↔ Contains events e)
      → (((e : Event) → Contains (all_events history) e ↔ Contains (came_by journal) e) → (e : Event) → Contains (delivered_by journal) e ↔ Contains (came_by journal) e)
      → (e : Event) → Contains (delivered_by journal) e ↔ Contains events e
  delivered_whole history causal all delivers e =
      let delivered = delivers (λ x. ((λ inside. (came_whole x).1 ((all x).0 inside)), (λ inside. (all x).1 ((came_whole x).0 inside)))) e in (
        (λ inside. (came_whole e).0 (delivered.0 inside)),
        (λ inside. delivered.1 ((came_whole e).1 inside)),
      )
