use Rattle.std.specs.Prelude.{◌≡◌, ℕ, ◌<◌, List, length, reverse, Contains, Some, IsSome, slice_get, slice_index}
use Rattle.std.specs.BTreeMap.{BTreeMap, get}
use Rattle.std.specs.declared.cmp.Ordering.{Ordering}
use Rattle.std.specs.Ordering.{nat_cmp, ordering_then}
use Rattle.causal_base.specs.declared.entry.Entry.{Entry}
use Rattle.causal_base.specs.declared.entry.Entry.TheVariants.{Came}
use Rattle.causal_base.specs.declared.event.Event.{Event}
use Rattle.causal_base.specs.declared.event_id.EventId.{EventId}
use Rattle.causal_base.specs.declared.limits.TheConstants.{MOST_TRACES}
use Rattle.causal_base.specs.History.{count_on}
use Rattle.causal_base.specs.Past.{came, delivered}

-- the order of ids: by trace, and then by number
abbrev pub id_cmp : EventId → EventId → Ordering
id_cmp a b = ordering_then (nat_cmp a.trace b.trace) (nat_cmp a.number b.number)

-- the event with this id came at this place of the journal
abbrev pub CameAt : List Entry → ℕ → EventId → Type 0
CameAt journal place id = (collector : ℕ) × (e : Event)
    × (slice_get journal place ≡ Some (Came collector e)) × (e.id ≡ id)

-- What is kept beside a journal agrees with it: where each event came, how many events of each
-- trace were delivered, and how many events came.
pub record IsIndexOf (journal : List Entry) (places : BTreeMap EventId ℕ) (counts : List ℕ)
    (accepted : ℕ) : Type 0 where
  pub sound : (id : EventId) (place : ℕ) → get id_cmp places id ≡ Some place
      → CameAt journal place id
  pub complete : (e : Event) → Contains (came (reverse journal)) e → IsSome (get id_cmp places e.id)
  pub delivered_counts : (trace : ℕ) → trace < MOST_TRACES
      → slice_index counts trace ≡ count_on trace (delivered (reverse journal))
  pub accepted_count : accepted ≡ length (came (reverse journal))
