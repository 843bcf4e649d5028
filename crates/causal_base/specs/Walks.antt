use Rattle.std.specs.Prelude.{◌≡◌, ◌≢◌, ◌+◌, ◌⊎◌, List, [], ◌∷◌, Contains}
use Rattle.causal_base.specs.declared.event.Event.{Event}
use Rattle.causal_base.specs.declared.related.Related.{Related}
use Rattle.causal_base.specs.declared.related.Related.TheVariants.{Before, After, Concurrent, Same, Partners}
use Rattle.causal_base.specs.Types.{TypeTable}
use Rattle.causal_base.specs.Event.{Fits, Pairs}

-- the second event is the one right after the first on the same trace
pub record Succeeds (a b : Event) : Type 0 where
  pub trace : b.id.trace ≡ a.id.trace
  pub number : b.id.number ≡ a.id.number + 1

-- Cause and effect in one step, within a set of events: the next event of the trace, the receive of
-- a message or the watch of an event, or the other half of a pair. Lamport 1978, with watched
-- events and pairs added.
pub record Step (types : TypeTable) (events : List Event) (a b : Event) : Type 0 where
  pub from : Contains events a
  pub to : Contains events b
  pub cause : Succeeds a b ⊎ (Fits types b a ⊎ Pairs types a b)

-- A walk goes from a through these events, in this order, each a step from the one before it, and
-- ends with b.
abbrev pub Walk : TypeTable → List Event → Event → List Event → Event → Type 0
Walk types events a [] b = a ≡ b
Walk types events a (x ∷ xs) b = Step types events a x × Walk types events x xs b

-- There is a walk from a to b. A walk of no steps counts, so each of the events reaches itself.
pub record Reaches (types : TypeTable) (events : List Event) (a b : Event) : Type 0 where
  pub among : Contains events a
  pub through : List Event
  pub walk : Walk types events a through b

-- a happened before b: there is a walk, and they are neither the same event nor one pair
pub record IsBefore (types : TypeTable) (events : List Event) (a b : Event) : Type 0 where
  pub reaches : Reaches types events a b
  pub different : a ≢ b
  pub apart : Pairs types a b → ⊥

-- Neither could have influenced the other, and they are neither the same event nor one pair.
pub record AreConcurrent (types : TypeTable) (events : List Event) (a b : Event) : Type 0 where
  pub different : a ≢ b
  pub apart : Pairs types a b → ⊥
  pub not_before : IsBefore types events a b → ⊥
  pub not_after : IsBefore types events b a → ⊥

-- how a lies to b
abbrev pub AreRelated : TypeTable → List Event → Event → Event → Related → Type 0
AreRelated types events a b Before = IsBefore types events a b
AreRelated types events a b After = IsBefore types events b a
AreRelated types events a b Concurrent = AreConcurrent types events a b
AreRelated types events a b Same = a ≡ b
AreRelated types events a b Partners = Pairs types a b
