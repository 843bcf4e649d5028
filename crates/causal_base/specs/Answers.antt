-- What is answered of events that are named by their ids, some of which may not be there yet.
use Rattle.std.specs.Prelude.{◌≡◌, ◌⊎◌, List, [], ◌∷◌}
use Rattle.std.specs.List.{AllByRecursion}
use Rattle.causal_base.specs.declared.answer.Answer.{Answer}
use Rattle.causal_base.specs.declared.answer.Answer.TheVariants.{Known, NotYet}
use Rattle.causal_base.specs.declared.event.Event.{Event}
use Rattle.causal_base.specs.declared.event_id.EventId.{EventId}
use Rattle.causal_base.specs.Past.{HasEvent}

-- the id is the first of the named ones that none of the events has
abbrev pub IsFirstMissing : List Event → List EventId → EventId → Type 0
IsFirstMissing events [] id = ⊥
IsFirstMissing events (named ∷ others) id = ((id ≡ named) × (¬ HasEvent events named))
    ⊎ (HasEvent events named × IsFirstMissing events others id)

-- The answer is a value of which this is so, where each named id is that of an event; else it is
-- 'not yet', with the first that isn't.
abbrev pub IsAnswer : {Value : Type 0} → List Event → List EventId → (Value → Type 0) → Answer Value
    → Type 0
IsAnswer events named IsSo (Known value) = AllByRecursion (HasEvent events) named × IsSo value
IsAnswer events named IsSo (NotYet id) = IsFirstMissing events named id
