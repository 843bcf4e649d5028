-- What is answered to 'how does a lie to b'.
use Rattle.std.specs.Prelude.{◌≡◌, ◌≢◌, ◌⊎◌, List, [], ◌∷◌, Contains, Option, None, Some}
use Rattle.causal_base.specs.declared.answer.Answer.{Answer}
use Rattle.causal_base.specs.declared.event.Event.{Event}
use Rattle.causal_base.specs.declared.event_id.EventId.{EventId}
use Rattle.causal_base.specs.declared.related.Related.{Related}
use Rattle.causal_base.specs.declared.related.Related.TheVariants.{Same, Partners}
use Rattle.causal_base.specs.Types.{TypeTable}
use Rattle.causal_base.specs.Event.{Pairs}
use Rattle.causal_base.specs.Walks.{AreRelated}
use Rattle.causal_base.specs.Answers.{IsAnswer}

-- This is so of the events with these two ids, which are among the events.
pub record SaysOfTwo (events : List Event) (a b : EventId) (IsSo : Event → Event → Type 0) : Type 0
  where
    pub first : Event
    pub first_among : Contains events first
    pub first_id : first.id ≡ a
    pub second : Event
    pub second_among : Contains events second
    pub second_id : second.id ≡ b
    pub is_so : IsSo first second

-- how the event a lies to the event b, where both are among the events
abbrev pub IsRelationAnswer : TypeTable → List Event → EventId → EventId → Answer Related → Type 0
IsRelationAnswer types events a b answer =
    IsAnswer events (a ∷ b ∷ []) (λ said. SaysOfTwo events a b (λ x y. AreRelated types events x y said))
    answer

-- two events are one thing: one event, or partners; or neither
abbrev pub AreOneThing : TypeTable → Event → Event → Option Related → Type 0
AreOneThing types a b None = (a ≢ b) × ¬ Pairs types a b
AreOneThing types a b (Some said) = ((said ≡ Same) × (a ≡ b)) ⊎ ((said ≡ Partners) × Pairs types a b)

-- whether the event a is one thing with the event b, where both are among the events
abbrev pub IsOneThingAnswer : TypeTable → List Event → EventId → EventId → Answer (Option Related)
    → Type 0
IsOneThingAnswer types events a b answer =
    IsAnswer events (a ∷ b ∷ []) (λ said. SaysOfTwo events a b (λ x y. AreOneThing types x y said))
    answer
