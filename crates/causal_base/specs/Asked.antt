use Rattle.std.specs.Prelude.{◌≡◌, ℕ, ◌↔◌, Bool, IsTrue, List, [], ◌∷◌, ◌++◌, Contains}
use Rattle.causal_base.specs.declared.answer.Answer.{Answer}
use Rattle.causal_base.specs.declared.entry.Entry.{Entry}
use Rattle.causal_base.specs.declared.entry.Entry.TheVariants.{Ended}
use Rattle.causal_base.specs.declared.event.Event.{Event}
use Rattle.causal_base.specs.declared.event_id.EventId.{EventId}
use Rattle.causal_base.specs.Types.{TypeTable}
use Rattle.causal_base.specs.Walks.{IsBefore}
use Rattle.causal_base.specs.Answers.{IsAnswer}
use Rattle.causal_base.specs.Journal.{delivered_by}
use Rattle.causal_base.specs.InTurn.{IsInTurn}

-- The answer says whether the event a happened before the event b, where both are among the events.
pub record SaysWhetherBefore (types : TypeTable) (events : List Event) (a b : EventId) (said : Bool)
    : Type 0 where
  pub first : Event
  pub first_among : Contains events first
  pub first_id : first.id ≡ a
  pub second : Event
  pub second_among : Contains events second
  pub second_id : second.id ≡ b
  pub says : IsTrue said ↔ IsBefore types events first second

-- what plain happened-before over these events answers to 'did a happen before b'
abbrev pub IsBeforeAnswer : TypeTable → List Event → EventId → EventId → Answer Bool → Type 0
IsBeforeAnswer types events a b answer =
    IsAnswer events (a ∷ b ∷ []) (SaysWhetherBefore types events a b) answer

-- What is answered over a list of events: one thread takes them in turn as one collector's, so that
-- of events with one id the first counts, and the answer is that of plain happened-before over what
-- was delivered in the end.
pub record IsAsked (types : TypeTable) (limit : ℕ) (events : List Event) (a b : EventId)
    (answer : Answer Bool) : Type 0 where
  pub journal : List Entry
  pub in_turn : IsInTurn types limit (events ∷ []) (journal ++ Ended 0 ∷ [])
  pub answered : IsBeforeAnswer types (delivered_by journal) a b answer
