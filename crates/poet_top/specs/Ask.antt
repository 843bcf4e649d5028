use Rattle.std.specs.Prelude.{◌≡◌, ◌<◌, ◌≤◌, ◌⊎◌, ◌++◌, ℕ, Bool, List, length, map}
use Rattle.std.specs.Set.{distinct_count}
use Rattle.causal_base.specs.declared.answer.Answer.{Answer}
use Rattle.causal_base.specs.declared.event.Event.{Event}
use Rattle.causal_base.specs.declared.event_id.EventId.{EventId}
use Rattle.causal_base.specs.declared.limits.TheConstants.{MOST_EVENTS, MOST_PLAIN_EVENTS, MOST_TRACES}
use Rattle.causal_base.specs.Types.{TypeTable, builtin_types}
use Rattle.causal_base.specs.Past.{is_same_id}
use Rattle.causal_base.specs.Asked.{IsAsked}
use Rattle.raw_reader.specs.declared.cause.LineError.{LineError}
use Rattle.raw_reader.specs.Texts.{events_of, IsOpenText, BeginsWithBatches, IsGoodText, HasFault}
use Rattle.poet_top.specs.declared.limits.TheConstants.{MOST_READ}

-- the types of the events that `ask` reads: the built-in ones, over 256 traces
abbrev pub asked_types : TypeTable
asked_types = builtin_types MOST_TRACES

-- how many different ids events have
abbrev pub count_of_ids : List Event → ℕ
count_of_ids events = distinct_count is_same_id (map (λ e. e.id) events)

-- The bytes are a good text, whose events have no more ids than the plain list takes, and the
-- answer is the one over these events, taken in turn, that plain happened-before gives.
pub record IsAnswerOver (types : TypeTable) (bytes : List ℕ) (a b : EventId) (answer : Answer Bool)
    : Type 0 where
  pub batches : List (List Event)
  pub good : IsGoodText types bytes batches
  pub few : count_of_ids (events_of batches) ≤ MOST_PLAIN_EVENTS
  pub asked : IsAsked types MOST_EVENTS (events_of batches) a b answer

-- The bytes have this first fault, and the events of the batches before it have no more ids than
-- the plain list takes.
pub record HasBadLine (types : TypeTable) (bytes : List ℕ) (error : LineError) : Type 0 where
  pub batches : List (List Event)
  pub fault : HasFault types bytes batches error
  pub few : count_of_ids (events_of batches) ≤ MOST_PLAIN_EVENTS

-- The bytes begin with good lines that close batches of events with more ids than the plain list
-- takes, or they are a good text and its batches are such.
pub record HasManyIds (types : TypeTable) (bytes : List ℕ) : Type 0 where
  pub batches : List (List Event)
  pub closed : BeginsWithBatches types bytes batches ⊎ IsGoodText types bytes batches
  pub many : MOST_PLAIN_EVENTS < count_of_ids (events_of batches)

-- The bytes are an open text, and the events of the batches that it closes have no more ids than
-- the plain list takes: neither a bad line nor too many ids show in them.
pub record IsUndecided (types : TypeTable) (bytes : List ℕ) : Type 0 where
  pub batches : List (List Event)
  pub text : IsOpenText types bytes batches
  pub few : count_of_ids (events_of batches) ≤ MOST_PLAIN_EVENTS

-- What was read of the bytes, until this was left of them, is undecided.
pub record IsUndecidedUpTo (types : TypeTable) (bytes left : List ℕ) : Type 0 where
  pub read : List ℕ
  pub whole : bytes ≡ read ++ left
  pub undecided : IsUndecided types read

-- The bytes were read no further than one piece behind what is undecided, and this was left of
-- them.
pub record IsReadNoFurther (types : TypeTable) (bytes left : List ℕ) : Type 0 where
  pub earlier : List ℕ
  pub piece : List ℕ
  pub whole : bytes ≡ (earlier ++ piece) ++ left
  pub short : length piece ≤ MOST_READ
  pub undecided : IsUndecided types earlier
