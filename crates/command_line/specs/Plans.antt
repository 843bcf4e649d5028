-- What the words of a command line ask for.
use Rattle.std.specs.Prelude.{◌≡◌, ℕ, ◌≤◌, List, [], ◌∷◌, length, Option, codes, decimal}
use Rattle.causal_base.specs.declared.event_id.EventId.{EventId}
use Rattle.causal_base.specs.declared.limits.TheConstants.{MOST_EVENTS, MOST_TRACES}
use Rattle.causal_base.specs.Fields.{IsIdInRange}
use Rattle.command_line.specs.Items.{NameFiles}
use Rattle.command_line.specs.Options.{TakesAfter, TakesLevels}

-- Which files are replayed, and how: the sizes of the levels of clusters, the number of the
-- communication from which on two clusters may merge, the target file, the files of events, one for
-- each collector, the scripts of the clients, and the closing script, if there is one.
pub record ReplayAsked : Type 0 where
  pub sizes : List ℕ
  pub after : ℕ
  pub target : List ℕ
  pub events : List (List ℕ)
  pub clients : List (List ℕ)
  pub closing : Option (List ℕ)

-- what words ask for: whether one event of a file happened before another, a replay, or a load of
-- so many events
pub data Asked : Type 0 where
  Ask : (name : List ℕ) (a b : EventId) → Asked
  Replay : (asked : ReplayAsked) → Asked
  Load : (events : ℕ) → Asked

-- The words are `ask`, the name of a file of events, and two ids.
pub record AreAskWords (words : List (List ℕ)) (name : List ℕ) (a b : EventId) : Type 0 where
  pub first : List ℕ
  pub second : List ℕ
  pub are : words ≡ codes "ask" ∷ name ∷ first ∷ second ∷ []
  pub a_is : IsIdInRange first MOST_TRACES a
  pub b_is : IsIdInRange second MOST_TRACES b

-- The words are `replay`, the levels or nothing, the number from which on clusters may merge or
-- nothing, the target, and files, with at least one of events.
pub record AreReplayWords (words : List (List ℕ)) (asked : ReplayAsked) : Type 0 where
  pub behind : List (List ℕ)
  pub middle : List (List ℕ)
  pub files : List (List ℕ)
  pub are : words ≡ codes "replay" ∷ behind
  pub levels : TakesLevels behind middle asked.sizes
  pub merging : TakesAfter middle (asked.target ∷ files) asked.after
  pub named : NameFiles files asked.events asked.clients asked.closing
  pub some_events : 1 ≤ length asked.events

-- The words are `load` and a number of events, at most 400,000.
pub record AreLoadWords (words : List (List ℕ)) (events : ℕ) : Type 0 where
  pub are : words ≡ codes "load" ∷ decimal events ∷ []
  pub most : events ≤ MOST_EVENTS

-- the words ask for this
abbrev pub IsPlan : List (List ℕ) → Asked → Type 0
IsPlan words (Ask name a b) = AreAskWords words name a b
IsPlan words (Replay asked) = AreReplayWords words asked
IsPlan words (Load events) = AreLoadWords words events
