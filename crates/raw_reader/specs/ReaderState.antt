use Rattle.std.specs.Prelude.{◌≡◌, ◌≤◌, ◌⊎◌, ℕ, List, ◌++◌, ◌+◌, length, Option, MatchOption}
use Rattle.std.specs.List.{AllByRecursion}
use Rattle.causal_base.specs.declared.event.Event.{Event}
use Rattle.causal_base.specs.Types.{TypeTable}
use Rattle.raw_reader.specs.declared.cause.LineCause.TheVariants.{Oom}
use Rattle.raw_reader.specs.declared.cause.LineError.{LineError}
use Rattle.raw_reader.specs.EventParts.{IsOneLine}
use Rattle.raw_reader.specs.declared.limits.TheConstants.{MOST_INPUT, MOST_LINE}
use Rattle.raw_reader.specs.Texts.{TextLine, IsFitLine, text_of_lines, batches_of, IsKnownAfter, IsGoodText, HasFault}

-- what a reader keeps: the types, how many bytes it was fed and how many lines ended, the line and
-- the batch that are open, the batches that wait, and the refusal, once there was one
pub record ReaderState : Type 0 where
  pub types : TypeTable
  pub size : ℕ
  pub lines : ℕ
  pub tail : List ℕ
  pub begun : List Event
  pub waiting : List (List Event)
  pub refusal : Option LineError

-- The reader was fed these bytes, of which these batches were taken, and it goes on: the bytes are
-- good lines, and the open line.
pub record ReadsOn (reader : ReaderState) (fed : List ℕ) (taken : List (List Event)) : Type 0 where
  pub lines : List TextLine
  pub fit : AllByRecursion (IsFitLine reader.types) lines
  pub fed_is : fed ≡ text_of_lines reader.types lines ++ reader.tail
  pub one_line : IsOneLine reader.tail
  pub short : length reader.tail ≤ MOST_LINE
  pub size_is : reader.size ≡ length fed
  pub within : length fed ≤ MOST_INPUT
  pub count_is : reader.lines ≡ length lines
  pub batches : batches_of lines ≡ record { closed = taken ++ reader.waiting; begun = reader.begun }

-- It ran out of memory at the line behind these good lines, with which the text begins, and the
-- batches that were taken and that wait are those that they close.
pub record RanOut (reader : ReaderState) (fed : List ℕ) (taken : List (List Event))
    (error : LineError) : Type 0 where
  pub lines : List TextLine
  pub fit : AllByRecursion (IsFitLine reader.types) lines
  pub rest : List ℕ
  pub whole : fed ≡ text_of_lines reader.types lines ++ rest
  pub within : length (text_of_lines reader.types lines) ≤ MOST_INPUT
  pub closed : (batches_of lines).closed ≡ taken ++ reader.waiting
  pub line_is : error.line ≡ length lines + 1
  pub cause : error.cause ≡ Oom

-- It met the first fault, and the batches that were taken and that wait are those that the lines
-- before it close.
pub record MetFault (reader : ReaderState) (fed : List ℕ) (taken : List (List Event))
    (error : LineError) : Type 0 where
  pub lines : List TextLine
  pub fault : IsKnownAfter reader.types fed lines error
  pub batches : (batches_of lines).closed ≡ taken ++ reader.waiting

-- The reader has read the bytes that it was fed, of which these batches were taken.
abbrev pub HasRead : ReaderState → List ℕ → List (List Event) → Type 0
HasRead reader fed taken = MatchOption reader.refusal (ReadsOn reader fed taken)
    (λ error. RanOut reader fed taken error ⊎ MetFault reader fed taken error)

-- The reader has read a text to its end: the batches that were taken and that wait are all of
-- it, or those before its first fault, or it ran out of memory.
abbrev pub HasReadToEnd : ReaderState → List ℕ → List (List Event) → Type 0
HasReadToEnd reader fed taken = MatchOption reader.refusal
    (IsGoodText reader.types fed (taken ++ reader.waiting))
    (λ error. RanOut reader fed taken error
    ⊎ HasFault reader.types fed (taken ++ reader.waiting) error)

-- What waited still waits, with more behind it.
pub record KeepsWaiting (before after : ReaderState) : Type 0 where
  pub more : List (List Event)
  pub behind : after.waiting ≡ before.waiting ++ more
