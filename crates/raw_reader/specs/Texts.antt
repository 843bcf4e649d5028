use Rattle.std.specs.Prelude.{◌≡◌, ◌≢◌, ◌<◌, ◌≤◌, ◌+◌, ◌==◌, ◌⊎◌, ℕ, cond, List, [], ◌∷◌, ◌++◌, length, take, codes, Option, None, Some}
use Rattle.std.specs.List.{AllByRecursion, flat_map}
use Rattle.causal_base.specs.declared.event.Event.{Event}
use Rattle.causal_base.specs.Event.{IsFit}
use Rattle.causal_base.specs.Spelling.{spelling}
use Rattle.causal_base.specs.Types.{TypeTable}
use Rattle.raw_reader.specs.declared.cause.LineCause.{LineCause}
use Rattle.raw_reader.specs.declared.cause.LineCause.TheVariants.{TooLarge, LongLine, Unended}
use Rattle.raw_reader.specs.declared.cause.LineError.{LineError}
use Rattle.raw_reader.specs.declared.limits.TheConstants.{MOST_INPUT, MOST_LINE, MOST_IN_BATCH}
use Rattle.raw_reader.specs.Causes.{IsCause}
use Rattle.raw_reader.specs.EventParts.{IsOneLine}

-- What a line says: it closes the batch that is open, or it is an event.
pub data TextLine : Type 0 where
  stop : TextLine
  says : Event → TextLine

-- what a line says, told by the event, if it is one
abbrev pub line_of : Option Event → TextLine
line_of None = stop
line_of (Some e) = says e

-- a full stop alone, or the spelling of the event
abbrev pub line_bytes : TypeTable → TextLine → List ℕ
line_bytes types stop = codes "."
line_bytes types (says e) = spelling types e

abbrev pub IsFitLine : TypeTable → TextLine → Type 0
IsFitLine types stop = Unit {0}
IsFitLine types (says e) = IsFit types e

-- the lines, each with a line feed at its end
abbrev pub text_of_lines : TypeTable → List TextLine → List ℕ
text_of_lines types lines = flat_map (λ line. line_bytes types line ++ (10 ∷ [])) lines

-- batches that are closed, and the events of the one that is begun
pub record Batches : Type 0 where
  pub closed : List (List Event)
  pub begun : List Event

-- the open batch is closed, if it has an event
abbrev pub piece_of : List Event → List (List Event)
piece_of [] = []
piece_of (e ∷ events) = (e ∷ events) ∷ []

abbrev pub closed_off : Batches → Batches
closed_off batches = record { closed = batches.closed ++ piece_of batches.begun; begun = [] }

-- the batches after one more line: a full stop closes the open one, and so does the event that
-- makes it full
abbrev pub batches_with : Batches → TextLine → Batches
batches_with batches stop = closed_off batches
batches_with batches (says e) =
    let more : Batches = record { closed = batches.closed; begun = batches.begun ++ e ∷ [] } in
    cond (length more.begun == MOST_IN_BATCH) (closed_off more) more

abbrev pub batches_from : Batches → List TextLine → Batches
batches_from batches [] = batches
batches_from batches (line ∷ lines) = batches_from (batches_with batches line) lines

-- the batches of lines
abbrev pub batches_of : List TextLine → Batches
batches_of lines = batches_from (record { closed = []; begun = [] }) lines

-- What is wrong with an ended line.
abbrev pub IsEndedCause : TypeTable → List ℕ → LineCause → Type 0
IsEndedCause types line cause = ((MOST_LINE < length line) × (cause ≡ LongLine))
    ⊎ ((length line ≤ MOST_LINE) × (line ≢ codes ".") × IsCause types line cause)

-- What is known to be wrong with the line that a tail of a text begins with, whatever follows: the
-- tail is of what stands within the limit, and the text has so many bytes.
abbrev pub IsTailCause : TypeTable → ℕ → List ℕ → LineCause → Type 0
IsTailCause types size tail cause =
    ((bad : List ℕ) × (others : List ℕ) × (tail ≡ bad ++ 10 ∷ others) × IsOneLine bad
    × IsEndedCause types bad cause)
    ⊎ (IsOneLine tail × (((MOST_LINE < length tail) × (cause ≡ LongLine))
    ⊎ ((length tail ≤ MOST_LINE) × (MOST_INPUT < size) × (cause ≡ TooLarge))))

-- The text is these good lines and then a line with this fault, which every text has that goes on
-- from it.
pub record IsKnownAfter (types : TypeTable) (bytes : List ℕ) (lines : List TextLine)
    (error : LineError) : Type 0 where
  pub fit : AllByRecursion (IsFitLine types) lines
  pub tail : List ℕ
  pub within : take MOST_INPUT bytes ≡ text_of_lines types lines ++ tail
  pub line_is : error.line ≡ length lines + 1
  pub cause : IsTailCause types (length bytes) tail error.cause

-- The text is these good lines, and ends within the next.
pub record IsUnendedAfter (types : TypeTable) (bytes : List ℕ) (lines : List TextLine)
    (error : LineError) : Type 0 where
  pub fit : AllByRecursion (IsFitLine types) lines
  pub tail : List ℕ
  pub within : length bytes ≤ MOST_INPUT
  pub whole : bytes ≡ text_of_lines types lines ++ tail
  pub one_line : IsOneLine tail
  pub some : tail ≢ []
  pub short : length tail ≤ MOST_LINE
  pub line_is : error.line ≡ length lines + 1
  pub cause : error.cause ≡ Unended

-- the events of batches
abbrev pub events_of : List (List Event) → List Event
events_of batches = flat_map (λ batch. batch) batches

-- The bytes are good lines and the line that is open behind them, within the limit, and these
-- batches are closed.
pub record IsOpenText (types : TypeTable) (bytes : List ℕ) (batches : List (List Event))
    : Type 0 where
  pub lines : List TextLine
  pub fit : AllByRecursion (IsFitLine types) lines
  pub tail : List ℕ
  pub whole : bytes ≡ text_of_lines types lines ++ tail
  pub one_line : IsOneLine tail
  pub short : length tail ≤ MOST_LINE
  pub within : length bytes ≤ MOST_INPUT
  pub closed : (batches_of lines).closed ≡ batches

-- The text begins with good lines, within the limit, that close these batches, whatever
-- follows.
pub record BeginsWithBatches (types : TypeTable) (bytes : List ℕ) (batches : List (List Event))
    : Type 0 where
  pub lines : List TextLine
  pub fit : AllByRecursion (IsFitLine types) lines
  pub rest : List ℕ
  pub whole : bytes ≡ text_of_lines types lines ++ rest
  pub within : length (text_of_lines types lines) ≤ MOST_INPUT
  pub closed : (batches_of lines).closed ≡ batches

-- The whole text is good lines, and they and its end close these batches.
pub record IsGoodText (types : TypeTable) (bytes : List ℕ) (batches : List (List Event))
    : Type 0 where
  pub lines : List TextLine
  pub fit : AllByRecursion (IsFitLine types) lines
  pub whole : bytes ≡ text_of_lines types lines
  pub within : length bytes ≤ MOST_INPUT
  pub closed : (closed_off (batches_of lines)).closed ≡ batches

-- The whole text has this first fault, and the good lines before it close these batches; the batch
-- that is open is lost.
pub record HasFault (types : TypeTable) (bytes : List ℕ) (batches : List (List Event))
    (error : LineError) : Type 0 where
  pub lines : List TextLine
  pub fault : IsKnownAfter types bytes lines error ⊎ IsUnendedAfter types bytes lines error
  pub closed : (batches_of lines).closed ≡ batches
