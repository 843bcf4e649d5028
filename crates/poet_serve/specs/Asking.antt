-- What a client is told, line by line.
use Rattle.std.specs.Prelude.{◌≡◌, ◌≢◌, ◌≤◌, ℕ, Bool, false, List, [], ◌∷◌, length, take, Some, slice_get, suc}
use Rattle.answer_text.specs.declared.reply.Reply.TheVariants.{Later}
use Rattle.client_session.specs.declared.command.Command.{Command}
use Rattle.client_session.specs.Replies.{Seen, IsEmptyCut, IsReply, seen_of}
use Rattle.poet_serve.specs.declared.report.Line.{Line}

-- what was seen when a journal had so many entries
abbrev pub seen_at : Seen → ℕ → Seen
seen_at seen entries =
    seen_of seen.types seen.clustering seen.collectors (take entries seen.journal)

-- A line says the reply to the command at its place, on so many entries of the journal as it tells,
-- no fewer than a line before it told. It isn't 'later'.
pub record IsLine (seen : Seen) (commands : List Command) (place least : ℕ) (cut : List ℕ)
    (line : Line) (after : List ℕ) : Type 0 where
  pub place_is : line.place ≡ place
  pub no_fewer : least ≤ line.at
  pub within : line.at ≤ length seen.journal
  pub command : Command
  pub command_is : slice_get commands place ≡ Some command
  pub reply : IsReply (seen_at seen line.at) cut command line.reply after
  pub told : line.reply ≢ Later

-- The lines are those of the commands from this place on, each from the cut that the one before it
-- leaves.
abbrev pub AreLinesFrom : Seen → List Command → (place least : ℕ) → (cut : List ℕ) → List Line
    → Type 0
AreLinesFrom seen commands place least cut [] = Unit {0}
AreLinesFrom seen commands place least cut (line ∷ lines) = (after : List ℕ)
    × IsLine seen commands place least cut line after
    × AreLinesFrom seen commands (suc place) line.at after lines

-- What a client was told of a journal that went on from so many entries: a line for each of its
-- commands, from the first on and from the empty cut; where memory ran out, perhaps not all.
pub record IsTold (seen : Seen) (commands : List Command) (least : ℕ) (lines : List Line)
    (memory : Bool) : Type 0 where
  pub cut : List ℕ
  pub empty : IsEmptyCut seen.types.traces cut
  pub lines_are : AreLinesFrom seen commands 0 least cut lines
  pub all : memory ≡ false → length lines ≡ length commands
