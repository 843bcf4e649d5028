-- What has to hold of the lines of clients for them to be printed.
use Rattle.std.specs.Prelude.{◌≡◌, List, [], ◌∷◌, Some, slice_get}
use Rattle.std.specs.List.{AllByRecursion}
use Rattle.answer_text.specs.Texts.{IsPrintable}
use Rattle.causal_base.specs.Types.{TypeTable}
use Rattle.client_session.specs.declared.command.Command.{Command}
use Rattle.poet_serve.specs.declared.report.ClientReport.{ClientReport}
use Rattle.poet_serve.specs.declared.report.Line.{Line}

-- The script has a command at the line's place, and the reply has a text.
pub record IsPrintableLine (types : TypeTable) (commands : List Command) (line : Line)
    : Type 0 where
  pub command : Command
  pub command_is : slice_get commands line.place ≡ Some command
  pub reply : IsPrintable types line.reply

-- so it is with all lines of a client
abbrev pub HasPrintableLines : TypeTable → List Command → ClientReport → Type 0
HasPrintableLines types commands report =
    AllByRecursion (IsPrintableLine types commands) report.lines

-- there are as many clients as scripts, and so it is with each
abbrev pub HavePrintableLines : TypeTable → List (List Command) → List ClientReport → Type 0
HavePrintableLines types [] [] = Unit {0}
HavePrintableLines types [] (report ∷ reports) = ⊥
HavePrintableLines types (commands ∷ scripts) [] = ⊥
HavePrintableLines types (commands ∷ scripts) (report ∷ reports) =
    HasPrintableLines types commands report × HavePrintableLines types scripts reports
