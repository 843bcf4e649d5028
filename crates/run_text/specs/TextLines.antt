-- What is printed of each kind of line, without its end.
use Rattle.std.specs.Prelude.{ℕ, List, ◌++◌, codes}
use Rattle.answer_text.specs.Texts.{text_of_entry, text_of_reply, IsPrintable, IsPrintableEntry}
use Rattle.causal_base.specs.Entry.{entry_of}
use Rattle.client_session.specs.Commands.{command_text}
use Rattle.run_text.specs.declared.text_line.TextLine.{TextLine}
use Rattle.run_text.specs.declared.text_line.TextLine.TheVariants.{Traces, Levels, Journal, Entry, Client, Asked, Closing, Collector, Clash, Held, Status}
use Rattle.run_text.specs.Lines.{text_of_clash, text_of_client, text_of_collector, text_of_levels, with_number}

-- the line
abbrev pub text_of_text_line : TextLine → List ℕ
text_of_text_line (Traces traces) = with_number (codes "traces ") traces
text_of_text_line (Levels sizes after) = text_of_levels sizes.now after
text_of_text_line (Journal entries) = with_number (codes "journal ") entries
text_of_text_line (Entry types entry) = text_of_entry types.now (entry_of entry)
text_of_text_line (Client client count) = text_of_client client count
text_of_text_line (Asked types at command reply) = with_number (codes "at ") at
    ++ (codes " " ++ command_text command.now)
    ++ (codes " = " ++ text_of_reply types.now reply.now)
text_of_text_line (Closing count) = with_number (codes "closing ") count
text_of_text_line (Collector collector accepted repeats clashes stop) =
    text_of_collector collector accepted repeats clashes stop
text_of_text_line (Clash id) = text_of_clash id
text_of_text_line (Held held) = with_number (codes "held ") held
text_of_text_line (Status status) = with_number (codes "status ") status

-- an event that it shows is fit, and a reply in it isn't `Later`
abbrev pub IsPrintableTextLine : TextLine → Type 0
IsPrintableTextLine (Entry types entry) = IsPrintableEntry types.now (entry_of entry)
IsPrintableTextLine (Asked types at command reply) = IsPrintable types.now reply.now
IsPrintableTextLine line = Unit {0}
