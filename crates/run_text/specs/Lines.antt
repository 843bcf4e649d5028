-- The lines that are printed of a run, without their ends. Numbers are in decimal.
use Rattle.std.specs.Prelude.{ℕ, List, [], ◌∷◌, ◌++◌, length, map, slice_get, codes, decimal, if◌then◌else◌, ◌==◌}
use Rattle.std.specs.List.{enumerate_from, flat_map, zip}
use Rattle.std.specs.Option.{option_map_or}
use Rattle.answer_text.specs.Texts.{text_of_count, text_of_entry, text_of_reply}
use Rattle.causal_base.specs.declared.entry.Entry.{Entry}
use Rattle.causal_base.specs.declared.event_id.EventId.{EventId}
use Rattle.causal_base.specs.Spelling.{id_text}
use Rattle.causal_base.specs.Types.{TypeTable}
use Rattle.client_session.specs.declared.command.Command.{Command}
use Rattle.client_session.specs.Commands.{command_text}
use Rattle.poet_serve.specs.declared.report.ClientReport.{ClientReport}
use Rattle.poet_serve.specs.declared.report.Line as asked
use Rattle.poet_serve.specs.declared.report.Stop.{Stop}
use Rattle.poet_serve.specs.declared.report.Stop.TheVariants.{End, Read, Line, Full, Memory}
use Rattle.poet_serve.specs.Collecting.{Told}
use Rattle.raw_reader.specs.CauseNames.{cause_name}

-- a word and a number behind it
abbrev pub with_number : List ℕ → ℕ → List ℕ
with_number word number = word ++ decimal number

-- from which communication of two clusters on they may merge, where it isn't the first
abbrev pub text_of_after : ℕ → List ℕ
text_of_after after = if after == 1 then [] else with_number (codes " after ") after

-- the sizes of the levels, each behind a space, and from when on clusters merge
abbrev pub text_of_levels : List ℕ → ℕ → List ℕ
text_of_levels sizes after = codes "levels" ++ flat_map text_of_count sizes ++ text_of_after after

-- the number of a client, and how many lines follow
abbrev pub text_of_client : ℕ → ℕ → List ℕ
text_of_client client count =
    with_number (codes "client ") client ++ with_number (codes " ") count

-- the command at a place of a script, where there is one
abbrev pub text_of_command : List Command → ℕ → List ℕ
text_of_command commands place = option_map_or command_text (slice_get commands place) []

-- on how many entries of the journal a command was asked, the command, and its reply
abbrev pub text_of_line : TypeTable → List Command → asked.Line → List ℕ
text_of_line types commands line = with_number (codes "at ") line.at
    ++ (codes " " ++ text_of_command commands line.place)
    ++ (codes " = " ++ text_of_reply types line.reply)

-- why a collector brought no more
abbrev pub text_of_stop : Stop → List ℕ
text_of_stop End = codes "end"
text_of_stop Read = codes "read"
text_of_stop (Line error) =
    with_number (codes "line ") error.line ++ (codes " " ++ cause_name error.cause)
text_of_stop (Full id) = codes "full " ++ id_text id
text_of_stop Memory = codes "memory"

-- the number of a collector, what became of its events, and why it brought no more
abbrev pub text_of_collector : ℕ → (accepted repeats clashes : ℕ) → Stop → List ℕ
text_of_collector collector accepted repeats clashes stop =
    with_number (codes "collector ") collector
    ++ with_number (codes " accepted ") accepted
    ++ with_number (codes " repeats ") repeats
    ++ with_number (codes " clashes ") clashes
    ++ (codes " " ++ text_of_stop stop)

-- the id of an event that clashed
abbrev pub text_of_clash : EventId → List ℕ
text_of_clash id = codes "clash " ++ id_text id

-- how many entries the journal has, and the entries
abbrev pub lines_of_journal : TypeTable → List Entry → List (List ℕ)
lines_of_journal types journal =
    with_number (codes "journal ") (length journal) ∷ map (text_of_entry types) journal

-- what a client was told, with the commands of its script
abbrev pub lines_of_client : TypeTable → ℕ → List Command → ClientReport → List (List ℕ)
lines_of_client types client commands report = text_of_client client (length report.lines)
    ∷ map (text_of_line types commands) report.lines

-- what each client was told; the first has the number 0
abbrev pub lines_of_clients : TypeTable → List (List Command) → List ClientReport → List (List ℕ)
lines_of_clients types scripts clients =
    flat_map (λ one. lines_of_client types one.0 one.1.0 one.1.1)
    (enumerate_from 0 (zip scripts clients))

-- what the closing script was told
abbrev pub lines_of_closing : TypeTable → List Command → ClientReport → List (List ℕ)
lines_of_closing types commands report =
    with_number (codes "closing ") (length report.lines)
    ∷ map (text_of_line types commands) report.lines

-- what is told of a collector, with the first ids of those that clashed
abbrev pub lines_of_collector : ℕ → Told → List (List ℕ)
lines_of_collector collector told =
    text_of_collector collector told.accepted told.repeats told.clashes told.stop
    ∷ map text_of_clash told.first

-- what is told of each collector; the first has the number 0
abbrev pub lines_of_collectors : List Told → List (List ℕ)
lines_of_collectors collectors =
    flat_map (λ one. lines_of_collector one.0 one.1) (enumerate_from 0 collectors)

-- lines with their ends, one behind the other
abbrev pub ended_lines : List (List ℕ) → List ℕ
ended_lines lines = flat_map (λ line. line ++ codes "\n") lines
