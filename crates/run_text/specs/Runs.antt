-- The text of a run, and its status.
use Rattle.std.specs.Prelude.{ℕ, ◌-◌, Bool, true, false, ◌||◌, List, [], ◌∷◌, ◌++◌, length, map, nat_lt, codes, if◌then◌else◌}
use Rattle.std.specs.List.{list_any}
use Rattle.causal_base.specs.declared.entry.Entry.{Entry}
use Rattle.causal_base.specs.Journal.{came_by, delivered_by}
use Rattle.client_session.specs.declared.command.Command.{Command}
use Rattle.event_book.specs.declared.setup.Setup.{Setup}
use Rattle.poet_serve.specs.declared.report.ClientReport.{ClientReport}
use Rattle.poet_serve.specs.declared.report.Run.{Run}
use Rattle.poet_serve.specs.declared.report.Stop.{Stop}
use Rattle.poet_serve.specs.declared.report.Stop.TheVariants.{Read, Line, Full, Memory}
use Rattle.poet_serve.specs.Collecting.{Told, told_by}
use Rattle.run_text.specs.Lines.{ended_lines, lines_of_clients, lines_of_closing, lines_of_collectors, lines_of_journal, text_of_levels, with_number}

-- What is printed of a run: how the desk was made, the journal, what each client and the closing
-- script were told, with their commands, and what is told of each collector.
pub record RunTold : Type 0 where
  pub setup : Setup
  pub journal : List Entry
  pub scripts : List (List Command)
  pub clients : List ClientReport
  pub last : List Command
  pub closing : ClientReport
  pub collectors : List Told

-- what a run says to somebody who knows the scripts
abbrev pub run_told : {S : Type 0} → Run S → List (List Command) → List Command → RunTold
run_told run scripts last = record {
  setup = run.desk.setup;
  journal = run.desk.journal;
  scripts = scripts;
  clients = run.clients;
  last = last;
  closing = run.closing;
  collectors = map told_by run.collectors;
}

-- a failed read stopped it
abbrev pub is_read : Stop → Bool
is_read Read = true
is_read stop = false

-- a fault of a line stopped it
abbrev pub is_line : Stop → Bool
is_line (Line error) = true
is_line stop = false

-- the limit stopped it
abbrev pub is_full : Stop → Bool
is_full (Full id) = true
is_full stop = false

-- want of memory stopped it
abbrev pub is_memory : Stop → Bool
is_memory Memory = true
is_memory stop = false

-- how many events came and aren't delivered
abbrev pub held_by : List Entry → ℕ
held_by journal = length (came_by journal) - length (delivered_by journal)

-- memory ran out, for a collector, a client or the closing script
abbrev pub lacked_memory : RunTold → Bool
lacked_memory told = list_any (λ one. is_memory one.stop) told.collectors
    || (list_any (λ client. client.memory) told.clients || told.closing.memory)

-- The status: the first of these that applies. A read failed; a line has a fault; the limit was
-- met; memory ran out; events clashed; events came that aren't delivered.
abbrev pub status_of : RunTold → ℕ
status_of told = if list_any (λ one. is_read one.stop) told.collectors then 2
    else (if list_any (λ one. is_line one.stop) told.collectors then 6
    else (if list_any (λ one. is_full one.stop) told.collectors then 8
    else (if lacked_memory told then 7
    else (if list_any (λ one. nat_lt 0 one.clashes) told.collectors then 9
    else (if nat_lt (length (delivered_by told.journal)) (length (came_by told.journal)) then 10
    else 0)))))

-- how many traces there are, and the sizes of the levels
abbrev pub lines_of_setup : Setup → List (List ℕ)
lines_of_setup setup = with_number (codes "traces ") setup.types.traces
    ∷ text_of_levels setup.sizes setup.after
    ∷ []

-- how many events are held, and the status
abbrev pub lines_of_end : RunTold → List (List ℕ)
lines_of_end told = with_number (codes "held ") (held_by told.journal)
    ∷ with_number (codes "status ") (status_of told)
    ∷ []

-- the lines of the text
abbrev pub lines_of : RunTold → List (List ℕ)
lines_of told = lines_of_setup told.setup
    ++ lines_of_journal told.setup.types told.journal
    ++ lines_of_clients told.setup.types told.scripts told.clients
    ++ lines_of_closing told.setup.types told.last told.closing
    ++ lines_of_collectors told.collectors
    ++ lines_of_end told

-- the text
abbrev pub text_of : RunTold → List ℕ
text_of told = ended_lines (lines_of told)
