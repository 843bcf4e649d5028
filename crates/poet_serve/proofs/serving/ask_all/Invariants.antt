use Rattle.std.proofs.Common.{◌≡◌, length, take, vec_capacity}
use Rattle.poet_serve.specs.Transcripts.{AreToldFrom, seen_by}
use Rattle.poet_serve.proofs.serving.ask_all.Given as goal

-- the clients so far were told right
abbrev pub invariant-loop-script : goal.invariant-loop-script
invariant-loop-script l = record {
  told : AreToldFrom (seen_by l.desk.setup l.desk.journal) (length l.desk.journal) (take l.script-index l.scripts) l.reports.items;
  room : vec_capacity l.reports ≡ vec_capacity l.fn.reports;
}
