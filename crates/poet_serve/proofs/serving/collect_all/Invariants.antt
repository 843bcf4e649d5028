use Rattle.std.proofs.Common.{◌≡◌, ◌++◌, List, length, vec_capacity}
use Rattle.std.specs.List.{AllByRecursion}
use Rattle.std.specs.Vec.Iter.{into_iter_items, into_iter_len}
use Rattle.causal_base.specs.Journal.{IsSettled}
use Rattle.event_book.specs.Setups.{IsOfCollectors}
use Rattle.poet_serve.specs.Transcripts.{HadMemory, HaveParts, IsMadeInTurn, collected_by}
use Rattle.poet_serve.proofs.serving.collect_all.Given as goal

-- the sources so far have their parts, and no later collector has an entry
abbrev pub invariant-loop-source : goal.invariant-loop-source
invariant-loop-source g l = record {
  done : List g.row.S.Denot;
  sources : l.fn.sources.items ≡ done ++ into_iter_items l.rest;
  so_many : length done ≡ l.collector;
  as_many : length l.reports.items ≡ length done;
  parts : HaveParts l.types l.desk.journal 0 (collected_by g.S.Source.state done l.reports.items);
  turn : AllByRecursion HadMemory (collected_by g.S.Source.state done l.reports.items) → IsMadeInTurn l.types (collected_by g.S.Source.state done l.reports.items) l.desk.journal × IsSettled l.types l.desk.journal;
  low : AllByRecursion (IsOfCollectors l.collector) l.desk.journal;
  room : vec_capacity l.reports ≡ vec_capacity l.fn.reports;
  setup : l.desk.setup ≡ l.fn.desk.setup;
}

abbrev pub decreases-loop-source : goal.decreases-loop-source
decreases-loop-source g l = into_iter_len l.rest
