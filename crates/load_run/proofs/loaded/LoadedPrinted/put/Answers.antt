use Rattle.std.proofs.Common.{List, ℕ, ◌++◌}
use Rattle.std.specs.Prelude.{codes}
use Rattle.poet_io.proofs.CallerLemmas.{cut_after, cut_more, ends_cut, writes_after}
use Rattle.load_run.specs.declared.loaded.Loaded.{Loaded}
use Rattle.load_run.specs.LoadTexts.{with_count}
use Rattle.load_run.proofs.loaded.LoadedPrinted.put.Goals as goal

-- what stands behind the count of events, of entries, of numbers, and of events above
abbrev from_past : Loaded → List ℕ
from_past told = with_count (codes "\npast ") told.past ++ codes "\nstatus 0\n"

abbrev from_full : Loaded → List ℕ
from_full told = with_count (codes "\nfull ") told.full ++ from_past told

abbrev from_parts : Loaded → List ℕ
from_parts told = with_count (codes "\nparts ") told.parts ++ from_full told

abbrev from_entries : Loaded → List ℕ
from_entries told = with_count (codes "\njournal ") told.entries ++ from_parts told

pub returns-in_err-put_count : goal.returns-in_err-put_count
returns-in_err-put_count g c =
    ends_cut c.from_residual.result _ c.from_residual.ensures.1 (cut_more (from_entries c.args.self.now) c.in_err-put_count.ensures)

pub returns-in_err-put_count-2 : goal.returns-in_err-put_count-2
returns-in_err-put_count-2 g c =
    ends_cut c.from_residual-in_err-put_count-2.result _ c.from_residual-in_err-put_count-2.ensures.1
    (cut_after c.in_ok-put_count.ensures (cut_more (from_parts c.args.self.now) c.in_err-put_count-2.ensures))

pub returns-in_err-put_count-3 : goal.returns-in_err-put_count-3
returns-in_err-put_count-3 g c =
    ends_cut c.from_residual-in_err-put_count-3.result _ c.from_residual-in_err-put_count-3.ensures.1
    (cut_after c.in_ok-put_count.ensures (cut_after c.in_ok-put_count-2.ensures
    (cut_more (from_full c.args.self.now) c.in_err-put_count-3.ensures)))

pub returns-in_err-put_count-4 : goal.returns-in_err-put_count-4
returns-in_err-put_count-4 g c =
    ends_cut c.from_residual-in_err-put_count-4.result _ c.from_residual-in_err-put_count-4.ensures.1
    (cut_after c.in_ok-put_count.ensures (cut_after c.in_ok-put_count-2.ensures (cut_after c.in_ok-put_count-3.ensures
    (cut_more (from_past c.args.self.now) c.in_err-put_count-4.ensures))))

pub returns-in_err-put_count-5 : goal.returns-in_err-put_count-5
returns-in_err-put_count-5 g c =
    ends_cut c.from_residual-in_err-put_count-5.result _ c.from_residual-in_err-put_count-5.ensures.1
    (cut_after c.in_ok-put_count.ensures (cut_after c.in_ok-put_count-2.ensures (cut_after c.in_ok-put_count-3.ensures
    (cut_after c.in_ok-put_count-4.ensures (cut_more (codes "\nstatus 0\n") c.in_err-put_count-5.ensures)))))

pub returns : goal.returns
returns g c =
    let told = c.args.self.now in
    let after = g.K.Sink.state c.put.new.out in
    writes_after after (from_entries told) c.put.result c.in_ok-put_count.ensures
    (writes_after after (from_parts told) c.put.result c.in_ok-put_count-2.ensures
    (writes_after after (from_full told) c.put.result c.in_ok-put_count-3.ensures
    (writes_after after (from_past told) c.put.result c.in_ok-put_count-4.ensures
    (writes_after after (codes "\nstatus 0\n") c.put.result c.in_ok-put_count-5.ensures c.put.ensures))))
