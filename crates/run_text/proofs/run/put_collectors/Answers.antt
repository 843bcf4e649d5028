use Rattle.std.proofs.Common.{◌≡◌, ◌<◌, ◌≤◌, ℕ, List, length, get_or, map, subst}
use Rattle.std.proofs.lemmas.List.{length-map}
use Rattle.poet_serve.specs.declared.report.CollectorReport.{CollectorReport}
use Rattle.poet_serve.specs.Collecting.{Told, told_by}
use Rattle.text_buffer.proofs.CallerLemmas.{ends_cut_behind}
use Rattle.run_text.specs.Lines.{lines_of_collector}
use Rattle.run_text.proofs.Lines.{all_numbered_come, each_numbered_comes, mapped_at, numbered_cut}
use Rattle.run_text.proofs.run.put_collectors.Goals as goal

-- a place that is below the length of what was taken of a list is below its own
within_list : {X : Type 0} (taken xs : List X) (i : ℕ) → taken ≡ xs → i < length taken → i < length xs
within_list taken xs i are within = subst (λ all. i < length all) are within

-- and so is it below the length of what is told of each
within_told : {S : Type 0} (taken xs : List (CollectorReport S)) (i : ℕ) → taken ≡ xs → i < length taken → i < length (map told_by xs)
within_told taken xs i are within = rw (length-map xs told_by) (within_list taken xs i are within)

-- what is told of the report at a place
told_at : {S : Type 0} (taken xs : List (CollectorReport S)) (i : ℕ) (report : CollectorReport S) → taken ≡ xs → i < length taken → report ≡ get_or taken i report → told_by report ≡ get_or (map told_by xs) i (told_by report)
told_at taken xs i report are within is = mapped_at told_by xs i report (within_list taken xs i are within) (subst (λ all. report ≡ get_or all i report) are is)

pub returns-in_err-put_collector : goal.returns-in_err-put_collector
returns-in_err-put_collector g c =
    let taken = c.as_slice-reports.result.now in
    let reports = c.args.run.now.collectors in
    let i = c.loop-collector.collector in
    let report = c.index-reports-collector.result in
    ends_cut_behind c.put_collector.new.buffer c.from_residual.result _ c.from_residual.ensures.1
    (numbered_cut (λ (one : ℕ × Told). lines_of_collector one.0 one.1) (map told_by reports) i (told_by report)
    (within_told taken reports i c.as_slice-reports.ensures c.loop-collector-test.true)
    (told_at taken reports i report c.as_slice-reports.ensures c.loop-collector-test.true c.index-reports-collector.is)
    c.loop-collector.invariant c.in_err-put_collector.ensures)

pub loop-collector-preserved : goal.loop-collector-preserved
loop-collector-preserved g c =
    let taken = c.as_slice-reports.result.now in
    let reports = c.args.run.now.collectors in
    let i = c.loop-collector.collector in
    let report = c.index-reports-collector.result in
    each_numbered_comes (λ (one : ℕ × Told). lines_of_collector one.0 one.1) (map told_by reports) i (told_by report)
    (within_told taken reports i c.as_slice-reports.ensures c.loop-collector-test.true)
    (told_at taken reports i report c.as_slice-reports.ensures c.loop-collector-test.true c.index-reports-collector.is)
    c.loop-collector.invariant c.in_ok-put_collector.ensures

-- where the end of what was taken of a list is reached, all is told
all_told : {S : Type 0} (taken xs : List (CollectorReport S)) (i : ℕ) → taken ≡ xs → length taken ≤ i → length (map told_by xs) ≤ i
all_told taken xs i are end = rw (length-map xs told_by) (subst (λ all. length all ≤ i) are end)

pub returns : goal.returns
returns g c =
    let reports = c.args.run.now.collectors in
    let i = c.loop-collector.collector in
    all_numbered_come (λ (one : ℕ × Told). lines_of_collector one.0 one.1) (map told_by reports) i
    (all_told c.as_slice-reports.result.now reports i c.as_slice-reports.ensures c.loop-collector-test.false) c.loop-collector.invariant
