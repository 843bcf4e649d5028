use Rattle.std.proofs.Common.{◌≡◌, ◌<◌, ℕ, List, length, get_or, ap, subst, arith, sym}
use Rattle.std.specs.List.{zip}
use Rattle.std.proofs.lemmas.Slice.Zip.{length-zip}
use Rattle.client_session.specs.declared.command.Command.{Command}
use Rattle.event_book.specs.declared.setup.Setup.{Setup}
use Rattle.poet_serve.specs.declared.report.ClientReport.{ClientReport}
use Rattle.text_buffer.proofs.CallerLemmas.{Comes, IsCutBehind, ends_cut_behind}
use Rattle.run_text.specs.Lines.{ended_lines, lines_of_client}
use Rattle.run_text.specs.Printable.{HasPrintableLines}
use Rattle.run_text.proofs.Lines.{all_numbered_come, each_numbered_comes, numbered_cut, pair_at}
use Rattle.run_text.proofs.Printables.{as_many_clients, client_printable}
use Rattle.run_text.proofs.run.put_clients.Goals as goal

-- a place that is below the length of what was taken of a list is below its own
within_list : {X : Type 0} (taken xs : List X) (i : ℕ) → taken ≡ xs → i < length taken → i < length xs
within_list taken xs i are within = subst (λ all. i < length all) are within

pub bounds-scripts-client : goal.bounds-scripts-client
bounds-scripts-client g c =
    let run = c.args.run.now in
    let many = as_many_clients run.desk.setup.types c.args.scripts.now run.clients c.requires in
    let within = within_list c.as_slice-clients.result.now run.clients c.loop-client.client c.as_slice-clients.ensures c.loop-client-test.true in
    omega (arith, many, within)

pub put_client-requires : goal.put_client-requires
put_client-requires g c =
    let run = c.args.run.now in
    let i = c.loop-client.client in
    let script = c.index-scripts-client.result in
    let report = c.index-clients-client.result in
    subst (λ (s : Setup). HasPrintableLines s.types script report) (sym c.setup.ensures.value)
    (client_printable run.desk.setup.types c.args.scripts.now run.clients i script report c.requires
    (within_list c.as_slice-clients.result.now run.clients i c.as_slice-clients.ensures c.loop-client-test.true) c.index-scripts-client.is
    (subst (λ (clients : List ClientReport). report ≡ get_or clients i report) c.as_slice-clients.ensures c.index-clients-client.is))

pub returns-in_err-put_client : goal.returns-in_err-put_client
returns-in_err-put_client g c =
    let state = g.K.Sink.state in
    let run = c.args.run.now in
    let scripts = c.args.scripts.now in
    let i = c.loop-client.client in
    let script : List Command = c.index-scripts-client.result in
    let report = c.index-clients-client.result in
    let many = as_many_clients run.desk.setup.types scripts run.clients c.requires in
    let within = within_list c.as_slice-clients.result.now run.clients i c.as_slice-clients.ensures c.loop-client-test.true in
    let there = pair_at scripts run.clients i script report (omega (arith, many, within)) within c.index-scripts-client.is
    (subst (λ (clients : List ClientReport). report ≡ get_or clients i report) c.as_slice-clients.ensures c.index-clients-client.is) in
    let short : i < length (zip scripts run.clients) = omega (arith, length-zip scripts run.clients, many, within) in
    ends_cut_behind c.put_client.new.buffer c.from_residual.result _ c.from_residual.ensures.1
    (numbered_cut (λ (one : ℕ × (List Command × ClientReport)). lines_of_client run.desk.setup.types one.0 one.1.0 one.1.1) (zip scripts run.clients) i (script, report) short there c.loop-client.invariant
    (subst (λ (s : Setup). IsCutBehind (state c.loop-client.out) c.loop-client.buffer (state c.put_client.new.out) (ended_lines (lines_of_client s.types i script report))) c.setup.ensures.value c.in_err-put_client.ensures))

pub loop-client-preserved : goal.loop-client-preserved
loop-client-preserved g c =
    let state = g.K.Sink.state in
    let run = c.args.run.now in
    let scripts = c.args.scripts.now in
    let i = c.loop-client.client in
    let script : List Command = c.index-scripts-client.result in
    let report = c.index-clients-client.result in
    let many = as_many_clients run.desk.setup.types scripts run.clients c.requires in
    let within = within_list c.as_slice-clients.result.now run.clients i c.as_slice-clients.ensures c.loop-client-test.true in
    let there = pair_at scripts run.clients i script report (omega (arith, many, within)) within c.index-scripts-client.is
    (subst (λ (clients : List ClientReport). report ≡ get_or clients i report) c.as_slice-clients.ensures c.index-clients-client.is) in
    let short : i < length (zip scripts run.clients) = omega (arith, length-zip scripts run.clients, many, within) in
    each_numbered_comes (λ (one : ℕ × (List Command × ClientReport)). lines_of_client run.desk.setup.types one.0 one.1.0 one.1.1) (zip scripts run.clients) i (script, report) short there c.loop-client.invariant
    (subst (λ (s : Setup). Comes (state c.loop-client.out) c.loop-client.buffer (state c.put_client.new.out) c.put_client.new.buffer (ended_lines (lines_of_client s.types i script report))) c.setup.ensures.value c.in_ok-put_client.ensures)

pub returns : goal.returns
returns g c =
    let run = c.args.run.now in
    let scripts = c.args.scripts.now in
    let i = c.loop-client.client in
    let size : length c.as_slice-clients.result.now ≡ length run.clients = ap (λ (clients : List ClientReport). length clients) c.as_slice-clients.ensures in
    all_numbered_come (λ (one : ℕ × (List Command × ClientReport)). lines_of_client run.desk.setup.types one.0 one.1.0 one.1.1) (zip scripts run.clients) i
    (omega (arith, length-zip scripts run.clients, size, c.loop-client-test.false)) c.loop-client.invariant
