use Rattle.std.proofs.Common.{length, sym, subst}
use Rattle.poet_io.specs.Writes.{Writes}
use Rattle.poet_io.proofs.CallerLemmas.{ends_cut}
use Rattle.poet_serve.specs.Transcripts.{seen_by}
use Rattle.text_buffer.proofs.CallerLemmas.{handed_on, has_come_after, none_has_come_to}
use Rattle.run_text.specs.Runs.{run_told}
use Rattle.run_text.proofs.Printables.{clients_printable, lines_printable}
use Rattle.run_text.proofs.Texts.{cut_in_clients, cut_in_closing, cut_in_collectors, cut_in_end, cut_in_journal, cut_in_setup, text-parted}
use Rattle.run_text.proofs.run.put_run.Goals as goal

pub put_clients-requires : goal.put_clients-requires
put_clients-requires g c =
    let run = c.args.run.now in
    let transcript = c.requires.1 in
    clients_printable (seen_by run.desk.setup run.desk.journal) transcript.is_journal.legal c.args.scripts.now run.clients transcript.clients_are

pub put_closing-requires : goal.put_closing-requires
put_closing-requires g c =
    let run = c.args.run.now in
    let transcript = c.requires.1 in
    lines_printable (seen_by run.desk.setup run.desk.journal) transcript.is_journal.legal c.args.closing.now 0 (length run.desk.journal) transcript.closing_is.cut run.closing.lines transcript.closing_is.lines_are

pub returns-in_err-put_setup : goal.returns-in_err-put_setup
returns-in_err-put_setup g c =
    let start = g.K.Sink.state c.args.out.now in
    let told = run_told c.args.run.now c.args.scripts.now c.args.closing.now in
    let none = none_has_come_to start c.new-buffer.result c.new-buffer.ensures in
    ends_cut c.from_residual.result _ c.from_residual.ensures.1 (cut_in_setup told none c.in_err-put_setup.ensures)

pub returns-in_err-put_journal : goal.returns-in_err-put_journal
returns-in_err-put_journal g c =
    let start = g.K.Sink.state c.args.out.now in
    let told = run_told c.args.run.now c.args.scripts.now c.args.closing.now in
    let none = none_has_come_to start c.new-buffer.result c.new-buffer.ensures in
    let setup = has_come_after none c.in_ok-put_setup.ensures in
    ends_cut c.from_residual-in_err-put_journal.result _ c.from_residual-in_err-put_journal.ensures.1 (cut_in_journal told setup c.in_err-put_journal.ensures)

pub returns-in_err-put_clients : goal.returns-in_err-put_clients
returns-in_err-put_clients g c =
    let start = g.K.Sink.state c.args.out.now in
    let told = run_told c.args.run.now c.args.scripts.now c.args.closing.now in
    let none = none_has_come_to start c.new-buffer.result c.new-buffer.ensures in
    let setup = has_come_after none c.in_ok-put_setup.ensures in
    let journal = has_come_after setup c.in_ok-put_journal.ensures in
    ends_cut c.from_residual-in_err-put_clients.result _ c.from_residual-in_err-put_clients.ensures.1 (cut_in_clients told journal c.in_err-put_clients.ensures)

pub returns-in_err-put_closing : goal.returns-in_err-put_closing
returns-in_err-put_closing g c =
    let start = g.K.Sink.state c.args.out.now in
    let told = run_told c.args.run.now c.args.scripts.now c.args.closing.now in
    let none = none_has_come_to start c.new-buffer.result c.new-buffer.ensures in
    let setup = has_come_after none c.in_ok-put_setup.ensures in
    let journal = has_come_after setup c.in_ok-put_journal.ensures in
    let clients = has_come_after journal c.in_ok-put_clients.ensures in
    ends_cut c.from_residual-in_err-put_closing.result _ c.from_residual-in_err-put_closing.ensures.1 (cut_in_closing told clients c.in_err-put_closing.ensures)

pub returns-in_err-put_collectors : goal.returns-in_err-put_collectors
returns-in_err-put_collectors g c =
    let start = g.K.Sink.state c.args.out.now in
    let told = run_told c.args.run.now c.args.scripts.now c.args.closing.now in
    let none = none_has_come_to start c.new-buffer.result c.new-buffer.ensures in
    let setup = has_come_after none c.in_ok-put_setup.ensures in
    let journal = has_come_after setup c.in_ok-put_journal.ensures in
    let clients = has_come_after journal c.in_ok-put_clients.ensures in
    let closing = has_come_after clients c.in_ok-put_closing.ensures in
    ends_cut c.from_residual-in_err-put_collectors.result _ c.from_residual-in_err-put_collectors.ensures.1 (cut_in_collectors told closing c.in_err-put_collectors.ensures)

pub returns-in_err-put_end : goal.returns-in_err-put_end
returns-in_err-put_end g c =
    let start = g.K.Sink.state c.args.out.now in
    let told = run_told c.args.run.now c.args.scripts.now c.args.closing.now in
    let none = none_has_come_to start c.new-buffer.result c.new-buffer.ensures in
    let setup = has_come_after none c.in_ok-put_setup.ensures in
    let journal = has_come_after setup c.in_ok-put_journal.ensures in
    let clients = has_come_after journal c.in_ok-put_clients.ensures in
    let closing = has_come_after clients c.in_ok-put_closing.ensures in
    let collectors = has_come_after closing c.in_ok-put_collectors.ensures in
    ends_cut c.from_residual-in_err-put_end.result _ c.from_residual-in_err-put_end.ensures.1 (cut_in_end told collectors (c.in_err-put_end.ensures c.args.scripts.now c.args.closing.now))

pub returns : goal.returns
returns g c =
    let start = g.K.Sink.state c.args.out.now in
    let told = run_told c.args.run.now c.args.scripts.now c.args.closing.now in
    let none = none_has_come_to start c.new-buffer.result c.new-buffer.ensures in
    let setup = has_come_after none c.in_ok-put_setup.ensures in
    let journal = has_come_after setup c.in_ok-put_journal.ensures in
    let clients = has_come_after journal c.in_ok-put_clients.ensures in
    let closing = has_come_after clients c.in_ok-put_closing.ensures in
    let collectors = has_come_after closing c.in_ok-put_collectors.ensures in
    let end = has_come_after collectors (c.in_ok-put_end.ensures c.args.scripts.now c.args.closing.now) in
    let after = g.K.Sink.state c.hand_on.new.out in
    subst (λ text. Writes start after text c.hand_on.result) (sym (text-parted told)) (handed_on after c.hand_on.result end c.hand_on.ensures.writes)
