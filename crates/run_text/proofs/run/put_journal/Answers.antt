use Rattle.std.proofs.Common.{◌++◌, map, subst}
use Rattle.std.specs.Prelude.{codes}
use Rattle.answer_text.specs.Texts.{text_of_entry}
use Rattle.text_buffer.proofs.CallerLemmas.{Comes, IsCutBehind, cut_behind_more, ends_cut_behind, gathers_after}
use Rattle.run_text.specs.Lines.{ended_lines, with_number}
use Rattle.run_text.proofs.run.put_journal.Goals as goal

pub returns-in_err-put : goal.returns-in_err-put
returns-in_err-put g c =
    let state = g.K.Sink.state in
    let desk = c.args.desk.now in
    ends_cut_behind c.put.new.self c.from_residual.result _ c.from_residual.ensures.1
    (cut_behind_more (ended_lines (map (text_of_entry desk.setup.types) desk.journal))
    (subst (λ n. IsCutBehind (state c.args.out.now) c.args.buffer.now (state c.put.new.out) (with_number (codes "journal ") n ++ codes "\n")) c.count_entries.ensures c.in_err-put.ensures))

pub returns : goal.returns
returns g c =
    let state = g.K.Sink.state in
    let desk = c.args.desk.now in
    gathers_after (state c.put_entries.new.out) c.put_entries.new.buffer (ended_lines (map (text_of_entry desk.setup.types) desk.journal)) c.put_entries.result
    (subst (λ n. Comes (state c.args.out.now) c.args.buffer.now (state c.put.new.out) c.put.new.self (with_number (codes "journal ") n ++ codes "\n")) c.count_entries.ensures c.in_ok-put.ensures)
    c.put_entries.ensures
