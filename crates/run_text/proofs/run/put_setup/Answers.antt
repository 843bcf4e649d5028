use Rattle.std.proofs.Common.{[], ◌++◌, sym, ◌∙◌, ap, subst, append-nil}
use Rattle.std.specs.Prelude.{codes}
use Rattle.event_book.specs.declared.setup.Setup.{Setup}
use Rattle.text_buffer.proofs.CallerLemmas.{Comes, IsCutBehind, cut_behind_more, ends_cut_behind, gathers_after}
use Rattle.text_buffer.specs.Gathering.{Gathers}
use Rattle.run_text.specs.Lines.{text_of_levels, with_number}
use Rattle.run_text.proofs.run.put_setup.Goals as goal

pub returns-in_err-put : goal.returns-in_err-put
returns-in_err-put g c =
    let state = g.K.Sink.state in
    let setup = c.args.desk.now.setup in
    ends_cut_behind c.put.new.self c.from_residual.result _ c.from_residual.ensures.1
    (cut_behind_more ((text_of_levels setup.sizes setup.after ++ codes "\n") ++ [])
    (subst (λ n. IsCutBehind (state c.args.out.now) c.args.buffer.now (state c.put.new.out) (with_number (codes "traces ") n ++ codes "\n"))
    (c.traces.ensures.number ∙ ap (λ (s : Setup). s.types.traces) c.setup-setup.ensures.value) c.in_err-put.ensures))

pub returns : goal.returns
returns g c =
    let state = g.K.Sink.state in
    let setup = c.args.desk.now.setup in
    let levels = λ (s : Setup). text_of_levels s.sizes s.after ++ codes "\n" in
    gathers_after (state c.put-2.new.out) c.put-2.new.self (levels setup ++ []) c.put-2.result
    (subst (λ n. Comes (state c.args.out.now) c.args.buffer.now (state c.put.new.out) c.put.new.self (with_number (codes "traces ") n ++ codes "\n"))
    (c.traces.ensures.number ∙ ap (λ (s : Setup). s.types.traces) c.setup-setup.ensures.value) c.in_ok-put.ensures)
    (subst (λ text. Gathers (state c.put.new.out) c.put.new.self (state c.put-2.new.out) c.put-2.new.self text c.put-2.result) (sym (append-nil (levels setup)))
    (subst (λ (s : Setup). Gathers (state c.put.new.out) c.put.new.self (state c.put-2.new.out) c.put-2.new.self (levels s) c.put-2.result) c.setup-setup.ensures.value c.put-2.ensures))
