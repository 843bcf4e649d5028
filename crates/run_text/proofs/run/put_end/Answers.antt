use Rattle.std.proofs.Common.{ℕ, [], ◌++◌, sym, subst, append-nil}
use Rattle.std.specs.Prelude.{codes}
use Rattle.text_buffer.proofs.CallerLemmas.{Comes, IsCutBehind, cut_behind_more, ends_cut_behind, gathers_after}
use Rattle.text_buffer.specs.Gathering.{Gathers}
use Rattle.run_text.specs.Lines.{with_number}
use Rattle.run_text.specs.Runs.{run_told, status_of}
use Rattle.run_text.proofs.run.put_end.Goals as goal

pub returns-in_err-put : goal.returns-in_err-put
returns-in_err-put g c scripts last =
    let state = g.K.Sink.state in
    let status = status_of (run_told c.args.run.now scripts last) in
    ends_cut_behind c.put.new.self c.from_residual.result _ c.from_residual.ensures.1
    (cut_behind_more ((with_number (codes "status ") status ++ codes "\n") ++ [])
    (subst (λ n. IsCutBehind (state c.args.out.now) c.args.buffer.now (state c.put.new.out) (with_number (codes "held ") n ++ codes "\n")) c.count_held.ensures c.in_err-put.ensures))

pub returns : goal.returns
returns g c scripts last =
    let state = g.K.Sink.state in
    let text = λ (n : ℕ). with_number (codes "status ") n ++ codes "\n" in
    let status = status_of (run_told c.args.run.now scripts last) in
    gathers_after (state c.put-2.new.out) c.put-2.new.self (text status ++ []) c.put-2.result
    (subst (λ n. Comes (state c.args.out.now) c.args.buffer.now (state c.put.new.out) c.put.new.self (with_number (codes "held ") n ++ codes "\n")) c.count_held.ensures c.in_ok-put.ensures)
    (subst (λ line. Gathers (state c.put.new.out) c.put.new.self (state c.put-2.new.out) c.put-2.new.self line c.put-2.result) (sym (append-nil (text status)))
    (subst (λ n. Gathers (state c.put.new.out) c.put.new.self (state c.put-2.new.out) c.put-2.new.self (text n) c.put-2.result) (c.status_of_run.ensures scripts last) c.put-2.ensures))
