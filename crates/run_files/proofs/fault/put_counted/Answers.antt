use Rattle.std.proofs.Common.{◌++◌, decimal, subst}
use Rattle.std.specs.Prelude.{codes}
use Rattle.poet_io.specs.Writes.{IsWritten, IsCutShort}
use Rattle.poet_io.proofs.CallerLemmas.{cut_after, cut_more, ends_cut, writes_after, written_both}
use Rattle.run_files.proofs.fault.put_counted.Goals as goal

pub returns-in_err-put : goal.returns-in_err-put
returns-in_err-put g c =
    ends_cut c.from_residual.result _ c.from_residual.ensures.1 (cut_more ((codes " " ++ decimal c.args.number) ++ codes "\n") (cut_more c.args.name.now c.in_err-put.ensures))

pub returns-in_err-put-2 : goal.returns-in_err-put-2
returns-in_err-put-2 g c =
    let state = g.K.Sink.state in
    let cut = subst (IsCutShort (state c.put.new.out) (state c.put-2.new.out)) c.as_bytes.ensures.value c.in_err-put-2.ensures in
    ends_cut c.from_residual-in_err-put-2.result _ c.from_residual-in_err-put-2.ensures.1
    (cut_more ((codes " " ++ decimal c.args.number) ++ codes "\n") (cut_after c.in_ok-put.ensures cut))

pub returns-in_err-put-3 : goal.returns-in_err-put-3
returns-in_err-put-3 g c =
    let state = g.K.Sink.state in
    let named = written_both c.in_ok-put.ensures (subst (IsWritten (state c.put.new.out) (state c.put-2.new.out)) c.as_bytes.ensures.value c.in_ok-put-2.ensures) in
    ends_cut c.from_residual-in_err-put-3.result _ c.from_residual-in_err-put-3.ensures.1
    (cut_after named (cut_more (codes "\n") (cut_more (decimal c.args.number) c.in_err-put-3.ensures)))

pub returns-in_err-put_number : goal.returns-in_err-put_number
returns-in_err-put_number g c =
    let state = g.K.Sink.state in
    let named = written_both c.in_ok-put.ensures (subst (IsWritten (state c.put.new.out) (state c.put-2.new.out)) c.as_bytes.ensures.value c.in_ok-put-2.ensures) in
    ends_cut c.from_residual-in_err-put_number.result _ c.from_residual-in_err-put_number.ensures.1
    (cut_after named (cut_more (codes "\n") (cut_after c.in_ok-put-3.ensures c.in_err-put_number.ensures)))

pub returns : goal.returns
returns g c =
    let state = g.K.Sink.state in
    let named = written_both c.in_ok-put.ensures (subst (IsWritten (state c.put.new.out) (state c.put-2.new.out)) c.as_bytes.ensures.value c.in_ok-put-2.ensures) in
    let after = state c.put-4.new.out in
    writes_after after ((codes " " ++ decimal c.args.number) ++ codes "\n") c.put-4.result named
    (writes_after after (codes "\n") c.put-4.result (written_both c.in_ok-put-3.ensures c.in_ok-put_number.ensures) c.put-4.ensures)
