use Rattle.std.proofs.Common.{subst}
use Rattle.std.specs.Prelude.{codes}
use Rattle.poet_io.specs.Writes.{IsWritten, IsCutShort}
use Rattle.poet_io.proofs.CallerLemmas.{cut_after, cut_more, ends_cut, writes_after, written_both}
use Rattle.run_files.proofs.fault.put_named.Goals as goal

pub returns-in_err-put : goal.returns-in_err-put
returns-in_err-put g c =
    ends_cut c.from_residual.result _ c.from_residual.ensures.1 (cut_more (codes "\n") (cut_more c.args.name.now c.in_err-put.ensures))

pub returns-in_err-put-2 : goal.returns-in_err-put-2
returns-in_err-put-2 g c =
    let state = g.K.Sink.state in
    let cut = subst (IsCutShort (state c.put.new.out) (state c.put-2.new.out)) c.as_bytes.ensures.value c.in_err-put-2.ensures in
    ends_cut c.from_residual-in_err-put-2.result _ c.from_residual-in_err-put-2.ensures.1 (cut_more (codes "\n") (cut_after c.in_ok-put.ensures cut))

pub returns : goal.returns
returns g c =
    let state = g.K.Sink.state in
    let middle = subst (IsWritten (state c.put.new.out) (state c.put-2.new.out)) c.as_bytes.ensures.value c.in_ok-put-2.ensures in
    writes_after (state c.put-3.new.out) (codes "\n") c.put-3.result (written_both c.in_ok-put.ensures middle) c.put-3.ensures
