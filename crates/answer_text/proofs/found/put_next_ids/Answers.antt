use Rattle.std.proofs.Common.{arith}
use Rattle.std.specs.Prelude.{◌++◌, codes}
use Rattle.causal_base.specs.Spelling.{id_text}
use Rattle.poet_io.proofs.CallerLemmas.{ends_cut}
use Rattle.answer_text.proofs.Lists.{all_written, each_cut, each_written, none_written}
use Rattle.answer_text.proofs.found.put_next_ids.Goals as goal

pub loop-id-init : goal.loop-id-init
loop-id-init g c = none_written (g.K.Sink.state c.args.out.now)

pub loop-id-preserved : goal.loop-id-preserved
loop-id-preserved g c =
    each_written (λ id. codes "," ++ id_text id) c.args.ids.now c.loop-id.id-index (record { trace = 0; number = 0 }) (omega arith) c.loop-id.invariant c.in_ok-put_id_after.ensures

pub returns-in_err-put_id_after : goal.returns-in_err-put_id_after
returns-in_err-put_id_after g c =
    ends_cut c.from_residual.result _ c.from_residual.ensures.1
    (each_cut (λ id. codes "," ++ id_text id) c.args.ids.now c.loop-id.id-index (record { trace = 0; number = 0 }) (omega arith) c.loop-id.invariant c.in_err-put_id_after.ensures)

pub returns : goal.returns
returns g c = all_written (λ id. codes "," ++ id_text id) c.args.ids.now c.loop-id.id-index (omega arith) c.loop-id.invariant
