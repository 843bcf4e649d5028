use Rattle.std.proofs.Common.{◌++◌, arith}
use Rattle.std.specs.Prelude.{codes}
use Rattle.text_buffer.proofs.CallerLemmas.{each_comes, ends_cut_behind, none_comes}
use Rattle.run_text.specs.Lines.{text_of_clash}
use Rattle.run_text.proofs.Lines.{all_mapped_come, mapped_cut}
use Rattle.run_text.proofs.run.put_clashes.Goals as goal

pub loop-id-init : goal.loop-id-init
loop-id-init g c = none_comes (g.K.Sink.state c.args.out.now) c.args.buffer.now

pub loop-id-preserved : goal.loop-id-preserved
loop-id-preserved g c =
    each_comes (λ id. text_of_clash id ++ codes "\n") c.args.ids.now c.loop-id.id-index (record { trace = 0; number = 0 }) (omega arith) c.loop-id.invariant c.in_ok-put.ensures

pub returns-in_err-put : goal.returns-in_err-put
returns-in_err-put g c =
    ends_cut_behind c.put.new.self c.from_residual.result _ c.from_residual.ensures.1
    (mapped_cut text_of_clash c.args.ids.now c.loop-id.id-index (record { trace = 0; number = 0 }) (omega arith) c.loop-id.invariant c.in_err-put.ensures)

pub returns : goal.returns
returns g c = all_mapped_come text_of_clash c.args.ids.now c.loop-id.id-index (omega arith) c.loop-id.invariant
