use Rattle.std.proofs.Common.{arith}
use Rattle.std.proofs.lemmas.Grind.{common_steps}
use Rattle.poet_io.proofs.Writers.{written_further}
use Rattle.poet_io.proofs.writing.put.Goals as goal

-- The bytes written so far and those of this turn are a longer prefix of all.
pub loop-written-preserved : goal.loop-written-preserved
loop-written-preserved g c =
    let state = g.K.Sink.state in
    record {
      within = grind (arith, common_steps);
      so_far = written_further (state c.args.out.now) (state c.loop-written.out) (state c.write.new.self) c.args.bytes.now c.loop-written.written c.in_ok-written.field-0 c.loop-written.invariant.so_far c.in_ok-written.ensures.grown c.in_ok-written.ensures.no_fault;
    }
