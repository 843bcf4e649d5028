use Rattle.std.proofs.Common.{◌++◌, take, arith}
use Rattle.std.proofs.lemmas.Grind.{common_steps}
use Rattle.poet_io.proofs.BytesSoFar.{TakesPrefix-append}
use Rattle.poet_io.proofs.reading.read_all.Goals as goal

-- The bytes so far and those of this turn are the prefix that is gone.
pub returns-then-count-limit-clause-rest : goal.returns-then-count-limit-clause-rest
returns-then-count-limit-clause-rest g c =
    (c.loop-bytes.bytes.items ++ take c.in_ok-count.count c.read.new.buf, grind (arith, common_steps, TakesPrefix-append))

pub returns-in_err-map_err-clause-rest : goal.returns-in_err-map_err-clause-rest
returns-in_err-map_err-clause-rest g c =
    (c.loop-bytes.bytes.items ++ take c.in_ok-count.count c.read.new.buf, grind (arith, common_steps, TakesPrefix-append))
