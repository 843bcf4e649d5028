-- The lines that a text begins with are the first of all lines, and further lines only add batches.
use Rattle.raw_reader.proofs.TextsOnce.{first_of_good, first_of_faulty}
use Rattle.raw_reader.proofs.law.closed_batches_come_first.Goals as goal

pub returns-clause-good : goal.returns-clause-good
returns-clause-good c types table bytes first batches has good = first_of_good types table bytes first has batches good

pub returns-clause-faulty : goal.returns-clause-faulty
returns-clause-faulty c types table bytes first batches error has faulty = first_of_faulty types table bytes first has batches error faulty
