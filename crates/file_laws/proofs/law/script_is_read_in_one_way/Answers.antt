-- The commands of a script and its first fault are found line by line, each in one way.
use Rattle.file_laws.proofs.ScriptsOnce.{not_refused, refused_once, script_once}
use Rattle.file_laws.proofs.law.script_is_read_in_one_way.Goals as goal

pub returns-clause-one_script : goal.returns-clause-one_script
returns-clause-one_script c types table closing bytes commands others one two = script_once types closing bytes commands others table one two

pub returns-clause-not_both : goal.returns-clause-not_both
returns-clause-not_both c types table closing bytes commands error script refused = not_refused types closing bytes commands error table script refused

pub returns-clause-one_fault : goal.returns-clause-one_fault
returns-clause-one_fault c types table closing bytes error other one two = refused_once types closing bytes error other table one two
