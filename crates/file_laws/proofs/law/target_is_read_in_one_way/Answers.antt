-- Bytes are one document, and of what is wrong with it the first counts.
use Rattle.file_laws.proofs.TargetsOnce.{target_once}
use Rattle.file_laws.proofs.DocumentsOnce.{not_refused, refused_once}
use Rattle.file_laws.proofs.law.target_is_read_in_one_way.Goals as goal

pub returns-clause-one_target : goal.returns-clause-one_target
returns-clause-one_target c bytes target other one two = target_once bytes target other one two

pub returns-clause-not_both : goal.returns-clause-not_both
returns-clause-not_both c bytes target error read refused = not_refused bytes target error read refused

pub returns-clause-one_fault : goal.returns-clause-one_fault
returns-clause-one_fault c bytes error other one two = refused_once bytes error other one two
