-- Each of them splits what stands within the limit into good lines and a tail, and that is done in one way.
use Rattle.raw_reader.proofs.TextsOnce.{open_once, good_once, faulty_once, not_both}
use Rattle.raw_reader.proofs.law.text_is_read_in_one_way.Goals as goal

pub returns-clause-open_text : goal.returns-clause-open_text
returns-clause-open_text c types table bytes batches others one two = open_once types table bytes batches others one two

pub returns-clause-good : goal.returns-clause-good
returns-clause-good c types table bytes batches others one two = good_once types table bytes batches others one two

pub returns-clause-faulty : goal.returns-clause-faulty
returns-clause-faulty c types table bytes batches others error other one two = faulty_once types table bytes batches others error other one two

pub returns-clause-not_both : goal.returns-clause-not_both
returns-clause-not_both c types table bytes batches others error good faulty = not_both types table bytes batches others error good faulty
