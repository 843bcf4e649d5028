-- A text is read in one way, and further batches have no fewer ids.
use Rattle.poet_top.proofs.Outcomes.{answer_or_bad_line, answer_or_many, bad_line_or_many, bad_line_once}
use Rattle.poet_top.proofs.law.bytes_end_in_one_way.Goals as goal

pub returns-clause-answer_or_bad_line : goal.returns-clause-answer_or_bad_line
returns-clause-answer_or_bad_line c types table bytes a b answer error over bad = answer_or_bad_line types table bytes a b answer error over bad

pub returns-clause-answer_or_many : goal.returns-clause-answer_or_many
returns-clause-answer_or_many c types table bytes a b answer over more = answer_or_many types table bytes a b answer over more

pub returns-clause-bad_line_or_many : goal.returns-clause-bad_line_or_many
returns-clause-bad_line_or_many c types table bytes error bad more = bad_line_or_many types table bytes error bad more

pub returns-clause-bad_line_is_one : goal.returns-clause-bad_line_is_one
returns-clause-bad_line_is_one c types table bytes error other one two = bad_line_once types table bytes error other one two
