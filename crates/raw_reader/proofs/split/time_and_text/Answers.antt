use Rattle.std.proofs.Common.{sym, ◌∙◌}
use Rattle.std.proofs.lemmas.Bool.{eqb-true}
use Rattle.raw_reader.proofs.Splitting.{no_empty_text}
use Rattle.raw_reader.proofs.split.time_and_text.Goals as goal

pub returns-then-is_empty-clause-none : goal.returns-then-is_empty-clause-none
returns-then-is_empty-clause-none c time text split =
    no_empty_text _ _ _ time text (eqb-true _ _ (sym c.is_empty.ensures ∙ c.if-is_empty.true)) c.in-Some.ensures.found split
