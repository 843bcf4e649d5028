use Rattle.std.proofs.Common.{◌∙◌, sym}
use Rattle.std.specs.Prelude.{reverse}
use Rattle.std.proofs.lemmas.List.{length-reverse}
use Rattle.causal_laws.proofs.Lengths.{settled_length}
use Rattle.causal_laws.proofs.settled.same_length.Goals as goal

pub returns : goal.returns
returns c types journal other legal other_legal settled other_settled came ended =
    sym (length-reverse journal)
    ∙ (settled_length types (reverse journal) (reverse other) legal other_legal settled other_settled (λ e. (came e).0) (λ e. (came e).1) (λ c. (ended c).0) (λ c. (ended c).1)
    ∙ length-reverse other)
