-- The law is a lemma on the reversed journal.
use Rattle.causal_laws.proofs.Prefixes.{prefix_is_legal}
use Rattle.causal_laws.proofs.prefix.legal_prefix.Goals as goal

pub returns : goal.returns
returns c types journal more legal = prefix_is_legal types journal more legal
