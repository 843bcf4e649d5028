use Rattle.std.specs.Prelude.{reverse}
use Rattle.causal_base.specs.Journal.{delivered_by}
use Rattle.causal_base.proofs.CallerLemmas.{delivered_numbered, same_event}
use Rattle.causal_laws.proofs.number.delivered_has_own_id.Goals as goal

pub returns : goal.returns
returns c types journal legal a b in_a in_b same = same_event (delivered_by journal) (delivered_numbered types (reverse journal) legal) a b in_a in_b same
