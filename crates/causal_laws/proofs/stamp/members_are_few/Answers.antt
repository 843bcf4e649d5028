use Rattle.causal_base.specs.Journal.{deliveries_by}
use Rattle.causal_laws.proofs.Sizes.{few_members, all_members}
use Rattle.causal_laws.proofs.stamp.members_are_few.Goals as goal

pub returns-clause-few : goal.returns-clause-few
returns-clause-few c clustering journal e low some = few_members clustering (deliveries_by journal) e low some

pub returns-clause-all : goal.returns-clause-all
returns-clause-all c clustering journal e high = all_members clustering (deliveries_by journal) e high
