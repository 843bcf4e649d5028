use Rattle.std.proofs.Common.{◌<◌, reverse, subst}
use Rattle.std.specs.Prelude.{IfNone, IfSome}
use Rattle.causal_base.specs.Past.{came, deliveries, HasNoNext, IsNext}
use Rattle.delivery.specs.Deliveries.{TypedJournal}
use Rattle.delivery.proofs.Ends.{if_none, if_some_weaker}
use Rattle.delivery.proofs.Leaders.{first_below, next_from_lowest, none_from_empty}
use Rattle.delivery.proofs.delivery.Delivery.next_block.Goals as goal

pub returns-in_err-lowest-clause-none : goal.returns-in_err-lowest-clause-none
returns-in_err-lowest-clause-none c =
    let past = reverse c.self.inside.journal in
    let parts = c.self.invariant.parts in
    subst (λ (v : TypedJournal). IfNone c.from_residual.result (HasNoNext v.types (reverse v.journal))) c.self.view_is
    (if_none c.from_residual.result (none_from_empty c.self.inside.types (came past) (deliveries past) parts.history c.self.inside.ready parts.ready_set parts.table.most_traces c.in_err-lowest.ensures.none))

pub enabled_of-requires-clause-trace : goal.enabled_of-requires-clause-trace
enabled_of-requires-clause-trace c =
    let past = reverse c.self.inside.journal in
    let parts = c.self.invariant.parts in
    let leads = parts.ready_set.sound c.in_ok-lowest.field-0 c.in_ok-lowest.ensures.some.0 c.in_ok-lowest.ensures.some.1 in
    subst (λ t. t < c.self.inside.types.traces) leads.first (first_below c.self.inside.types (came past) (deliveries past) parts.history leads.block leads.enabled)

pub returns-clause-some : goal.returns-clause-some
returns-clause-some c =
    let past = reverse c.self.inside.journal in
    let parts = c.self.invariant.parts in
    subst (λ (v : TypedJournal). IfSome c.enabled_of.result (IsNext v.types (reverse v.journal))) c.self.view_is
    (if_some_weaker c.enabled_of.result (λ block found. next_from_lowest c.self.inside.types (came past) (deliveries past) parts.history c.self.inside.ready parts.ready_set parts.table.most_traces c.in_ok-lowest.field-0 c.in_ok-lowest.ensures.some.2 block found.0 found.1) c.enabled_of.ensures.some)
