use Rattle.std.proofs.Common.{◌↔◌, subst, sym, Option}
use Rattle.std.specs.Prelude.{IsTrue}
use Rattle.causal_base.specs.Types.{TypeTable}
use Rattle.causal_base.specs.Walks.{Reaches}
use Rattle.causal_base.specs.Journal.{delivered_by}
use Rattle.causal_base.specs.declared.answer.Answer.TheVariants.{Known}
use Rattle.causal_base.specs.declared.related.Related.{Related}
use Rattle.precedence.specs.Relations.{IsOneThingAnswer}
use Rattle.precedence.proofs.TwoEvents.{before_by_reach}
use Rattle.precedence.proofs.relations.before.Goals as goal

pub returns-in-Known-None-clause-answer : goal.returns-in-Known-None-clause-answer
returns-in-Known-None-clause-answer g c journal stands =
    let types = c.args.types.now in
    let events = delivered_by journal in
    let said = subst (λ (o : Option Related). IsOneThingAnswer types events c.args.a c.args.b (Known o)) c.in-Known-None.field-0-is (c.in-Known-None.ensures journal stands) in
    let two = said.1 in
    let reach = subst (λ (t : TypeTable). IsTrue c.reaches.result ↔ Reaches t events two.first two.second) (sym c.requires)
    (c.reaches.ensures.reach journal stands two.first two.second two.first_among two.first_id two.second_among two.second_id) in
    (said.0, before_by_reach types events c.args.a c.args.b two c.reaches.result reach)
