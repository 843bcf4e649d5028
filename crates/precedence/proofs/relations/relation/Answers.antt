use Rattle.std.proofs.Common.{◌≡◌, ◌↔◌, sym, ◌∙◌, subst, Option, true, false}
use Rattle.std.specs.Prelude.{IsTrue}
use Rattle.causal_base.specs.Types.{TypeTable}
use Rattle.causal_base.specs.Walks.{Reaches}
use Rattle.causal_base.specs.Journal.{delivered_by}
use Rattle.causal_base.specs.declared.answer.Answer.TheVariants.{Known}
use Rattle.causal_base.specs.declared.related.Related.{Related}
use Rattle.precedence.specs.Relations.{IsOneThingAnswer}
use Rattle.precedence.proofs.TwoEvents.{related_before, related_after, related_not}
use Rattle.precedence.proofs.relations.relation.Goals as goal

pub returns-then-reaches-clause-answer : goal.returns-then-reaches-clause-answer
returns-then-reaches-clause-answer g c journal stands =
    let types = c.args.types.now in
    let events = delivered_by journal in
    let said = subst (λ (o : Option Related). IsOneThingAnswer types events c.args.a c.args.b (Known o)) c.in-Known-None.field-0-is (c.in-Known-None.ensures journal stands) in
    let two = said.1 in
    let forth = subst (λ (t : TypeTable). IsTrue c.reaches.result ↔ Reaches t events two.first two.second) (sym c.requires)
    (c.reaches.ensures.reach journal stands two.first two.second two.first_among two.first_id two.second_among two.second_id) in
    (said.0, related_before types events c.args.a c.args.b two (forth.0 c.if-reaches.true))

pub returns-then-reaches-2-clause-answer : goal.returns-then-reaches-2-clause-answer
returns-then-reaches-2-clause-answer g c journal stands =
    let types = c.args.types.now in
    let events = delivered_by journal in
    let said = subst (λ (o : Option Related). IsOneThingAnswer types events c.args.a c.args.b (Known o)) c.in-Known-None.field-0-is (c.in-Known-None.ensures journal stands) in
    let two = said.1 in
    let back = subst (λ (t : TypeTable). IsTrue c.reaches-else-reaches.result ↔ Reaches t events two.second two.first) (sym c.requires)
    (c.reaches-else-reaches.ensures.reach journal stands two.second two.first two.second_among two.second_id two.first_among two.first_id) in
    (said.0, related_after types events c.args.a c.args.b two (back.0 c.if-reaches-2.true))

pub returns-else-reaches-2-clause-answer : goal.returns-else-reaches-2-clause-answer
returns-else-reaches-2-clause-answer g c journal stands =
    let types = c.args.types.now in
    let events = delivered_by journal in
    let said = subst (λ (o : Option Related). IsOneThingAnswer types events c.args.a c.args.b (Known o)) c.in-Known-None.field-0-is (c.in-Known-None.ensures journal stands) in
    let two = said.1 in
    let forth = subst (λ (t : TypeTable). IsTrue c.reaches.result ↔ Reaches t events two.first two.second) (sym c.requires)
    (c.reaches.ensures.reach journal stands two.first two.second two.first_among two.first_id two.second_among two.second_id) in
    let back = subst (λ (t : TypeTable). IsTrue c.reaches-else-reaches.result ↔ Reaches t events two.second two.first) (sym c.requires)
    (c.reaches-else-reaches.ensures.reach journal stands two.second two.first two.second_among two.second_id two.first_among two.first_id) in (
      said.0,
      related_not types events c.args.a c.args.b two
          (λ reaches. let clash : true ≡ false = sym (forth.1 reaches) ∙ c.if-reaches.false in cc)
          (λ reaches. let clash : true ≡ false = sym (back.1 reaches) ∙ c.if-reaches-2.false in cc),
    )
