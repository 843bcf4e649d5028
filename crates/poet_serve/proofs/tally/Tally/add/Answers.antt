use Rattle.std.proofs.Common.{◌+◌, ◌≤◌, ◌++◌, List, length, take, sym, ◌∙◌, ap, subst}
use Rattle.poet_serve.specs.declared.limits.TheConstants.{MOST_CLASHES_NAMED}
use Rattle.std.proofs.lemmas.List.{length-take}
use Rattle.std.proofs.Math.Nat.{min-le_left}
use Rattle.causal_base.specs.declared.event_id.EventId.{EventId}
use Rattle.poet_serve.specs.Tallies.{TallyState}
use Rattle.poet_serve.proofs.Counted.{tally_more}
use Rattle.poet_serve.proofs.tally.Tally.add.Goals as goal

pub invariant_of-self : goal.invariant_of-self
invariant_of-self c =
    let few = ap length c.name_clashes.ensures.items ∙ length-take MOST_CLASHES_NAMED (c.self.inside.first.items ++ c.as_slice-2.result.now) in
    let most = min-le_left MOST_CLASHES_NAMED (length (c.self.inside.first.items ++ c.as_slice-2.result.now)) in
    (subst (λ n. n ≤ MOST_CLASHES_NAMED) (sym few) most, subst (λ n. MOST_CLASHES_NAMED ≤ n) (sym c.name_clashes.ensures.room) c.self.invariant.1)

pub returns : goal.returns
returns c counted is = tally_more c.args.self.now counted c.args.report.now is
    (c.self.inside.accepted + c.args.report.now.accepted) (c.self.inside.repeats + c.from.result) (c.self.inside.clashes + length c.as_slice.result.now) c.name_clashes.new.first.items
    (ap (λ (t : TallyState). t.accepted + c.args.report.now.accepted) c.self.view_is) (ap (λ n. c.self.inside.repeats + n) c.from.ensures ∙ ap (λ (t : TallyState). t.repeats + c.args.report.now.repeats) c.self.view_is)
    (ap (λ (l : List EventId). c.self.inside.clashes + length l) c.as_slice.ensures ∙ ap (λ (t : TallyState). t.clashes + length c.args.report.now.clashes) c.self.view_is)
    (c.name_clashes.ensures.items ∙ (ap (λ (l : List EventId). take MOST_CLASHES_NAMED (c.self.inside.first.items ++ l)) c.as_slice-2.ensures ∙ ap (λ (t : TallyState). take MOST_CLASHES_NAMED (t.first ++ c.args.report.now.clashes)) c.self.view_is))
