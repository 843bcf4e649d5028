use Rattle.std.proofs.Common.{◌≡◌, ◌∙◌, ap, subst}
use Rattle.std.specs.Prelude.{IfSome}
use Rattle.causal_base.specs.Asked.{IsBeforeAnswer}
use Rattle.causal_base.specs.Journal.{delivered_by}
use Rattle.causal_base.specs.PlainList.{TypedJournal}
use Rattle.causal_base.specs.Types.{TypeTable}
use Rattle.poet_top.specs.Ask.{asked_types, IsAnswerOver}
use Rattle.poet_top.specs.declared.fault.Fault.{Fault}
use Rattle.poet_top.specs.FaultOutcome.{HasNoAnswer}
use Rattle.poet_top.proofs.Exits.{if_err_from}
use Rattle.poet_top.proofs.Sources.{answer_told}
use Rattle.poet_top.proofs.ask.answer_from.Goals as goal

pub returns-clause-ok : goal.returns-clause-ok
returns-clause-ok g c =
    let left = (g.S.Source.state c.args.source.now).left in
    let plain = c.take_events.new.plain in
    let types : c.new-plain.result.types ≡ asked_types = ap (λ (p : TypedJournal). p.types) c.new-plain.ensures ∙ (c.in-Ok-copy.ensures ∙ c.in-Ok.ensures) in
    subst (λ (t : TypeTable). IfSome left (λ bytes. IsAnswerOver t bytes c.args.plan.now.a c.args.plan.now.b c.before-2.result)) types
    (answer_told c.new-plain.result.types left plain.journal c.args.plan.now.a c.args.plan.now.b c.before-2.result c.in_ok-take_events.ensures.ok
    (subst (λ (t : TypeTable). IsBeforeAnswer t (delivered_by plain.journal) c.args.plan.now.a c.args.plan.now.b c.before-2.result) c.in_ok-take_events.ensures.same_types c.before-2.ensures))

pub returns-in_err-take_events-clause-err : goal.returns-in_err-take_events-clause-err
returns-in_err-take_events-clause-err g c =
    let state = g.S.Source.state in
    let fault = c.in_err-take_events.field-0.0 in
    let types : c.new-plain.result.types ≡ asked_types = ap (λ (p : TypedJournal). p.types) c.new-plain.ensures ∙ (c.in-Ok-copy.ensures ∙ c.in-Ok.ensures) in
    let Caused : Fault → Type 0 = λ f. IfSome (state c.args.source.now).left (λ bytes. IfSome (state c.take_events.new.source).left (λ left. HasNoAnswer asked_types bytes left f)) in
    if_err_from Caused c.from_residual.result fault c.from_residual.ensures.1
    (subst (λ (t : TypeTable). IfSome (state c.args.source.now).left (λ bytes. IfSome (state c.take_events.new.source).left (λ left. HasNoAnswer t bytes left fault))) types c.in_err-take_events.ensures.err)
