use Rattle.std.proofs.Common.{◌++◌, ◌∷◌, [], ◌∙◌, ap, subst, sym, inr, Err, refl, arith}
use Rattle.causal_base.specs.PlainList.{TypedJournal}
use Rattle.poet_top.specs.Taking.{HasTaken}
use Rattle.poet_top.proofs.Counted.{taken_known, taken_new, taken_many}
use Rattle.poet_top.proofs.taking.offer.Goals as goal

pub returns-in-Err-Full-clause-err : goal.returns-in-Err-Full-clause-err
returns-in-Err-Full-clause-err c =
    let full = c.offer.ensures.full.0 (c.in-Err-Full.is ∙ ap Err c.in-Err-Full.field-0-is) in
    inr (refl, λ events others has. taken_many c.args.plain.now.types events c.args.plain.now.journal has c.args.event others full.0 full.1)

pub returns-in-Ok-clause-taken : goal.returns-in-Ok-clause-taken
returns-in-Ok-clause-taken c events has =
    let before = c.args.plain.now in
    let later = c.offer.new.self in
    taken_new before.types events before.journal has c.args.event later.journal
    (record { new = c.in-Ok.ensures.new.0; room = (let room = c.in-Ok.ensures.new.1 in omega (arith, room)); settles = c.in-Ok.ensures.delivers })
    c.in-Ok.ensures.new.1

pub returns-in-Err-Repeat-clause-taken : goal.returns-in-Err-Repeat-clause-taken
returns-in-Err-Repeat-clause-taken c events has =
    let before = c.args.plain.now in
    let known = c.offer.ensures.repeat.0 (c.in-Err-Repeat.is ∙ ap Err c.in-Err-Repeat.field-0-is) in
    subst (λ (p : TypedJournal). HasTaken before.types (events ++ c.args.event ∷ []) p.journal) (sym c.in-Err-Repeat.ensures.err)
    (taken_known before.types events before.journal has c.args.event (c.args.event, known, refl))

pub returns-in-Err-Clash-clause-taken : goal.returns-in-Err-Clash-clause-taken
returns-in-Err-Clash-clause-taken c events has =
    let before = c.args.plain.now in
    let known = c.offer.ensures.clash.0 (c.in-Err-Clash.is ∙ ap Err c.in-Err-Clash.field-0-is) in
    subst (λ (p : TypedJournal). HasTaken before.types (events ++ c.args.event ∷ []) p.journal) (sym c.in-Err-Clash.ensures.err)
    (taken_known before.types events before.journal has c.args.event known.0)
