use Rattle.std.proofs.Common.{◌≡◌, List, reverse, refl, sym, ◌∙◌, ap, subst, arith, inl, inr, Err, Result}
use Rattle.std.specs.Prelude.{OnErr}
use Rattle.causal_base.specs.declared.entry.Entry.{Entry}
use Rattle.causal_base.specs.declared.limits.TheConstants.{MOST_EVENTS}
use Rattle.causal_base.specs.declared.refusal.Refusal.{Refusal}
use Rattle.causal_base.specs.declared.refusal.Refusal.TheVariants.{Repeat, Clash, Full}
use Rattle.causal_base.specs.Past.{HasEnded, HasNoNext}
use Rattle.causal_base.specs.Types.{TypeTable}
use Rattle.causal_base.specs.InTurn.{MeetsLimit, SettlesTo}
use Rattle.event_book.specs.Stamping.{StampedState}
use Rattle.event_book.proofs.Outcomes.{when_ok}
use Rattle.event_book.proofs.Settling.{not_ended, settles_from}
use Rattle.event_book.proofs.feeding.take.Goals as goal

pub accept-requires-clause-settled : goal.accept-requires-clause-settled
accept-requires-clause-settled c =
    subst (λ (t : TypeTable). HasNoNext t (reverse c.settle.new.self.journal)) (sym c.settle.ensures.types) (when_ok c.settle.result (sym c.is_err.ensures.value ∙ c.if-is_err.false) c.settle.ensures.settled)

pub accept-requires-clause-open : goal.accept-requires-clause-open
accept-requires-clause-open c ended =
    let on = c.settle.ensures.delivers in
    c.requires.open (not_ended c.args.collector c.args.deliverer.now.journal on.more on.delivers (subst (λ (l : List Entry). HasEnded (reverse l) c.args.collector) on.goes_on ended))

pub returns-in-Err-Repeat-clause-ok : goal.returns-in-Err-Repeat-clause-ok
returns-in-Err-Repeat-clause-ok c =
    let is : c.accept.result ≡ Err Repeat = c.in-Err-Repeat.is ∙ ap Err c.in-Err-Repeat.field-0-is in
    let settled = when_ok c.settle.result (sym c.is_err.ensures.value ∙ c.if-is_err.false) c.settle.ensures.settled in
    let same = subst (λ (r : Result (Unit {0}) Refusal). OnErr r (c.accept.new.self ≡ c.settle.new.self)) is c.accept.ensures.err in
    record {
      between = c.settle.new.self.journal;
      settles = settles_from c.args.deliverer.now.types c.args.deliverer.now.journal c.settle.new.self.journal c.settle.ensures.delivers settled;
      comes = inr (inl (record { known = c.accept.ensures.repeat.0 is; same = ap (λ (v : StampedState). v.journal) same; counts = c.repeat.ensures.report }));
    }

pub returns-in-Err-Clash-clause-ok : goal.returns-in-Err-Clash-clause-ok
returns-in-Err-Clash-clause-ok c =
    let is : c.accept.result ≡ Err Clash = c.in-Err-Clash.is ∙ ap Err c.in-Err-Clash.field-0-is in
    let settled = when_ok c.settle.result (sym c.is_err.ensures.value ∙ c.if-is_err.false) c.settle.ensures.settled in
    let same = subst (λ (r : Result (Unit {0}) Refusal). OnErr r (c.accept.new.self ≡ c.settle.new.self)) is c.accept.ensures.err in
    let known = c.accept.ensures.clash.0 is in
    record {
      between = c.settle.new.self.journal;
      settles = settles_from c.args.deliverer.now.types c.args.deliverer.now.journal c.settle.new.self.journal c.settle.ensures.delivers settled;
      comes = inr (inr (record { known = known.0; other = known.1; same = ap (λ (v : StampedState). v.journal) same; counts = c.clash.ensures.report }));
    }

pub returns-in-Err-Full-clause-err : goal.returns-in-Err-Full-clause-err
returns-in-Err-Full-clause-err c =
    let is : c.accept.result ≡ Err Full = c.in-Err-Full.is ∙ ap Err c.in-Err-Full.field-0-is in
    let settled = when_ok c.settle.result (sym c.is_err.ensures.value ∙ c.if-is_err.false) c.settle.ensures.settled in
    let same = subst (λ (r : Result (Unit {0}) Refusal). OnErr r (c.accept.new.self ≡ c.settle.new.self)) is c.accept.ensures.err in
    let full = c.accept.ensures.full.0 is in
    subst (λ (v : StampedState). (c.args.event.id ≡ c.args.event.id) × MeetsLimit MOST_EVENTS v.journal c.args.event × SettlesTo c.args.deliverer.now.types c.args.deliverer.now.journal v.journal) (sym same) (
      refl,
      (let many = full.1 in record { new = full.0; full = omega (arith, many) }),
      settles_from c.args.deliverer.now.types c.args.deliverer.now.journal c.settle.new.self.journal c.settle.ensures.delivers settled,
    )
