use Rattle.std.proofs.Common.{◌≡◌, ◌<◌, List, reverse, sym, ◌∙◌, subst, arith, length, Result, Ok, Err}
use Rattle.std.specs.Prelude.{Contains, ◌↔◌}
use Rattle.causal_base.specs.declared.entry.Entry.{Entry}
use Rattle.causal_base.specs.declared.refusal.Refusal.{Refusal}
use Rattle.causal_base.specs.declared.refusal.Refusal.TheVariants.{Repeat, Clash, Full, Oom}
use Rattle.causal_base.specs.Event.{IsFit}
use Rattle.causal_base.specs.Past.{came, HasEvent}
use Rattle.causal_base.specs.Journal.{IsSettled}
use Rattle.causal_base.specs.PlainList.{TypedJournal, IsOpenJournal}
use Rattle.causal_base.proofs.Offers.{Answers, repeat_known, clash_known, full_known, clash_new, full_new}
use Rattle.causal_base.proofs.OpenJournals.{room, kept_came}
use Rattle.causal_base.proofs.plain.Plain.offer.Goals as goal

pub returns-in-Some-clause-repeat : goal.returns-in-Some-clause-repeat
returns-in-Some-clause-repeat c =
    let p = c.self.inside in
    subst (λ (v : TypedJournal). Answers c.refusal_of_known.result Repeat ↔ Contains (came (reverse v.journal)) c.args.event) c.self.view_is
    (repeat_known p.types (reverse p.journal) c.self.invariant.0.legal c.args.event c.in-Some.known.now c.in-Some.ensures.some.0 c.in-Some.ensures.some.1 c.refusal_of_known.result c.refusal_of_known.ensures)

pub returns-in-Some-clause-clash : goal.returns-in-Some-clause-clash
returns-in-Some-clause-clash c =
    let p = c.self.inside in
    subst (λ (v : TypedJournal). Answers c.refusal_of_known.result Clash ↔ (HasEvent (came (reverse v.journal)) c.args.event.id × ¬ Contains (came (reverse v.journal)) c.args.event)) c.self.view_is
    (clash_known p.types (reverse p.journal) c.self.invariant.0.legal c.args.event c.in-Some.known.now c.in-Some.ensures.some.0 c.in-Some.ensures.some.1 c.refusal_of_known.result c.refusal_of_known.ensures)

pub returns-in-Some-clause-full : goal.returns-in-Some-clause-full
returns-in-Some-clause-full c =
    let p = c.self.inside in
    subst (λ (v : TypedJournal). Answers c.refusal_of_known.result Full ↔ ((¬ HasEvent (came (reverse v.journal)) c.args.event.id) × (length (came (reverse v.journal)) ≡ 10_000))) c.self.view_is
    (full_known p.types (reverse p.journal) c.self.invariant.0.legal c.args.event c.in-Some.known.now c.in-Some.ensures.some.0 c.in-Some.ensures.some.1 c.refusal_of_known.result c.refusal_of_known.ensures)

pub returns-then-accepted-eq-MOST_PLAIN_EVENTS-clause-clash : goal.returns-then-accepted-eq-MOST_PLAIN_EVENTS-clause-clash
returns-then-accepted-eq-MOST_PLAIN_EVENTS-clause-clash c =
    subst (λ (v : TypedJournal). Answers Full Clash ↔ (HasEvent (came (reverse v.journal)) c.args.event.id × ¬ Contains (came (reverse v.journal)) c.args.event)) c.self.view_is
    (clash_new (reverse c.self.inside.journal) c.args.event c.in_default.ensures.none (Err Full) (λ e. cc))

pub returns-then-accepted-eq-MOST_PLAIN_EVENTS-clause-full : goal.returns-then-accepted-eq-MOST_PLAIN_EVENTS-clause-full
returns-then-accepted-eq-MOST_PLAIN_EVENTS-clause-full c =
    subst (λ (v : TypedJournal). Answers Full Full ↔ ((¬ HasEvent (came (reverse v.journal)) c.args.event.id) × (length (came (reverse v.journal)) ≡ 10_000))) c.self.view_is
    (full_new (reverse c.self.inside.journal) c.args.event c.in_default.ensures.none (sym c.accepted.ensures ∙ c.if-accepted-eq-MOST_PLAIN_EVENTS.true))

pub push_came-requires-clause-room : goal.push_came-requires-clause-room
push_came-requires-clause-room c = room c.self.inside.types c.self.inside.journal c.self.invariant.0

pub invariant_of-self : goal.invariant_of-self
invariant_of-self c = (c.settle.ensures.kept, c.settle.ensures.settles.settled)

pub invariant_of-self-in-Err : goal.invariant_of-self-in-Err
invariant_of-self-in-Err c =
    let p = c.self.inside in
    subst (λ (j : List Entry). IsOpenJournal p.types j × IsSettled p.types j) (sym c.in-Err.ensures.err) c.self.invariant

pub settle-requires : goal.settle-requires
settle-requires c =
    let p = c.self.inside in
    let fit = subst (λ (v : TypedJournal). IsFit v.types c.args.event) (sym c.self.view_is) c.requires in
    subst (IsOpenJournal p.types) (sym c.in-Ok.ensures.ok)
    (kept_came p.types p.journal c.self.invariant.0 c.self.invariant.1 c.args.event fit c.in_default.ensures.none (omega (arith, c.self.invariant.0.few, c.accepted.ensures, c.if-accepted-eq-MOST_PLAIN_EVENTS.false)))

pub returns-in-Ok-clause-clash : goal.returns-in-Ok-clause-clash
returns-in-Ok-clause-clash c =
    subst (λ (v : TypedJournal). ◌≡◌ {A = Result (Unit {0}) Refusal} (Ok tt) (Err Clash) ↔ (HasEvent (came (reverse v.journal)) c.args.event.id × ¬ Contains (came (reverse v.journal)) c.args.event)) c.self.view_is
    (clash_new (reverse c.self.inside.journal) c.args.event c.in_default.ensures.none (Ok tt) (λ e. cc))

pub returns-in-Ok-clause-new : goal.returns-in-Ok-clause-new
returns-in-Ok-clause-new c =
    subst (λ (v : TypedJournal). (¬ HasEvent (came (reverse v.journal)) c.args.event.id) × (length (came (reverse v.journal)) < 10_000)) c.self.view_is
    (c.in_default.ensures.none, omega (arith, c.self.invariant.0.few, c.accepted.ensures, c.if-accepted-eq-MOST_PLAIN_EVENTS.false))

pub returns-in-Err-clause-clash : goal.returns-in-Err-clause-clash
returns-in-Err-clause-clash c =
    subst (λ (v : TypedJournal). Answers Oom Clash ↔ (HasEvent (came (reverse v.journal)) c.args.event.id × ¬ Contains (came (reverse v.journal)) c.args.event)) c.self.view_is
    (clash_new (reverse c.self.inside.journal) c.args.event c.in_default.ensures.none (Err Oom) (λ e. cc))
