use Rattle.std.proofs.Common.{◌≡◌, ◌≢◌, ◌⊎◌, inl, inr, sym, ◌∙◌, ap, subst, true, false}
use Rattle.std.specs.Prelude.{Contains}
use Rattle.std.proofs.lemmas.Bool.{leb-true, le-leb}
use Rattle.causal_base.specs.declared.event_id.EventId.{EventId}
use Rattle.causal_base.specs.Event.{Pairs}
use Rattle.causal_base.specs.Past.{is_same_id}
use Rattle.causal_base.specs.Journal.{delivered_by}
use Rattle.causal_base.specs.PlainList.{TypedJournal, IsOpenJournal}
use Rattle.causal_base.proofs.Ids.{is_same_id-same, same_from_is_same_id}
use Rattle.causal_base.proofs.Answering.{says_other, says_no, delivered_type, delivered_trace}
use Rattle.causal_base.proofs.plain.Plain.before.Goals as goal
use Rattle.causal_base.proofs.plain.Plain.before.Goals.{then-eq-via-then-eq, then-eq-via-else-eq+then-pairs}

pub pairs-requires-clause-first : goal.pairs-requires-clause-first
pairs-requires-clause-first c =
    let x = c.in-Some.first.now in
    let there = subst (λ (w : TypedJournal). Contains (delivered_by w.journal) x) (sym c.self.view_is) c.in-Some.ensures.some.0 in
    delivered_type c.self.inside.types c.self.inside.journal c.self.invariant.0 x there

pub pairs-requires-clause-second : goal.pairs-requires-clause-second
pairs-requires-clause-second c =
    let y = c.in-Some-event.second.now in
    let there = subst (λ (w : TypedJournal). Contains (delivered_by w.journal) y) (sym c.self.view_is) c.in-Some-event.ensures.some.0 in
    delivered_type c.self.inside.types c.self.inside.journal c.self.invariant.0 y there

pub returns-then-eq : goal.returns-then-eq
returns-then-eq c =
    let v = c.args.self.now in
    let x = c.in-Some.first.now in
    let y = c.in-Some-event.second.now in
    let kept = subst (λ (w : TypedJournal). IsOpenJournal w.types w.journal) c.self.view_is c.self.invariant.0 in
    let one : (c.args.a ≡ c.args.b) ⊎ Pairs v.types x y = elim c.then-eq.branch [
      | then-eq-via-then-eq w ↦ inl (same_from_is_same_id c.args.a c.args.b (sym c.eq.ensures ∙ w.if-eq.true))
      | then-eq-via-else-eq+then-pairs w ↦ inr (subst (λ (u : TypedJournal). Pairs u.types x y) c.self.view_is (w.pairs.ensures.0 w.if-pairs.true))
    ] in
    let first = c.in-Some.ensures.some in
    let second = c.in-Some-event.ensures.some in
    (((x, first.0, first.1), ((y, second.0, second.1), tt)), says_no v.types v.journal kept c.args.a c.args.b x y first.0 first.1 second.0 second.1 one)

pub number_of-requires-clause-trace : goal.number_of-requires-clause-trace
number_of-requires-clause-trace c =
    let v = c.args.self.now in
    let kept = subst (λ (w : TypedJournal). IsOpenJournal w.types w.journal) c.self.view_is c.self.invariant.0 in
    delivered_trace v.types v.journal kept c.args.a (c.in-Some.first.now, c.in-Some.ensures.some.0, c.in-Some.ensures.some.1)

pub returns : goal.returns
returns c =
    let v = c.args.self.now in
    let x = c.in-Some.first.now in
    let y = c.in-Some-event.second.now in
    let first = c.in-Some.ensures.some in
    let second = c.in-Some-event.ensures.some in
    let kept = subst (λ (w : TypedJournal). IsOpenJournal w.types w.journal) c.self.view_is c.self.invariant.0 in
    let other : c.args.a ≢ c.args.b = λ same.
    let yes = subst (λ i. is_same_id c.args.a i ≡ true) same (is_same_id-same c.args.a) in
    let clash : true ≡ false = sym yes ∙ sym c.eq.ensures ∙ c.if-eq.false in
    cc in
    let not_partners : Pairs v.types x y → ⊥ = λ partners.
    let yes = c.pairs.ensures.1 (subst (λ (u : TypedJournal). Pairs u.types x y) (sym c.self.view_is) partners) in
    let clash : true ≡ false = sym yes ∙ c.if-pairs.false in
    cc in
    let reach = c.number_of.ensures.reach y x second.0 second.1 first.0 (ap (λ (i : EventId). i.trace) first.1) in
    let number : x.id.number ≡ c.args.a.number = ap (λ (i : EventId). i.number) first.1 in (
      ((x, first.0, first.1), ((y, second.0, second.1), tt)),
      says_other v.types v.journal kept c.args.a c.args.b x y first.0 first.1 second.0 second.1 other not_partners _
          ((λ yes. reach.0 (rw number (leb-true c.args.a.number c.number_of.result yes))), (λ reaches. le-leb c.args.a.number c.number_of.result (rw number at (reach.1 reaches)))),
    )
