use Rattle.std.proofs.Common.{◌≡◌, ◌<◌, ◌∙◌, inl, inr, ap, length, subst, sym, true}
use Rattle.causal_base.specs.declared.event.Event.{Event}
use Rattle.causal_base.specs.declared.event_id.EventId.{EventId}
use Rattle.causal_base.specs.Event.{Pairs}
use Rattle.causal_base.specs.Past.{is_same_id}
use Rattle.causal_base.specs.Types.{TypeTable}
use Rattle.causal_base.proofs.CallerLemmas.{is_same_id-same, same_from_is_same_id}
use Rattle.cut_scroll.proofs.DeliveredEvents.{one_event, type_of}
use Rattle.cut_scroll.proofs.neighbours.are_one_thing.Goals as goal

pub pairs-requires-clause-first : goal.pairs-requires-clause-first
pairs-requires-clause-first g c =
    let some = c.traces-traces.ensures.stands in
    subst (λ (t : TypeTable). c.in-Some.first.now.type_no < length t.rows) (sym c.requires.types)
    (type_of (g.C.Causal.types c.args.book.now) some.0 (g.C.Causal.legal c.args.book.now some.0 some.1) c.in-Some.first.now (c.in-Some.ensures.some some.0 some.1).0)

pub pairs-requires-clause-second : goal.pairs-requires-clause-second
pairs-requires-clause-second g c =
    let some = c.traces-traces.ensures.stands in
    subst (λ (t : TypeTable). c.in-Some-event.second.now.type_no < length t.rows) (sym c.requires.types)
    (type_of (g.C.Causal.types c.args.book.now) some.0 (g.C.Causal.legal c.args.book.now some.0 some.1) c.in-Some-event.second.now (c.in-Some-event.ensures.some some.0 some.1).0)

pub returns-then-eq : goal.returns-then-eq
returns-then-eq g c journal stands x y in_x is_x in_y is_y =
    let same = same_from_is_same_id c.args.a c.args.b (sym c.eq.ensures ∙ c.if-eq.true) in (
      (λ _. inl (one_event (g.C.Causal.types c.args.book.now) journal (g.C.Causal.legal c.args.book.now journal stands) x y in_x in_y (is_x ∙ same ∙ sym is_y))),
      (λ _. c.if-eq.true),
    )

pub returns-else-eq : goal.returns-else-eq
returns-else-eq g c journal stands x y in_x is_x in_y is_y =
    let types = c.args.types.now in
    let one = one_event (g.C.Causal.types c.args.book.now) journal (g.C.Causal.legal c.args.book.now journal stands) in
    let first = c.in-Some.ensures.some journal stands in
    let second = c.in-Some-event.ensures.some journal stands in
    let first_is = one c.in-Some.first.now x first.0 in_x (first.1 ∙ sym is_x) in
    let second_is = one c.in-Some-event.second.now y second.0 in_y (second.1 ∙ sym is_y) in (
      (λ yes. inr (subst (λ (v : Event). Pairs types x v) second_is (subst (λ (u : Event). Pairs types u c.in-Some-event.second.now) first_is (c.pairs.ensures.0 yes)))),
      (λ thing. elim thing [
        | inr pairs ↦ c.pairs.ensures.1 (subst (λ (v : Event). Pairs types c.in-Some.first.now v) (sym second_is) (subst (λ (u : Event). Pairs types u y) (sym first_is) pairs))
        | inl same ↦
            let ids = sym is_x ∙ ap (λ (v : Event). v.id) same ∙ is_y in
            let yes = subst (λ (i : EventId). is_same_id c.args.a i ≡ true) ids (is_same_id-same c.args.a) in
            let no = sym c.eq.ensures ∙ c.if-eq.false in
            absurd cc
      ]),
    )
