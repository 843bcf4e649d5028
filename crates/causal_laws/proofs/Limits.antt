use Rattle.std.proofs.Common.{◌≡◌, ◌≤◌, ◌+◌, ℕ, ◌⊎◌, inl, inr, List, [], ◌∷◌, sym, ◌∙◌, ap, subst, arith}
use Rattle.std.specs.Prelude.{Contains, ◌↔◌}
use Rattle.std.proofs.lemmas.Bool.{cases_eq, cases_lt}
use Rattle.causal_base.specs.declared.event.Event.{Event}
use Rattle.causal_base.specs.declared.kind.Kind.TheVariants.{Unary, Send, Sync}
use Rattle.causal_base.specs.Types.{TypeTable}
use Rattle.causal_base.specs.Event.{Fits, Pairs}
use Rattle.causal_base.specs.Walks.{Succeeds, Step, Reaches}
use Rattle.causal_base.specs.History.{EventBlock, alone, together, events_of, all_events, count_on, IsNextOfTrace, IsReady, IsCausal}
use Rattle.causal_base.proofs.CallerLemmas.{same_id, Contains-cons, Contains-here, Contains-there, Contains-nil, IsNumbered, number_within, event_at, same_event, same_name, fits_no, numbered, reaches_back, reaches_grows, Contains-there_events, reaches_step, reaches_on, Contains-newest, Contains-split, newest_is_next, ReachesSource, newest_reach, goes_by_source, IsLimit, reaches_later}
use Rattle.causal_laws.proofs.Clocks.{count_on-added}

abbrev pub HasLimit : List Event → ℕ → (Event → Type 0) → Type 0
HasLimit events trace Property = (limit : ℕ) × IsLimit events trace Property limit

module _ (events : List Event) (all_numbered : IsNumbered events) (trace : ℕ) where
  limit_none : (P : Event → Type 0) → ((x : Event) → Contains events x → x.id.trace ≡ trace → P x → ⊥) → HasLimit events trace P
  limit_none P none = (
    0,
    record {
      most = omega arith;
      to = λ x inside on few. let least = (number_within events all_numbered x inside).0 in absurd (omega (arith, few, least));
      from = λ x inside on is. absurd (none x inside on is);
    },
  )

  limit_all : (P : Event → Type 0) → ((x : Event) → Contains events x → x.id.trace ≡ trace → P x) → HasLimit events trace P
  limit_all P each = (
    count_on trace events,
    record {
      most = omega arith;
      to = λ x inside on few. each x inside on;
      from = λ x inside on is. subst (λ t. x.id.number ≤ count_on t events) on (number_within events all_numbered x inside).1;
    },
  )

  limit_same : (P Q : Event → Type 0) → ((x : Event) → Contains events x → x.id.trace ≡ trace → P x ↔ Q x) → HasLimit events trace P → HasLimit events trace Q
  limit_same P Q same its = (
    its.0,
    record {
      most = its.1.most;
      to = λ x inside on few. (same x inside on).0 (its.1.to x inside on few);
      from = λ x inside on is. its.1.from x inside on ((same x inside on).1 is);
    },
  )

  limit_either : (P Q : Event → Type 0) → HasLimit events trace P → HasLimit events trace Q → HasLimit events trace (λ x. P x ⊎ Q x)
  limit_either P Q one other = elim (cases_lt one.0 other.0) [
    | inl less ↦ (
      other.0,
      record {
        most = other.1.most;
        to = λ x inside on few. inr (other.1.to x inside on few);
        from = λ x inside on is. elim is [ inl p ↦ (let its = one.1.from x inside on p in omega (arith, its, less)) | inr q ↦ other.1.from x inside on q ];
      },
    )
    | inr more ↦ (
      one.0,
      record {
        most = one.1.most;
        to = λ x inside on few. inl (one.1.to x inside on few);
        from = λ x inside on is. elim is [ inl p ↦ one.1.from x inside on p | inr q ↦ (let its = other.1.from x inside on q in omega (arith, its, more)) ];
      },
    )
  ]

-- an event that fits none of the events, or one
abbrev FitsOne : TypeTable → List Event → Event → Type 0
FitsOne types events w = ((z : Event) → Fits types w z → ⊥) ⊎ ((cause : Event) × Contains events cause × Fits types w cause)

ready_fits_one : (types : TypeTable) (events : List Event) (w : Event) → IsReady types events w → FitsOne types events w
ready_fits_one types events w ready = elim ready [
  | inl unary ↦ inl (λ z fits. fits_no types w z Unary fits unary (λ p. cc) (λ p. cc))
  | inr rest ↦ elim rest
      [ inl send ↦ inl (λ z fits. fits_no types w z Send fits send (λ p. cc) (λ p. cc)) | inr cause ↦ inr cause ]
]

module _ (types : TypeTable) (ds : List EventBlock) (causal : IsCausal types ds) (trace : ℕ) (limits : (e : Event) → Contains (all_events ds) e → HasLimit (all_events ds) trace (λ x. Reaches types (all_events ds) x e)) where
  -- what reaches the event before the next of a trace
  before_next : (w : Event) → IsNextOfTrace (all_events ds) w → HasLimit (all_events ds) trace (λ x. (z : Event) × Contains (all_events ds) z × Reaches types (all_events ds) x z × Succeeds z w)
  before_next w next = elim (cases_lt 0 (count_on w.id.trace (all_events ds))) [
    | inr none ↦ limit_none (all_events ds) (numbered types ds causal) trace _ (λ x inside on source.
        let within = number_within (all_events ds) (numbered types ds causal) source.0 source.1 in
        let few : source.0.id.number ≤ count_on w.id.trace (all_events ds) = subst (λ t. source.0.id.number ≤ count_on t (all_events ds)) (sym source.3.trace) within.1 in
        omega (arith, within.0, few, none))
    | inl some ↦
        let last = event_at (all_events ds) (numbered types ds causal) w.id.trace (count_on w.id.trace (all_events ds)) some (omega arith) in
        let succeeds : Succeeds last.0 w = record { trace = sym last.2; number = next ∙ ap (λ n. n + 1) (sym last.3) } in
        limit_same (all_events ds) (numbered types ds causal) trace (λ x. Reaches types (all_events ds) x last.0) _ (λ x inside on. (
          (λ reaches. (last.0, last.1, reaches, succeeds)),
          (λ source.
              let number : source.0.id.number ≡ last.0.id.number = omega (arith, source.3.number, succeeds.number) in
              let same = same_event (all_events ds) (numbered types ds causal) source.0 last.0 source.1 last.1 (same_id source.0.id last.0.id (sym source.3.trace ∙ sym last.2) number) in
              subst (λ (v : Event). Reaches types (all_events ds) x v) same source.2),
        )) (limits last.0 last.1)
  ]

  -- what reaches the event that one fits
  before_fit : (w : Event) → FitsOne types (all_events ds) w → HasLimit (all_events ds) trace (λ x. (z : Event) × Contains (all_events ds) z × Reaches types (all_events ds) x z × Fits types w z)
  before_fit w one = elim one [
    | inl none ↦ limit_none (all_events ds) (numbered types ds causal) trace _ (λ x inside on source. none source.0 source.3)
    | inr some ↦ limit_same (all_events ds) (numbered types ds causal) trace (λ x. Reaches types (all_events ds) x some.0) _ (λ x inside on. (
      (λ reaches. (some.0, some.1, reaches, some.2)),
      (λ source.
          let same = same_event (all_events ds) (numbered types ds causal) source.0 some.0 source.1 some.1 (same_name w source.0 some.0 source.3.names some.2.names) in
          subst (λ (v : Event). Reaches types (all_events ds) x v) same source.2),
    )) (limits some.0 some.1)
  ]

  -- what reaches a source of the event
  before_one : (w : Event) → IsNextOfTrace (all_events ds) w → FitsOne types (all_events ds) w → HasLimit (all_events ds) trace (λ x. ReachesSource types (all_events ds) w x)
  before_one w next one =
      limit_same (all_events ds) (numbered types ds causal) trace _ _ (λ x inside on. (
        (λ either. elim either
            [ inl source ↦ (source.0, source.1, source.2, inl source.3) | inr source ↦ (source.0, source.1, source.2, inr source.3) ]),
        (λ source. elim source.3
            [ inl succeeds ↦ inl (source.0, source.1, source.2, succeeds) | inr fits ↦ inr (source.0, source.1, source.2, fits) ]),
      )) (limit_either (all_events ds) (numbered types ds causal) trace _ _ (before_next w next) (before_fit w one))

  -- what reaches a source of the newest delivery
  before_newest : (d : EventBlock) → IsCausal types (d ∷ ds) → HasLimit (all_events ds) trace (λ x. (w : Event) × Contains (events_of d) w × ReachesSource types (all_events ds) w x)
  before_newest (alone e) new =
      limit_same (all_events ds) (numbered types ds causal) trace (λ x. ReachesSource types (all_events ds) e x) _ (λ x inside on. (
        (λ source. (e, Contains-here e [], source)),
        (λ some. elim (Contains-cons e [] some.0 some.1)
            [ inl is ↦ subst (λ (v : Event). ReachesSource types (all_events ds) v x) (sym is) some.2 | inr none ↦ absurd (Contains-nil some.0 none) ]),
      )) (before_one e new.0.0 (ready_fits_one types (all_events ds) e new.0.1))
  before_newest (together a b) new =
      limit_same (all_events ds) (numbered types ds causal) trace (λ x. ReachesSource types (all_events ds) a x ⊎ ReachesSource types (all_events ds) b x) _ (λ x inside on. (
        (λ either. elim either
            [ inl source ↦ (a, Contains-there b (a ∷ []) a (Contains-here a []), source) | inr source ↦ (b, Contains-here b (a ∷ []), source) ]),
        (λ some. elim (Contains-cons b (a ∷ []) some.0 some.1) [
          | inl is ↦ inr (subst (λ (v : Event). ReachesSource types (all_events ds) v x) (sym is) some.2)
          | inr rest ↦ elim (Contains-cons a [] some.0 rest)
              [ inl is ↦ inl (subst (λ (v : Event). ReachesSource types (all_events ds) v x) (sym is) some.2) | inr none ↦ absurd (Contains-nil some.0 none) ]
        ]),
      )) (limit_either (all_events ds) (numbered types ds causal) trace _ _
      (before_one a new.0.0 (inl (λ z fits. fits_no types a z Sync fits new.0.2.first (λ p. cc) (λ p. cc))))
      (before_one b new.0.1 (inl (λ z fits. fits_no types b z Sync fits new.0.2.second (λ p. cc) (λ p. cc)))))

-- a delivery has an event on this trace, or none
on_newest : (d : EventBlock) (trace : ℕ) → ((w : Event) × Contains (events_of d) w × (w.id.trace ≡ trace)) ⊎ ((w : Event) → Contains (events_of d) w → w.id.trace ≡ trace → ⊥)
on_newest (alone e) trace = elim (cases_eq e.id.trace trace) [
  | inl is ↦ inl (e, Contains-here e [], is)
  | inr other ↦ inr (λ w inside on. other (elim (Contains-cons e [] w inside)
      [ inl same ↦ ap (λ (v : Event). v.id.trace) same ∙ on | inr none ↦ absurd (Contains-nil w none) ]))
]
on_newest (together a b) trace = elim (cases_eq a.id.trace trace) [
  | inl is ↦ inl (a, Contains-there b (a ∷ []) a (Contains-here a []), is)
  | inr not_a ↦ elim (cases_eq b.id.trace trace) [
    | inl is ↦ inl (b, Contains-here b (a ∷ []), is)
    | inr not_b ↦ inr (λ w inside on. elim (Contains-cons b (a ∷ []) w inside) [
      | inl same ↦ not_b (ap (λ (v : Event). v.id.trace) same ∙ on)
      | inr rest ↦ elim (Contains-cons a [] w rest)
          [ inl same ↦ not_a (ap (λ (v : Event). v.id.trace) same ∙ on) | inr none ↦ absurd (Contains-nil w none) ]
    ])
  ]
]

module _ (types : TypeTable) (d : EventBlock) (ds : List EventBlock) (causal : IsCausal types (d ∷ ds)) (trace : ℕ) where
  most_grows : (limit : ℕ) → limit ≤ count_on trace (all_events ds) → limit ≤ count_on trace (all_events (d ∷ ds))
  most_grows limit most = let grows = count_on-added trace (d ∷ []) ds in omega (arith, most, grows)

  -- an event with a number up to the count of the older ones is one of them
  older_by_number : (x : Event) → Contains (all_events (d ∷ ds)) x → x.id.number ≤ count_on x.id.trace (all_events ds) → Contains (all_events ds) x
  older_by_number x inside few = elim (Contains-split d ds x inside)
      [ inl new ↦ absurd (let next = newest_is_next types d ds causal x new in omega (arith, few, next)) | inr old ↦ old ]

  older_by_limit : (limit : ℕ) → limit ≤ count_on trace (all_events ds) → (x : Event) → Contains (all_events (d ∷ ds)) x → x.id.trace ≡ trace → x.id.number ≤ limit → Contains (all_events ds) x
  older_by_limit limit most x inside on few =
      let most_too : limit ≤ count_on x.id.trace (all_events ds) = subst (λ t. limit ≤ count_on t (all_events ds)) (sym on) most in
      older_by_number x inside (omega (arith, few, most_too))

  -- the newest delivery leaves the limit of an older event
  limit_of_old : (e : Event) → Contains (all_events ds) e → HasLimit (all_events ds) trace (λ x. Reaches types (all_events ds) x e) → HasLimit (all_events (d ∷ ds)) trace (λ x. Reaches types (all_events (d ∷ ds)) x e)
  limit_of_old e old its = (
    its.0,
    record {
      most = most_grows its.0 its.1.most;
      to = λ x inside on few. reaches_grows types d ds x e (its.1.to x (older_by_limit its.0 its.1.most x inside on few) on few);
      from = λ x inside on reaches. let back = reaches_back types d ds causal x e old reaches in its.1.from x back.among on back;
    },
  )

  -- an event of the newest delivery is reached by all that is on its trace
  reaches_newest : (x w : Event) → Contains (all_events (d ∷ ds)) x → Contains (events_of d) w → x.id.trace ≡ w.id.trace → Reaches types (all_events (d ∷ ds)) x w
  reaches_newest x w inside new on = elim (Contains-split d ds x inside) [
    | inl newest ↦ newest_reach types ds d causal x w newest new
    | inr old ↦
        let next = newest_is_next types d ds causal w new in
        let most : x.id.number ≤ count_on w.id.trace (all_events ds) = subst (λ t. x.id.number ≤ count_on t (all_events ds)) on (number_within (all_events ds) (numbered types ds causal.1) x old).1 in
        reaches_later types (all_events (d ∷ ds)) (numbered types (d ∷ ds) causal) x w inside (Contains-newest d ds w new) on (omega (arith, next, most))
  ]

  -- on another trace the limit is that of the sources
  pub limit_of_new : (e : Event) → Contains (events_of d) e → ((w : Event) → Contains (events_of d) w → w.id.trace ≡ trace → ⊥) → (limit : ℕ) → IsLimit (all_events ds) trace (λ x. (w : Event) × Contains (events_of d) w × ReachesSource types (all_events ds) w x) limit → IsLimit (all_events (d ∷ ds)) trace (λ x. Reaches types (all_events (d ∷ ds)) x e) limit
  limit_of_new e new none limit its = record {
    most = most_grows limit its.most;
    to = λ x inside on few.
        let by = its.to x (older_by_limit limit its.most x inside on few) on few in
        let cause : Succeeds by.2.0 by.0 ⊎ (Fits types by.0 by.2.0 ⊎ Pairs types by.2.0 by.0) = elim by.2.3 [ inl succeeds ↦ inl succeeds | inr fits ↦ inr (inl fits) ] in
        let step : Step types (all_events (d ∷ ds)) by.2.0 by.0 = record { from = Contains-there_events d (all_events ds) by.2.0 by.2.1; to = Contains-newest d ds by.0 by.1; cause = cause } in
        reaches_on types (all_events (d ∷ ds)) x by.2.0 e (reaches_grows types d ds x by.2.0 by.2.2)
        (reaches_step types (all_events (d ∷ ds)) by.2.0 by.0 e step (newest_reach types ds d causal by.0 e by.1 new));
    from = λ x inside on reaches. elim (Contains-split d ds x inside) [
      | inl newest ↦ absurd (none x newest on)
      | inr old ↦ its.from x old on (goes_by_source types ds d causal reaches.through x e old new reaches.walk)
    ];
  }

-- each event has a limit of what reaches it, on each trace
pub reach_limit : (types : TypeTable) (ds : List EventBlock) → IsCausal types ds → (trace : ℕ) (e : Event) → Contains (all_events ds) e → HasLimit (all_events ds) trace (λ x. Reaches types (all_events ds) x e)
reach_limit types [] causal trace e inside = absurd (Contains-nil e inside)
reach_limit types (d ∷ ds) causal trace e inside = elim (Contains-split d ds e inside) [
  | inr old ↦ limit_of_old types d ds causal trace e old (reach_limit types ds causal.1 trace e old)
  | inl new ↦ elim (on_newest d trace) [
    | inl some ↦ limit_all (all_events (d ∷ ds)) (numbered types (d ∷ ds) causal) trace _ (λ x there on.
        reaches_on types (all_events (d ∷ ds)) x some.0 e
        (reaches_newest types d ds causal trace x some.0 there some.1 (on ∙ sym some.2))
        (newest_reach types ds d causal some.0 e some.1 new))
    | inr none ↦
        let its = before_newest types ds causal.1 trace (λ v old. reach_limit types ds causal.1 trace v old) d causal in
        (its.0, limit_of_new types d ds causal trace e new none its.0 its.1)
  ]
]
