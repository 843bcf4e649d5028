-- The events can be delivered in causal order: what a step adds is a delivery behind what it needs.
use Rattle.std.proofs.Common.{◌≡◌, ◌+◌, ◌-◌, ◌<◌, ℕ, inl, inr, List, [], ◌∷◌, ◌++◌, length, cond, None, Some, refl, sym, ◌∙◌, ap, subst, arith}
use Rattle.std.specs.Prelude.{Contains, ◌==◌}
use Rattle.std.proofs.lemmas.Bool.{cases_lt}
use Rattle.std.proofs.lemmas.List.Elements.{Contains-append_left, Contains-append_right, Contains-append_cases}
use Rattle.std.proofs.lemmas.List.Sums.{sum_by-append}
use Rattle.causal_base.specs.declared.event.Event.{Event}
use Rattle.causal_base.specs.Types.{builtin_types, kind_of, mate_of}
use Rattle.causal_base.specs.Event.{Pairs}
use Rattle.causal_base.specs.History.{EventBlock, alone, together, all_events, count_on, IsCausal, IsNextOfTrace, IsReady}
use Rattle.causal_base.proofs.CallerLemmas.{Contains-cons, Contains-here, Contains-there, Contains-one, count_by-cons, make_id, pairs_swapped}
use Rattle.workload.specs.Workload.{unary, send, receive, sync, next_id, next_event, step, workload}
use Rattle.workload.proofs.Counts.{count_on-push_other}
use Rattle.workload.proofs.LastSends.{last_send-member}
use Rattle.workload.proofs.Steps.{step_is, made_keeps}

module _ (traces : ℕ) where
  -- These events, and no others, are delivered by a causal history.
  pub record AreDelivered (events : List Event) : Type 0 where
    pub history : List EventBlock
    pub causal : IsCausal (builtin_types traces) history
    pub forth : (e : Event) → Contains (all_events history) e → Contains events e
    pub back : (e : Event) → Contains events e → Contains (all_events history) e
    pub counts : (trace : ℕ) → count_on trace (all_events history) ≡ count_on trace events

  -- how the count of a trace grows with one event, or two, behind the others or in front of them
  count_on-behind : (trace : ℕ) (events added : List Event) → count_on trace (events ++ added) ≡ count_on trace events + count_on trace added
  count_on-behind trace events added = sum_by-append (λ (e : Event). cond (e.id.trace == trace) 1 0) events added

  count_on-cons : (trace : ℕ) (e : Event) (events : List Event) → count_on trace (e ∷ events) ≡ cond (e.id.trace == trace) 1 0 + count_on trace events
  count_on-cons trace e events = count_by-cons (λ (x : Event). x.id.trace == trace) e events

  -- an event that is ready is delivered alone
  delivered_alone : (events : List Event) (e : Event) → IsNextOfTrace events e → IsReady (builtin_types traces) events e → AreDelivered events → AreDelivered (events ++ e ∷ [])
  delivered_alone events e next ready are =
      let past = all_events are.history in
      record {
        history = alone e ∷ are.history;
        causal = (
          (
            next ∙ ap (λ n. n + 1) (sym (are.counts e.id.trace)),
            elim ready [
              | inl unary ↦ inl unary
              | inr others ↦ elim others [
                | inl sends ↦ inr (inl sends)
                | inr cause ↦ inr (inr (cause.0, are.back cause.0 cause.1, cause.2))
              ]
            ],
          ),
          are.causal,
        );
        forth = λ x inside. elim (Contains-cons e past x inside) [
          | inl is ↦ Contains-append_right events (e ∷ []) x (subst (Contains (e ∷ [])) is (Contains-here e []))
          | inr before ↦ Contains-append_left events (e ∷ []) x (are.forth x before)
        ];
        back = λ x inside. elim (Contains-append_cases events (e ∷ []) x inside) [
          | inl before ↦ Contains-there e past x (are.back x before)
          | inr added ↦ subst (Contains (e ∷ past)) (Contains-one e x added) (Contains-here e past)
        ];
        counts = λ trace.
            let one = count_on-cons trace e past in
            let behind = count_on-behind trace events (e ∷ []) in
            let itself = count_on-cons trace e [] in
            omega (arith, one, behind, itself, are.counts trace);
      }

  -- partners are delivered together, the one of the lower trace first
  delivered_together : (events : List Event) (a b : Event) → a.id.trace < b.id.trace → IsNextOfTrace events a → IsNextOfTrace events b → Pairs (builtin_types traces) a b → AreDelivered events → AreDelivered (events ++ a ∷ b ∷ [])
  delivered_together events a b lower next_a next_b pairs are =
      let past = all_events are.history in
      record {
        history = together a b ∷ are.history;
        causal = ((next_a ∙ ap (λ n. n + 1) (sym (are.counts a.id.trace)), next_b ∙ ap (λ n. n + 1) (sym (are.counts b.id.trace)), pairs, lower), are.causal);
        forth = λ x inside. elim (Contains-cons b (a ∷ past) x inside) [
          | inl is ↦ Contains-append_right events (a ∷ b ∷ []) x (subst (Contains (a ∷ b ∷ [])) is (Contains-there a (b ∷ []) b (Contains-here b [])))
          | inr rest ↦ elim (Contains-cons a past x rest) [
            | inl is ↦ Contains-append_right events (a ∷ b ∷ []) x (subst (Contains (a ∷ b ∷ [])) is (Contains-here a (b ∷ [])))
            | inr before ↦ Contains-append_left events (a ∷ b ∷ []) x (are.forth x before)
          ]
        ];
        back = λ x inside. elim (Contains-append_cases events (a ∷ b ∷ []) x inside) [
          | inl before ↦ Contains-there b (a ∷ past) x (Contains-there a past x (are.back x before))
          | inr added ↦ elim (Contains-cons a (b ∷ []) x added) [
            | inl is ↦ subst (Contains (b ∷ a ∷ past)) is (Contains-there b (a ∷ past) a (Contains-here a past))
            | inr rest ↦ subst (Contains (b ∷ a ∷ past)) (Contains-one b x rest) (Contains-here b (a ∷ past))
          ]
        ];
        counts = λ trace.
            let one = count_on-cons trace b (a ∷ past) in
            let other = count_on-cons trace a past in
            let behind = count_on-behind trace events (a ∷ b ∷ []) in
            let first = count_on-cons trace a (b ∷ []) in
            let second = count_on-cons trace b [] in
            omega (arith, one, other, behind, first, second, are.counts trace);
      }

  -- two events are the same two in the other order
  swapped : (a b x : Event) → Contains (a ∷ b ∷ []) x → Contains (b ∷ a ∷ []) x
  swapped a b x inside = elim (Contains-cons a (b ∷ []) x inside) [
    | inl is ↦ Contains-there b (a ∷ []) x (subst (Contains (a ∷ [])) is (Contains-here a []))
    | inr rest ↦ subst (Contains (b ∷ a ∷ [])) (Contains-one b x rest) (Contains-here b (a ∷ []))
  ]

  -- in which order two events stand in the list makes no difference
  delivered_either_way : (events : List Event) (a b : Event) → AreDelivered (events ++ a ∷ b ∷ []) → AreDelivered (events ++ b ∷ a ∷ [])
  delivered_either_way events a b are = record {
    history = are.history;
    causal = are.causal;
    forth = λ x inside. elim (Contains-append_cases events (a ∷ b ∷ []) x (are.forth x inside)) [
      | inl before ↦ Contains-append_left events (b ∷ a ∷ []) x before
      | inr added ↦ Contains-append_right events (b ∷ a ∷ []) x (swapped a b x added)
    ];
    back = λ x inside. are.back x (elim (Contains-append_cases events (b ∷ a ∷ []) x inside) [
      | inl before ↦ Contains-append_left events (a ∷ b ∷ []) x before
      | inr added ↦ Contains-append_right events (a ∷ b ∷ []) x (swapped b a x added)
    ]);
    counts = λ trace.
        let one_way = count_on-behind trace events (a ∷ b ∷ []) in
        let other_way = count_on-behind trace events (b ∷ a ∷ []) in
        let a_first = count_on-cons trace a (b ∷ []) in
        let b_second = count_on-cons trace b [] in
        let b_first = count_on-cons trace b (a ∷ []) in
        let a_second = count_on-cons trace a [] in
        omega (arith, one_way, other_way, a_first, b_second, b_first, a_second, are.counts trace);
  }

  -- so partners are delivered, whichever has the lower trace
  delivered_pair : (events : List Event) (a b : Event) → IsNextOfTrace events a → IsNextOfTrace events b → Pairs (builtin_types traces) a b → AreDelivered events → AreDelivered (events ++ a ∷ b ∷ [])
  delivered_pair events a b next_a next_b pairs are = elim (cases_lt a.id.trace b.id.trace) [
    | inl lower ↦ delivered_together events a b lower next_a next_b pairs are
    | inr higher ↦
        let apart = pairs.traces in
        let lower : b.id.trace < a.id.trace = omega arith in
        delivered_either_way events b a (delivered_together events b a lower next_b next_a (pairs_swapped (builtin_types traces) a b pairs) are)
  ]

  -- what a step adds is delivered behind the events before it
  step_is_delivered : (events : List Event) (left p choice q : ℕ) → AreDelivered events → AreDelivered (events ++ step events left p choice q)
  step_is_delivered events left p choice q are = step_is (λ added. AreDelivered (events ++ added)) events left p q
      (delivered_alone events (next_event events p unary None) refl (inl refl) are)
      (delivered_alone events (next_event events p send None) refl (inr (inl refl)) are)
      (λ id is.
      let cause = last_send-member events q id is in
      let e = next_event events p receive (Some id) in
      delivered_alone events e refl (inr (inr (
        cause.0,
        cause.1,
        record {
          names = ap Some (sym cause.2);
          kinds = inl (record {
            receives = refl;
            sends = ap (kind_of (builtin_types traces)) cause.3;
            mates = record { forth = ap Some (sym cause.3); back = ap (mate_of (builtin_types traces)) cause.3 };
          });
        },
      ))) are)
      (λ apart two.
      let first = next_event events p sync (Some (next_id events q)) in
      let second = next_event (events ++ first ∷ []) q sync (Some first.id) in
      let as_many : count_on q (events ++ first ∷ []) ≡ count_on q events = count_on-push_other q events first apart in
      delivered_pair events first second refl (ap (λ n. n + 1) as_many) (record {
        traces = apart;
        forth = ap (λ n. Some (make_id q (n + 1))) (sym as_many);
        back = refl;
        first = refl;
        second = refl;
        mates = record { forth = refl; back = refl };
      }) are)
      choice

  -- so the whole list is
  pub workload_is_delivered : (n start : ℕ) → AreDelivered (workload n start traces)
  workload_is_delivered n start = made_keeps AreDelivered n traces (λ events p choice q few first second. step_is_delivered events (n - length events) p choice q) n [] start (record {
    history = [];
    causal = tt;
    forth = λ e inside. inside;
    back = λ e inside. inside;
    counts = λ trace. refl;
  })
