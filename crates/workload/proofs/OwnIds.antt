-- The events have ids of their own, since each has the next number of its trace.
use Rattle.std.proofs.Common.{◌≢◌, ◌-◌, ◌≤◌, ℕ, inl, inr, List, [], ◌∷◌, ◌++◌, length, get_or, None, Some, refl, subst, append_assoc, arith}
use Rattle.std.specs.Prelude.{AllPairs, Contains}
use Rattle.std.proofs.lemmas.List.Elements.{Contains-get_or, Contains-push_cases}
use Rattle.std.proofs.lemmas.List.Quantifiers.{all_pairs_push}
use Rattle.causal_base.specs.declared.event.Event.{Event}
use Rattle.causal_base.specs.declared.event_id.EventId.{EventId}
use Rattle.causal_base.specs.History.{count_on, IsNextOfTrace}
use Rattle.causal_base.proofs.CallerLemmas.{Contains-nil}
use Rattle.workload.specs.Workload.{unary, send, receive, sync, next_id, next_event, step, workload}
use Rattle.workload.proofs.Counts.{count_on-push_same, count_on-grows_behind}
use Rattle.workload.proofs.Steps.{step_is, made_keeps}

-- No number is greater than the count of its trace, and no two ids are one.
pub record HasOwnIds (events : List Event) : Type 0 where
  pub within : (e : Event) → Contains events e → e.id.number ≤ count_on e.id.trace events
  pub own : AllPairs (λ a b. a.id ≢ b.id) events

-- an event that is the next of its trace has an id of its own
push_has_own_ids : (events : List Event) (e : Event) → IsNextOfTrace events e → HasOwnIds events → HasOwnIds (events ++ e ∷ [])
push_has_own_ids events e next ids = record {
  within = λ x inside. elim (Contains-push_cases events e x inside) [
    | inl before ↦ let grows = count_on-grows_behind x.id.trace events e in omega (arith, grows, ids.within x before)
    | inr is ↦ subst (λ (y : Event). y.id.number ≤ count_on y.id.trace (events ++ e ∷ [])) is
        (let more = count_on-push_same e.id.trace events e refl in omega (arith, more, next))
  ];
  own = all_pairs_push (λ a b. a.id ≢ b.id) events e ids.own (λ k d inside same.
      let x = get_or events k d in
      let within : e.id.number ≤ count_on e.id.trace events = subst (λ (id : EventId). id.number ≤ count_on id.trace events) same (ids.within x (Contains-get_or events k d inside)) in
      omega (arith, within, next));
}

-- what a step adds is the next of its trace
step_has_own_ids : (events : List Event) (left p choice q : ℕ) → HasOwnIds events → HasOwnIds (events ++ step events left p choice q)
step_has_own_ids events left p choice q ids = step_is (λ added. HasOwnIds (events ++ added)) events left p q
    (push_has_own_ids events (next_event events p unary None) refl ids)
    (push_has_own_ids events (next_event events p send None) refl ids)
    (λ id is. push_has_own_ids events (next_event events p receive (Some id)) refl ids)
    (λ apart two.
    let first = next_event events p sync (Some (next_id events q)) in
    let second = next_event (events ++ first ∷ []) q sync (Some first.id) in
    subst HasOwnIds (append_assoc events (first ∷ []) (second ∷ [])) (push_has_own_ids (events ++ first ∷ []) second refl (push_has_own_ids events first refl ids)))
    choice

-- so all events have ids of their own
pub workload_has_own_ids : (n start traces : ℕ) → AllPairs (λ a b. a.id ≢ b.id) (workload n start traces)
workload_has_own_ids n start traces =
    let ids = made_keeps HasOwnIds n traces (λ events p choice q few first second. step_has_own_ids events (n - length events) p choice q) n [] start (record {
      within = λ e inside. absurd (Contains-nil e inside);
      own = λ i j d below inside. absurd (omega arith);
    }) in
    ids.own
