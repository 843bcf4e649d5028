-- What is kept of each trace when one more event stands behind the others.
use Rattle.std.proofs.Common.{◌≡◌, ◌≢◌, ◌+◌, ◌<◌, ℕ, inl, inr, List, [], ◌∷◌, ◌++◌, length, get_or, set, length-set, Option, Some, refl, sym, ◌∙◌, ap, arith}
use Rattle.std.proofs.lemmas.Bool.{cases_eq}
use Rattle.std.proofs.lemmas.List.{get_or-set_same, get_or-set_other}
use Rattle.causal_base.specs.declared.event.Event.{Event}
use Rattle.causal_base.specs.declared.event_id.EventId.{EventId}
use Rattle.causal_base.specs.History.{count_on}
use Rattle.workload.specs.Kept.{AreKept}
use Rattle.workload.specs.Workload.{last_send, send}
use Rattle.workload.proofs.Counts.{count_on-push_same, count_on-push_other}
use Rattle.workload.proofs.LastSends.{last_send-push_send, last_send-push_other_type, last_send-push_other_trace}

module _ (events : List Event) (counts : List ℕ) (sends : List (Option EventId)) (kept : AreKept events counts sends)
    (e : Event) (within : e.id.trace < length counts) (next : e.id.number ≡ count_on e.id.trace events + 1) where
  -- the number of the event is the count of its trace then
  counted_after : (trace : ℕ) → trace < length (set counts e.id.trace e.id.number) → get_or (set counts e.id.trace e.id.number) trace 0 ≡ count_on trace (events ++ e ∷ [])
  counted_after trace inside = elim (cases_eq trace e.id.trace) [
    | inl here ↦
        ap (λ t. get_or (set counts e.id.trace e.id.number) t 0) here
        ∙ (get_or-set_same counts e.id.trace e.id.number 0 within
        ∙ (next ∙ (sym (count_on-push_same e.id.trace events e refl) ∙ ap (λ t. count_on t (events ++ e ∷ [])) (sym here))))
    | inr away ↦
        let was : trace < length counts = rw length-set at inside in
        get_or-set_other counts e.id.trace trace e.id.number 0 away
        ∙ (kept.counted trace was ∙ sym (count_on-push_other trace events e (λ same. away (sym same))))
  ]

  -- a send is kept as the last one of its trace
  pub kept_send : e.type_no ≡ send → AreKept (events ++ e ∷ []) (set counts e.id.trace e.id.number) (set sends e.id.trace (Some e.id))
  kept_send is_send = record {
    traces = simp length-set kept.traces;
    counted = counted_after;
    sent = λ trace default inside. elim (cases_eq trace e.id.trace) [
      | inl here ↦
          ap (λ t. get_or (set sends e.id.trace (Some e.id)) t default) here
          ∙ (get_or-set_same sends e.id.trace (Some e.id) default (omega (arith, kept.traces, within))
          ∙ (sym (last_send-push_send events e is_send) ∙ ap (λ t. last_send (events ++ e ∷ []) t) (sym here)))
      | inr away ↦
          let was : trace < length sends = rw length-set at inside in
          get_or-set_other sends e.id.trace trace (Some e.id) default away
          ∙ (kept.sent trace default was ∙ sym (last_send-push_other_trace trace events e (λ same. away (sym same))))
    ];
  }

  -- after any other event the last sends are as before
  pub kept_other : e.type_no ≢ send → AreKept (events ++ e ∷ []) (set counts e.id.trace e.id.number) sends
  kept_other is_other = record {
    traces = simp length-set kept.traces;
    counted = counted_after;
    sent = λ trace default inside. kept.sent trace default inside ∙ sym (last_send-push_other_type trace events e is_other);
  }
