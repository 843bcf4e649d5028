-- What the last send of a trace is.
use Rattle.std.proofs.Common.{◌≡◌, ◌≢◌, ◌-◌, ◌<◌, ℕ, Bool, true, false, cond, List, [], ◌∷◌, ◌++◌, length, reverse, Some, refl, ap, sym, ◌∙◌, arith, eq-eqb}
use Rattle.std.specs.Prelude.{◌==◌, ◌&&◌, find, Contains}
use Rattle.std.specs.Option.{option_map}
use Rattle.std.proofs.lemmas.Bool.{ne_eqb}
use Rattle.std.proofs.lemmas.Bool.Decides.{nat_tests}
use Rattle.std.proofs.lemmas.List.{length-reverse, get_or-reverse, reverse-append}
use Rattle.causal_base.specs.declared.event.Event.{Event}
use Rattle.causal_base.specs.declared.event_id.EventId.{EventId}
use Rattle.causal_base.proofs.CallerLemmas.{Contains-here, Contains-there}
use Rattle.workload.specs.Workload.{last_send, send}

-- whether an event is a send of this trace
abbrev sends_on : ℕ → Event → Bool
sends_on trace e = (e.id.trace == trace) && (e.type_no == send)

-- the event itself is the last send where it is one, and else what was before it
last_send-push : (trace : ℕ) (events : List Event) (e : Event) → last_send (events ++ e ∷ []) trace ≡ option_map (λ x. x.id) (cond (sends_on trace e) (Some e) (find (sends_on trace) (reverse events)))
last_send-push trace events e = ap (λ es. option_map (λ (x : Event). x.id) (find (sends_on trace) es)) (reverse-append events (e ∷ []))

-- a send is the last one of its trace
pub last_send-push_send : (events : List Event) (e : Event) → e.type_no ≡ send → last_send (events ++ e ∷ []) e.id.trace ≡ Some e.id
last_send-push_send events e sends =
    let trace = e.id.trace in
    let own : (trace == trace) ≡ true = eq-eqb trace trace refl in
    let type_too : (e.type_no == send) ≡ true = eq-eqb e.type_no send sends in
    let it_sends : sends_on trace e ≡ true = ap (λ b. b && (e.type_no == send)) own ∙ type_too in
    last_send-push trace events e ∙ ap (λ b. option_map (λ (x : Event). x.id) (cond b (Some e) (find (sends_on trace) (reverse events)))) it_sends

-- what is no send of the trace changes nothing for it
other_behind : (trace : ℕ) (events : List Event) (e : Event) → sends_on trace e ≡ false → last_send (events ++ e ∷ []) trace ≡ last_send events trace
other_behind trace events e other =
    last_send-push trace events e ∙ ap (λ b. option_map (λ (x : Event). x.id) (cond b (Some e) (find (sends_on trace) (reverse events)))) other

-- false on the right fails any test
and_false : (b : Bool) → (b && false) ≡ false
and_false true = refl
and_false false = refl

-- what is no send changes no last send
pub last_send-push_other_type : (trace : ℕ) (events : List Event) (e : Event) → e.type_no ≢ send → last_send (events ++ e ∷ []) trace ≡ last_send events trace
last_send-push_other_type trace events e other =
    let no_send : (e.type_no == send) ≡ false = ne_eqb e.type_no send other in
    other_behind trace events e (ap (λ b. (e.id.trace == trace) && b) no_send ∙ and_false (e.id.trace == trace))

-- nor does an event of another trace
pub last_send-push_other_trace : (trace : ℕ) (events : List Event) (e : Event) → e.id.trace ≢ trace → last_send (events ++ e ∷ []) trace ≡ last_send events trace
last_send-push_other_trace trace events e other =
    let away : (e.id.trace == trace) ≡ false = ne_eqb e.id.trace trace other in
    other_behind trace events e (ap (λ b. b && (e.type_no == send)) away)

-- the members of a list that is turned round are those of the list
Contains-reverse : (events : List Event) (e : Event) → Contains (reverse events) e → Contains events e
Contains-reverse events e h =
    let inside : h.0 < length events = rw length-reverse at h.1 in
    (length events - 1 - h.0, omega arith, sym (get_or-reverse events h.0 e inside) ∙ h.2)

-- the first send of a trace that a list has is one of its members
sent_in : (trace : ℕ) (events : List Event) (id : EventId) → option_map (λ x. x.id) (find (sends_on trace) events) ≡ Some id → (e : Event) × Contains events e × (e.id ≡ id) × (e.type_no ≡ send)
sent_in trace [] id found = absurd cc
sent_in trace (x ∷ events) id found =
    elim (sends_on trace x) as (λ b. sends_on trace x ≡ b → option_map (λ (y : Event). y.id) (cond b (Some x) (find (sends_on trace) events)) ≡ Some id
    → (e : Event) × Contains (x ∷ events) e × (e.id ≡ id) × (e.type_no ≡ send)) [
      | true ↦ λ is here. (x, Contains-here x events, cc, grind (arith, nat_tests))
      | false ↦ λ is later. let e = sent_in trace events id later in (e.0, Contains-there x events e.0 e.1, e.2, e.3)
    ] refl found

-- the last send of a trace is one of the events
pub last_send-member : (events : List Event) (trace : ℕ) (id : EventId) → last_send events trace ≡ Some id → (e : Event) × Contains events e × (e.id ≡ id) × (e.type_no ≡ send)
last_send-member events trace id found =
    let e = sent_in trace (reverse events) id found in
    (e.0, Contains-reverse events e.0 e.1, e.2, e.3)
