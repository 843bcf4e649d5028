use Rattle.std.proofs.Common.{◌≡◌, ℕ, sym, ◌∙◌, ap, arith, true, List, rules}
use Rattle.std.specs.Prelude.{Contains, Some}
use Rattle.causal_base.specs.declared.event.Event.{Event}
use Rattle.causal_base.specs.declared.event_id.EventId.{EventId}
use Rattle.causal_base.specs.Past.{is_same_id, event_of}
use Rattle.causal_base.proofs.Members.{find-member, find-only}

-- the id of this trace and number
abbrev pub make_id : ℕ → ℕ → EventId
make_id trace number = record { trace = trace; number = number }

-- ids with the same trace and number are one
pub same_id : (a b : EventId) → a.trace ≡ b.trace → a.number ≡ b.number → a ≡ b
same_id a b trace number = ap (λ t. make_id t a.number) trace ∙ ap (make_id b.trace) number

pub is_same_id-same : (a : EventId) → is_same_id a a ≡ true
is_same_id-same a = search rules

pub same_from_is_same_id : (a b : EventId) → is_same_id a b ≡ true → a ≡ b
same_from_is_same_id a b is = same_id a b (grind arith) (grind arith)

-- the event that is found by an id has it
pub event_of-member : (events : List Event) (id : EventId) (e : Event) → event_of events id ≡ Some e → Contains events e × (e.id ≡ id)
event_of-member events id e found =
    let h = find-member (λ x. is_same_id id x.id) events e found in
    (h.0, sym (same_from_is_same_id id e.id h.1))

-- where ids differ, a member is found by its id
pub event_of-only : (events : List Event) (e : Event) → Contains events e → ((x : Event) → Contains events x → x.id ≡ e.id → x ≡ e) → event_of events e.id ≡ Some e
event_of-only events e there only =
    find-only (λ x. is_same_id e.id x.id) events e there (is_same_id-same e.id) (λ y inside it. only y inside (sym (same_from_is_same_id e.id y.id it)))
