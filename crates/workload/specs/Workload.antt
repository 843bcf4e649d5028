-- A list of events that is made step by step from a number.
use Rattle.std.specs.Prelude.{ℕ, zero, suc, ◌+◌, ◌-◌, ◌*◌, ◌%◌, ◌==◌, ◌&&◌, ◌||◌, nat_le, cond, List, [], ◌∷◌, ◌++◌, length, reverse, find, Option, None, Some}
use Rattle.std.specs.Option.{option_map}
use Rattle.causal_base.specs.declared.event.Event.{Event}
use Rattle.causal_base.specs.declared.event_id.EventId.{EventId}
use Rattle.causal_base.specs.History.{count_on}

-- a draw replaces the number by the rest of this division
abbrev pub drawn : ℕ → ℕ
drawn x = (75 * x + 74) % 65537

-- the numbers of the built-in types: unary events, sends, receives and syncs
abbrev pub unary : ℕ
unary = 0

abbrev pub send : ℕ
send = 1

abbrev pub receive : ℕ
receive = 2

abbrev pub sync : ℕ
sync = 3

-- the next id of a trace, behind these events
abbrev pub next_id : List Event → ℕ → EventId
next_id events trace = record { trace = trace; number = count_on trace events + 1 }

-- the next event of a trace, behind these events: its time is its place, and its text is empty
abbrev pub next_event : List Event → (trace type_no : ℕ) → Option EventId → Event
next_event events trace type_no mate = record {
  id = next_id events trace;
  type_no = type_no;
  mate = mate;
  time = length events;
  text = [];
}

-- the last send of a trace, where it has one
abbrev pub last_send : List Event → ℕ → Option EventId
last_send events trace = option_map (λ e. e.id)
    (find (λ e. (e.id.trace == trace) && (e.type_no == send)) (reverse events))

-- one event of a trace that names no other
abbrev pub one : List Event → (trace type_no : ℕ) → List Event
one events trace type_no = next_event events trace type_no None ∷ []

-- a receive of this send, and a unary event where there is none
abbrev pub received : List Event → (trace : ℕ) → Option EventId → List Event
received events trace None = one events trace unary
received events trace (Some id) = next_event events trace receive (Some id) ∷ []

-- a pair, of which each names the other
abbrev pub paired : List Event → (first second : ℕ) → List Event
paired events first second =
    let a : Event = next_event events first sync (Some (next_id events second)) in
    a ∷ next_event (events ++ a ∷ []) second sync (Some a.id) ∷ []

-- What a step adds behind these events, where so many are still to be made, for its three draws: a
-- trace p, a choice, and a trace q. The choice 1 is a send of p, 2 a receive of the last send of q,
-- 3 a pair of p and q where they differ and two events are still to be made, and all else a unary
-- event of p.
abbrev pub step : List Event → (left p choice q : ℕ) → List Event
step events left p choice q =
    cond (choice == 1) (one events p send)
    (cond (choice == 2) (received events p (last_send events q))
    (cond (choice == 3)
    (cond ((p == q) || nat_le left 1) (one events p unary) (paired events p q))
    (one events p unary)))

-- at most so many steps, until there are n events
abbrev pub made : (steps n traces : ℕ) → List Event → (x : ℕ) → List Event
made zero n traces events x = events
made (suc steps) n traces events x = cond (nat_le n (length events)) events
    (made steps n traces
    (events ++ step events (n - length events) (drawn x % traces) (drawn (drawn x) % 4)
    (drawn (drawn (drawn x)) % traces))
    (drawn (drawn (drawn x))))

-- The list of n events that is made from a number: each step adds at least one, so n steps are
-- enough.
abbrev pub workload : (n start traces : ℕ) → List Event
workload n start traces = made n n traces [] start
