-- How many events of a trace there are, and how many with one more behind them.
use Rattle.std.proofs.Common.{◌≡◌, ◌≢◌, ◌+◌, ◌≤◌, ℕ, List, [], ◌∷◌, ◌++◌, length, true, false, cond, ap, ◌∙◌, arith, eq-eqb}
use Rattle.std.specs.Prelude.{◌==◌}
use Rattle.std.proofs.lemmas.Bool.{ne_eqb}
use Rattle.std.proofs.lemmas.List.Sums.{sum_by_push, count_by-le-length}
use Rattle.causal_base.specs.declared.event.Event.{Event}
use Rattle.causal_base.specs.History.{count_on}

-- the count grows by one where the event lies on the trace
count_on-push : (trace : ℕ) (events : List Event) (e : Event) → count_on trace (events ++ e ∷ []) ≡ count_on trace events + cond (e.id.trace == trace) 1 0
count_on-push trace events e = sum_by_push (λ (x : Event). cond (x.id.trace == trace) 1 0) events e

pub count_on-push_same : (trace : ℕ) (events : List Event) (e : Event) → e.id.trace ≡ trace → count_on trace (events ++ e ∷ []) ≡ count_on trace events + 1
count_on-push_same trace events e same =
    let yes : (e.id.trace == trace) ≡ true = eq-eqb e.id.trace trace same in
    count_on-push trace events e ∙ ap (λ b. count_on trace events + cond b 1 0) yes

pub count_on-push_other : (trace : ℕ) (events : List Event) (e : Event) → e.id.trace ≢ trace → count_on trace (events ++ e ∷ []) ≡ count_on trace events
count_on-push_other trace events e other =
    let away : (e.id.trace == trace) ≡ false = ne_eqb e.id.trace trace other in
    rw (count_on-push trace events e, away) (omega arith)

-- it never falls
pub count_on-grows_behind : (trace : ℕ) (events : List Event) (e : Event) → count_on trace events ≤ count_on trace (events ++ e ∷ [])
count_on-grows_behind trace events e = let more = count_on-push trace events e in omega (arith, more)

-- it is no more than all events are
pub count_on-le-length : (trace : ℕ) (events : List Event) → count_on trace events ≤ length events
count_on-le-length trace events = count_by-le-length (λ (x : Event). x.id.trace == trace) events
