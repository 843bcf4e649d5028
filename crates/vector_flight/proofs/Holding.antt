-- All clocks have as many numbers as there are traces.
use Rattle.std.proofs.Common.{◌≡◌, ◌<◌, ℕ, ◌⊎◌, inl, inr, List, ◌∷◌, ◌++◌, length, refl, sym, ◌∙◌, ap, subst, arith, Bool, Option, None, Some, get_or, set, take, drop, length-set}
use Rattle.std.specs.Prelude.{Contains}
use Rattle.std.proofs.Math.Seq.{take-append_seam}
use Rattle.std.proofs.lemmas.List.{get_or-set_same}
use Rattle.std.proofs.lemmas.List.Elements.{All-set}
use Rattle.std.specs.Option.{option_map}
use Rattle.causal_base.specs.declared.event.Event.{Event}
use Rattle.causal_base.specs.Types.{TypeTable}
use Rattle.causal_base.specs.Clocks.{HasClocks}
use Rattle.causal_base.specs.History.{EventBlock, events_of, all_events, IsCausal}
use Rattle.causal_base.specs.declared.event_id.EventId.{EventId}
use Rattle.vector_flight.specs.Flights.{InFlight, NextClock, IsOfTraces, IsFlightOf, IsAheadOf, block_of}
use Rattle.vector_flight.specs.Held.{AreOf, AreHeld, HasNoMore, with_newest}
use Rattle.vector_flight.proofs.Keeping.{KeepsFirst, length-with_newest}

-- a list that was written over as a slice is what was written
pub rewritten : (len : ℕ) (old read new : List (List ℕ)) → len ≡ length old → read ≡ old → length new ≡ length read → take len (new ++ drop (length new) old) ≡ new
rewritten len old read new many is same =
    let as_many : length new ≡ len = same ∙ (ap (λ (xs : List (List ℕ)). length xs) is ∙ sym many) in
    subst (λ n. take n (new ++ drop (length new) old) ≡ new) as_many (take-append_seam new (drop (length new) old))

with_newest_each : (traces : ℕ) (newest : List (List ℕ)) (first : EventId) (second : Option EventId) (clock : List ℕ) → length clock ≡ traces → AreOf traces newest → AreOf traces (with_newest newest first second clock)
with_newest_each traces newest first None clock as_many each = All-set (λ (c : List ℕ). length c ≡ traces) newest first.trace clock as_many each
with_newest_each traces newest first (Some second) clock as_many each =
    All-set (λ (c : List ℕ). length c ≡ traces) (set newest second.trace clock) first.trace clock as_many (All-set (λ (c : List ℕ). length c ≡ traces) newest second.trace clock as_many each)

-- after a clock was kept
pub held_kept : (old new : List (List ℕ)) (sends sends_new : List (EventId × Option (List ℕ))) (spent spent_new : List (List ℕ)) (ahead : NextClock) → AreHeld old sends spent → IsOfTraces (length old) ahead → new ≡ with_newest old ahead.first ahead.second ahead.clock → KeepsFirst sends sends_new ahead → AreOf (length old) spent_new → AreHeld new sends_new spent_new
held_kept old new sends sends_new spent spent_new ahead held among replaced keeps spent_each =
    let same : length old ≡ length new = sym (ap (λ (clocks : List (List ℕ)). length clocks) replaced ∙ length-with_newest old ahead.first ahead.second ahead.clock) in
    record {
      few = omega (arith, held.few, same);
      newest_each = subst (λ n. AreOf n new) same (subst (λ (clocks : List (List ℕ)). AreOf (length old) clocks) (sym replaced) (with_newest_each (length old) old ahead.first ahead.second ahead.clock among.as_many held.newest_each));
      sent_each = λ id clock there. elim (keeps id clock there) [
        | inl before ↦ held.sent_each id clock before ∙ same
        | inr first ↦ ap (λ (c : List ℕ). length c) first.1 ∙ (among.as_many ∙ same)
      ];
      spent_each = subst (λ n. AreOf n spent_new) same spent_each;
    }

-- the first trace has the clock then
read_first : (newest : List (List ℕ)) (first : EventId) (second : Option EventId) (clock d : List ℕ) → first.trace < length newest → get_or (with_newest newest first second clock) first.trace d ≡ clock
read_first newest first None clock d within = get_or-set_same newest first.trace clock d within
read_first newest first (Some second) clock d within = get_or-set_same (set newest second.trace clock) first.trace clock d (omega (arith, within, length-set newest second.trace clock))

module _ (len : ℕ) (old read new : List (List ℕ)) (ahead : NextClock) (many : len ≡ length old) (is : read ≡ old) (same : length new ≡ length read) (replaced : new ≡ with_newest read ahead.first ahead.second ahead.clock) where
  -- the clocks as they were written
  pub as_replaced : take len (new ++ drop (length new) old) ≡ with_newest old ahead.first ahead.second ahead.clock
  as_replaced = rewritten len old read new many is same ∙ (replaced ∙ ap (λ (clocks : List (List ℕ)). with_newest clocks ahead.first ahead.second ahead.clock) is)

  -- and that of the first trace as it is read
  pub read_is : IsOfTraces (length old) ahead → (result : List ℕ) → result ≡ get_or (take len (new ++ drop (length new) old)) ahead.first.trace result → result ≡ ahead.clock
  read_is among result at = at ∙ (ap (λ (clocks : List (List ℕ)). get_or clocks ahead.first.trace result) as_replaced ∙ read_first old ahead.first ahead.second ahead.clock result among.first_on)

-- the clock of the first event is the one that was read
pub keeps_first : (old new : List (EventId × Option (List ℕ))) (ahead : NextClock) (result : List ℕ) → result ≡ ahead.clock → ((key : EventId) (other : List ℕ) → Contains new (key, Some other) → Contains old (key, Some other) ⊎ ((key ≡ ahead.first) × (other ≡ result))) → KeepsFirst old new ahead
keeps_first old new ahead result is keeps key other there = elim (keeps key other there) [ inl before ↦ inl before | inr first ↦ inr (first.0, first.1 ∙ is) ]

-- clocks of as many numbers as that one
pub each_of : (traces : ℕ) (ahead : NextClock) (result : List ℕ) (spent spent_new : List (List ℕ)) → result ≡ ahead.clock → length ahead.clock ≡ traces → AreOf traces spent → (AreOf (length result) spent → AreOf (length result) spent_new) → AreOf traces spent_new
each_of traces ahead result spent spent_new is as_many each keeps =
    let same : length result ≡ traces = ap (λ (c : List ℕ). length c) is ∙ as_many in
    subst (λ n. AreOf n spent_new) same (keeps (subst (λ n. AreOf n spent) (sym same) each))

-- fewer clocks of sends
pub held_fewer : (newest : List (List ℕ)) (sends sends_new : List (EventId × Option (List ℕ))) (spent spent_new : List (List ℕ)) → AreHeld newest sends spent → HasNoMore sends sends_new → AreOf (length newest) spent_new → AreHeld newest sends_new spent_new
held_fewer newest sends sends_new spent spent_new held no_more spent_each = record {
  few = held.few;
  newest_each = held.newest_each;
  sent_each = λ id clock there. held.sent_each id clock (no_more id clock there);
  spent_each = spent_each;
}

pub flight_fewer : (types : TypeTable) (history : List EventBlock) (flight : InFlight) (sends_new : List (EventId × Option (List ℕ))) (spare : ℕ) → HasNoMore flight.sends sends_new → IsFlightOf types history flight → IsFlightOf types history (record { newest = flight.newest; sends = sends_new; spare = spare })
flight_fewer types history flight sends_new spare no_more is = record {
  traces = is.traces;
  newest_clocks = is.newest_clocks;
  sent_clocks = λ id clock there. is.sent_clocks id clock (no_more id clock there);
}

-- the block that the ids name
pub is_ahead : (types : TypeTable) (history : List EventBlock) (first : Event) (second : Option Event) (second_id' : Option EventId) (sent : Bool) (clock : List ℕ) → second_id' ≡ option_map (λ e. e.id) second → IsCausal types (block_of first second ∷ history) → ((e : Event) → Contains (events_of (block_of first second)) e → HasClocks types (all_events (block_of first second ∷ history)) e.id clock)
    → IsAheadOf types history (block_of first second) (record { first = first.id; second = second_id'; sent = sent; clock = clock })
is_ahead types history first None second_id' sent clock is causal has = record { causal = causal; first_is = refl; second_is = is; clock_is = has }
is_ahead types history first (Some second) second_id' sent clock is causal has = record { causal = causal; first_is = refl; second_is = is; clock_is = has }
