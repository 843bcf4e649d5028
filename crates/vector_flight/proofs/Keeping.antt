-- What is in flight stands for one delivery more, once its clock is kept.
use Rattle.std.proofs.Common.{◌≡◌, ◌≢◌, ◌<◌, ◌+◌, ℕ, ◌⊎◌, inl, inr, List, [], ◌∷◌, ◌++◌, length, refl, sym, ◌∙◌, ap, subst, arith, Option, None, Some, set, length-set}
use Rattle.std.specs.Prelude.{Contains, slice_index, ◌↔◌, IfSome}
use Rattle.std.proofs.lemmas.Bool.{cases_eq}
use Rattle.std.proofs.lemmas.List.{get_or-set_same, get_or-set_other}
use Rattle.causal_base.specs.declared.event.Event.{Event}
use Rattle.causal_base.specs.declared.event_id.EventId.{EventId}
use Rattle.causal_base.specs.Types.{TypeTable}
use Rattle.causal_base.specs.Clocks.{IsClock, HasClocks}
use Rattle.causal_base.specs.History.{EventBlock, alone, together, all_events, count_on, IsCausal}
use Rattle.causal_base.proofs.CallerLemmas.{same_id, same_event, numbered, number_within, count_on-same, count_on-other, Contains-here, Contains-there, Contains-there_events}
use Rattle.vector_flight.specs.Flights.{InFlight, NextClock, IsNewestClock, AreNewestClocks, AreSentClocks, IsFlightOf, IsAheadOf, IsOfTraces, last_id, newest_of}
use Rattle.vector_flight.specs.Held.{with_newest}
use Rattle.vector_flight.proofs.ClockRule.{OneLaw, PairLaw}

-- the laws that are used here
pub record KeepLaws : Type 0 where
  pub stays : (types : TypeTable) (newer past : List EventBlock) → IsCausal types (newer ++ past) → (e : Event) → Contains (all_events past) e → (trace n : ℕ) → (IsClock types (all_events past) e trace n) ↔ (IsClock types (all_events (newer ++ past)) e trace n)
  pub is_one : (types : TypeTable) (events : List Event) (e : Event) (trace m n : ℕ) → IsClock types events e trace m → IsClock types events e trace n → m ≡ n
  pub one : OneLaw
  pub pair : PairLaw

module _ (laws : KeepLaws) (types : TypeTable) (d : EventBlock) (past : List EventBlock) (causal : IsCausal types (d ∷ past)) where
  -- a clock stays one
  pub clock_lifted : (id : EventId) (clock : List ℕ) → HasClocks types (all_events past) id clock → HasClocks types (all_events (d ∷ past)) id clock
  clock_lifted id clock has trace below =
      let it = has trace below in
      record {
        e = it.e;
        among = Contains-there_events d (all_events past) it.e it.among;
        id_is = it.id_is;
        clock = (laws.stays types (d ∷ []) past causal it.e it.among trace (slice_index clock trace)).0 it.clock;
      }

  -- the newest clock of a trace that the delivery has no event of
  newest_stays : (trace : ℕ) (clock : List ℕ) → count_on trace (all_events (d ∷ past)) ≡ count_on trace (all_events past) → IsNewestClock types (all_events past) trace clock → IsNewestClock types (all_events (d ∷ past)) trace clock
  newest_stays trace clock same is = record {
    as_many = is.as_many;
    own = is.own ∙ sym same;
    last = λ some. subst (λ (id : EventId). HasClocks types (all_events (d ∷ past)) id clock) (same_id (last_id (all_events past) trace) (last_id (all_events (d ∷ past)) trace) refl (sym same))
        (clock_lifted (last_id (all_events past) trace) clock (is.last (omega (arith, some, same))));
    none = λ zero. is.none (omega (arith, zero, same));
  }

  module _ (e : Event) (inside : Contains (all_events (d ∷ past)) e) (below : e.id.trace < types.traces) (clock : List ℕ) (has : HasClocks types (all_events (d ∷ past)) e.id clock) where
    -- a clock has the event's number for its own trace
    own_number : IsClock types (all_events (d ∷ past)) e e.id.trace e.id.number → slice_index clock e.id.trace ≡ e.id.number
    own_number law =
        let it = has e.id.trace below in
        let same : it.e ≡ e = same_event (all_events (d ∷ past)) (numbered types (d ∷ past) causal) it.e e it.among inside it.id_is in
        laws.is_one types (all_events (d ∷ past)) e e.id.trace (slice_index clock e.id.trace) e.id.number
        (subst (λ (x : Event). IsClock types (all_events (d ∷ past)) x e.id.trace (slice_index clock e.id.trace)) same it.clock) law

    -- so it is the newest of that trace where the event is its last
    newest_is : length clock ≡ types.traces → IsClock types (all_events (d ∷ past)) e e.id.trace e.id.number → count_on e.id.trace (all_events (d ∷ past)) ≡ e.id.number → IsNewestClock types (all_events (d ∷ past)) e.id.trace clock
    newest_is as_many law count =
        let least = (number_within (all_events (d ∷ past)) (numbered types (d ∷ past) causal) e inside).0 in
        record {
          as_many = as_many;
          own = own_number law ∙ sym count;
          last = λ some. subst (λ (id : EventId). HasClocks types (all_events (d ∷ past)) id clock) (same_id e.id (last_id (all_events (d ∷ past)) e.id.trace) refl (sym count)) has;
          none = λ zero. absurd (omega (arith, zero, count, least));
        }

-- the newest clocks after one became that of a trace
module _ (types : TypeTable) (events newer : List Event) (newest : List (List ℕ)) (at : ℕ) (clock : List ℕ) (within : at < length newest) (is : IsNewestClock types newer at clock) where
  pub newest_set : (trace : ℕ) → (trace ≢ at → IsNewestClock types newer trace (newest_of newest trace)) → IsNewestClock types newer trace (newest_of (set newest at clock) trace)
  newest_set trace other = elim (cases_eq trace at) [
    | inl on ↦ subst (λ t. IsNewestClock types newer t (newest_of (set newest at clock) t)) (sym on)
        (subst (λ (c : List ℕ). IsNewestClock types newer at c) (sym (get_or-set_same newest at clock [] within)) is)
    | inr not_on ↦ subst (λ (c : List ℕ). IsNewestClock types newer trace c) (sym (get_or-set_other newest at trace clock [] not_on)) (other not_on)
  ]

module _ (laws : KeepLaws) (types : TypeTable) (past : List EventBlock) (newest : List (List ℕ)) (traces : length newest ≡ types.traces) (are : AreNewestClocks types (all_events past) newest) (clock : List ℕ) (as_many : length clock ≡ length newest) where
  newest_alone : (e : Event) → IsCausal types (alone e ∷ past) → e.id.trace < length newest → HasClocks types (all_events (alone e ∷ past)) e.id clock → AreNewestClocks types (all_events (alone e ∷ past)) (set newest e.id.trace clock)
  newest_alone e causal within has trace below =
      let is = newest_is laws types (alone e) past causal e (Contains-here e (all_events past)) (omega (arith, within, traces)) clock has (as_many ∙ traces) (laws.one.own types past e causal)
      (count_on-same e.id.trace e (all_events past) refl ∙ sym causal.0.0) in
      newest_set types (all_events past) (all_events (alone e ∷ past)) newest e.id.trace clock within is trace
      (λ other. newest_stays laws types (alone e) past causal trace (newest_of newest trace) (count_on-other trace e (all_events past) (λ same. other (sym same))) (are trace below))

  newest_together : (a b : Event) → IsCausal types (together a b ∷ past) → a.id.trace < length newest → b.id.trace < length newest → HasClocks types (all_events (together a b ∷ past)) a.id clock → HasClocks types (all_events (together a b ∷ past)) b.id clock
      → AreNewestClocks types (all_events (together a b ∷ past)) (set (set newest b.id.trace clock) a.id.trace clock)
  newest_together a b causal within_a within_b has_a has_b trace below =
      let events = all_events past in
      let newer = all_events (together a b ∷ past) in
      let in_b = Contains-here b (a ∷ events) in
      let in_a = Contains-there b (a ∷ events) a (Contains-here a events) in
      let apart : a.id.trace ≢ b.id.trace = causal.0.2.traces in
      let count_a : count_on a.id.trace newer ≡ a.id.number = count_on-other a.id.trace b (a ∷ events) (λ same. apart (sym same)) ∙ (count_on-same a.id.trace a events refl ∙ sym causal.0.0) in
      let count_b : count_on b.id.trace newer ≡ b.id.number = count_on-same b.id.trace b (a ∷ events) refl ∙ (ap (λ n. n + 1) (count_on-other b.id.trace a events apart) ∙ sym causal.0.1) in
      let law_b = (laws.pair.same types past a b causal b.id.trace b.id.number).0 (laws.pair.second types past a b causal) in
      let is_a = newest_is laws types (together a b) past causal a in_a (omega (arith, within_a, traces)) clock has_a (as_many ∙ traces) (laws.pair.first types past a b causal) count_a in
      let is_b = newest_is laws types (together a b) past causal b in_b (omega (arith, within_b, traces)) clock has_b (as_many ∙ traces) law_b count_b in
      newest_set types events newer (set newest b.id.trace clock) a.id.trace clock (omega (arith, within_a, length-set newest b.id.trace clock)) is_a trace
      (λ not_a. newest_set types events newer newest b.id.trace clock within_b is_b trace
      (λ not_b. newest_stays laws types (together a b) past causal trace (newest_of newest trace)
      (count_on-other trace b (a ∷ events) (λ same. not_b (sym same)) ∙ count_on-other trace a events (λ same. not_a (sym same))) (are trace below)))

-- where the ids are those of a delivery's events, its clock becomes the newest of their traces
pub newest_kept : (laws : KeepLaws) (types : TypeTable) (past : List EventBlock) (newest : List (List ℕ)) → length newest ≡ types.traces → AreNewestClocks types (all_events past) newest → (d : EventBlock) (ahead : NextClock) → IsOfTraces (length newest) ahead → IsAheadOf types past d ahead → AreNewestClocks types (all_events (d ∷ past)) (with_newest newest ahead.first ahead.second ahead.clock)
newest_kept laws types past newest traces are (alone e) ahead among is =
    let within : e.id.trace < length newest = subst (λ (id : EventId). id.trace < length newest) is.first_is among.first_on in
    let kept = newest_alone laws types past newest traces are ahead.clock among.as_many e is.causal within (is.clock_is e (Contains-here e [])) in
    subst (λ (second : Option EventId). AreNewestClocks types (all_events (alone e ∷ past)) (with_newest newest ahead.first second ahead.clock)) (sym is.second_is)
    (subst (λ (first : EventId). AreNewestClocks types (all_events (alone e ∷ past)) (set newest first.trace ahead.clock)) (sym is.first_is) kept)
newest_kept laws types past newest traces are (together a b) ahead among is =
    let within_a : a.id.trace < length newest = subst (λ (id : EventId). id.trace < length newest) is.first_is among.first_on in
    let within_b : b.id.trace < length newest = subst (λ (second : Option EventId). IfSome second (λ id. id.trace < length newest)) is.second_is among.second_on in
    let has_b = is.clock_is b (Contains-here b (a ∷ [])) in
    let has_a = is.clock_is a (Contains-there b (a ∷ []) a (Contains-here a [])) in
    let kept = newest_together laws types past newest traces are ahead.clock among.as_many a b is.causal within_a within_b has_a has_b in
    subst (λ (second : Option EventId). AreNewestClocks types (all_events (together a b ∷ past)) (with_newest newest ahead.first second ahead.clock)) (sym is.second_is)
    (subst (λ (first : EventId). AreNewestClocks types (all_events (together a b ∷ past)) (set (set newest b.id.trace ahead.clock) first.trace ahead.clock)) (sym is.first_is) kept)

-- the clock of the first event, by the id that goes with it
first_has : (types : TypeTable) (past : List EventBlock) (d : EventBlock) (ahead : NextClock) → IsAheadOf types past d ahead → HasClocks types (all_events (d ∷ past)) ahead.first ahead.clock
first_has types past (alone e) ahead is = subst (λ (id : EventId). HasClocks types (all_events (alone e ∷ past)) id ahead.clock) (sym is.first_is) (is.clock_is e (Contains-here e []))
first_has types past (together a b) ahead is =
    subst (λ (id : EventId). HasClocks types (all_events (together a b ∷ past)) id ahead.clock) (sym is.first_is) (is.clock_is a (Contains-there b (a ∷ []) a (Contains-here a [])))

-- what is there of sends is as it was, or is the clock of the first event
abbrev pub KeepsFirst : List (EventId × Option (List ℕ)) → List (EventId × Option (List ℕ)) → NextClock → Type 0
KeepsFirst old new ahead = (key : EventId) (other : List ℕ) → Contains new (key, Some other) → Contains old (key, Some other) ⊎ ((key ≡ ahead.first) × (other ≡ ahead.clock))

sent_kept : (laws : KeepLaws) (types : TypeTable) (past : List EventBlock) (old new : List (EventId × Option (List ℕ))) → AreSentClocks types (all_events past) old → (d : EventBlock) (ahead : NextClock) → IsAheadOf types past d ahead → KeepsFirst old new ahead → AreSentClocks types (all_events (d ∷ past)) new
sent_kept laws types past old new are d ahead is keeps id clock there = elim (keeps id clock there) [
  | inl before ↦ clock_lifted laws types d past is.causal id clock (are id clock before)
  | inr first ↦ subst (λ (c : List ℕ). HasClocks types (all_events (d ∷ past)) id c) (sym first.1)
      (subst (λ (i : EventId). HasClocks types (all_events (d ∷ past)) i ahead.clock) (sym first.0) (first_has types past d ahead is))
]

pub length-with_newest : (newest : List (List ℕ)) (first : EventId) (second : Option EventId) (clock : List ℕ) → length (with_newest newest first second clock) ≡ length newest
length-with_newest newest first None clock = length-set newest first.trace clock
length-with_newest newest first (Some second) clock = length-set (set newest second.trace clock) first.trace clock ∙ length-set newest second.trace clock

-- all of it together
pub flight_kept : (laws : KeepLaws) (types : TypeTable) (past : List EventBlock) (old new : InFlight) (d : EventBlock) (ahead : NextClock) → IsOfTraces (length old.newest) ahead → new.newest ≡ with_newest old.newest ahead.first ahead.second ahead.clock → KeepsFirst old.sends new.sends ahead → IsFlightOf types past old → IsAheadOf types past d ahead → IsFlightOf types (d ∷ past) new
flight_kept laws types past old new d ahead among replaced keeps flight is = record {
  traces = ap (λ (clocks : List (List ℕ)). length clocks) replaced ∙ (length-with_newest old.newest ahead.first ahead.second ahead.clock ∙ flight.traces);
  newest_clocks = subst (λ (clocks : List (List ℕ)). AreNewestClocks types (all_events (d ∷ past)) clocks) (sym replaced) (newest_kept laws types past old.newest flight.traces flight.newest_clocks d ahead among is);
  sent_clocks = sent_kept laws types past old.sends new.sends flight.sent_clocks d ahead is keeps;
}
