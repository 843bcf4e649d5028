-- The rule of clocks, with what is kept as the clocks right before.
use Rattle.std.proofs.Common.{◌≡◌, ◌≢◌, ◌<◌, ◌≤◌, ℕ, max, inl, inr, List, [], ◌∷◌, length, refl, sym, ◌∙◌, ap, subst, arith, Option, None, Some, get_or, set}
use Rattle.std.specs.Prelude.{Contains, slice_index, ◌↔◌, IsSome}
use Rattle.std.proofs.lemmas.Bool.{cases_lt, cases_eq}
use Rattle.std.proofs.lemmas.List.{get_or_default, get_or-set_same, get_or-set_other}
use Rattle.causal_base.specs.declared.event.Event.{Event}
use Rattle.causal_base.specs.declared.event_id.EventId.{EventId}
use Rattle.causal_base.specs.declared.kind.Kind.{Kind}
use Rattle.causal_base.specs.declared.kind.Kind.TheVariants.{Unary, Send}
use Rattle.causal_base.specs.Types.{TypeTable}
use Rattle.causal_base.specs.Event.{IsFit, IsOfKind, Fits, NamesAnother}
use Rattle.causal_base.specs.Clocks.{IsClock, HasClocks}
use Rattle.causal_base.specs.History.{EventBlock, alone, together, events_of, all_events, count_on, IsNextOfTrace, IsCausal}
use Rattle.causal_base.specs.Past.{HasEvent}
use Rattle.causal_base.specs.Vectors.{IsClockBefore, IsClockFitted}
use Rattle.causal_base.proofs.CallerLemmas.{same_id, same_event, numbered, Contains-here, Contains-there, Contains-one, Contains-cons}
use Rattle.vector_flight.specs.Flights.{IsNewestClock, AreNewestClocks, last_id}
use Rattle.vector_flight.specs.Held.{AreOf}

-- the clock that was read at a trace is its newest clock
pub newest_at : (types : TypeTable) (events : List Event) (newest : List (List ℕ)) (trace : ℕ) (read : List ℕ) → trace < length newest → read ≡ get_or newest trace read → types.traces ≡ length newest → AreNewestClocks types events newest → IsNewestClock types events trace read
newest_at types events newest trace read within is traces are =
    subst (λ (clock : List ℕ). IsNewestClock types events trace clock) (get_or_default newest trace [] read within ∙ sym is) (are trace (omega (arith, within, traces)))

-- and has as many numbers as each
pub length_read : (newest : List (List ℕ)) (traces trace : ℕ) (read : List ℕ) → trace < length newest → read ≡ get_or newest trace read → AreOf traces newest → length read ≡ traces
length_read newest traces trace read within is each = ap (λ (clock : List ℕ). length clock) is ∙ each trace read within

-- where it has the number of an id for its trace, it is the clock of the event with this id
pub last_with_number : (types : TypeTable) (events : List Event) (id : EventId) (clock : List ℕ) → IsNewestClock types events id.trace clock → slice_index clock id.trace ≡ id.number → 1 ≤ id.number → HasClocks types events id clock
last_with_number types events id clock is number some =
    let count : count_on id.trace events ≡ id.number = sym is.own ∙ number in
    subst (λ (i : EventId). HasClocks types events i clock) (same_id (last_id events id.trace) id refl count) (is.last (omega (arith, some, count)))

-- the two laws on the clock of an event that is delivered alone
pub record OneLaw : Type 0 where
  pub own : (types : TypeTable) (past : List EventBlock) (e : Event) → IsCausal types (alone e ∷ past) → IsClock types (all_events (alone e ∷ past)) e e.id.trace e.id.number
  pub other : (types : TypeTable) (past : List EventBlock) (e : Event) → IsCausal types (alone e ∷ past) → (trace before fitted : ℕ) → trace ≢ e.id.trace → IsClockBefore types (all_events past) e trace before → IsClockFitted types (all_events past) e trace fitted → IsClock types (all_events (alone e ∷ past)) e trace (max before fitted)

module _ (types : TypeTable) (events : List Event) (e : Event) (trace : ℕ) (below : trace < types.traces) where
  -- the newest clock of its trace is that of the event before it
  pub clock_before : (newest : List ℕ) → IsNewestClock types events e.id.trace newest → IsNextOfTrace events e → IsClockBefore types events e trace (slice_index newest trace)
  clock_before newest is next = elim (cases_lt 0 (count_on e.id.trace events)) [
    | inr none ↦ inl (omega (arith, next, none), is.none (omega (arith, none)) trace)
    | inl some ↦
        let last = is.last some trace below in
        let same_trace : e.id.trace ≡ last.e.id.trace = sym (ap (λ (i : EventId). i.trace) last.id_is) in
        let number : last.e.id.number ≡ count_on e.id.trace events = ap (λ (i : EventId). i.number) last.id_is in
        inr (last.e, last.among, record { trace = same_trace; number = omega (arith, next, number) }, last.clock)
  ]

  -- an event that names nobody fits nobody
  pub fits_nobody : e.mate ≡ None → IsClockFitted types events e trace 0
  fits_nobody none = inl ((λ x inside fits. let named : Some x.id ≡ None = sym fits.names ∙ none in cc), refl)

module _ (types : TypeTable) (past : List EventBlock) (e : Event) (causal : IsCausal types (alone e ∷ past)) (fit : IsFit types e) (mate : EventId) (names : e.mate ≡ Some mate) where
  names_another : NamesAnother fit.kind
  names_another = fit.mate.0 (subst (λ (o : Option EventId). IsSome o) (sym names) refl)

  not_of : (kind : Kind) → (NamesAnother kind → ⊥) → IsOfKind types e kind → ⊥
  not_of kind none is =
      let both : Some fit.kind ≡ Some kind = sym fit.is_of_kind ∙ is in
      let same : fit.kind ≡ kind = cc in
      none (subst NamesAnother same names_another)

  -- it fits a delivered event
  pub cause : (x : Event) × Contains (all_events past) x × Fits types e x
  cause = elim causal.0.1 [
    | inl unary ↦ absurd (not_of Unary (λ it. it) unary)
    | inr rest ↦ elim rest [ inl send ↦ absurd (not_of Send (λ it. it) send) | inr it ↦ it ]
  ]

  -- which has the id that it names
  cause_id : cause.0.id ≡ mate
  cause_id = let same : Some cause.0.id ≡ Some mate = sym cause.2.names ∙ names in cc

  pub mate_is_delivered : HasEvent (all_events past) mate
  mate_is_delivered = (cause.0, cause.1, cause_id)

  -- so a clock of that id is the clock of what it fits
  pub clock_fitted : (fitted : List ℕ) → HasClocks types (all_events past) mate fitted → (trace : ℕ) → trace < types.traces → IsClockFitted types (all_events past) e trace (slice_index fitted trace)
  clock_fitted fitted has trace below =
      let its = has trace below in
      let same : its.e ≡ cause.0 = same_event (all_events past) (numbered types past causal.1) its.e cause.0 its.among cause.1 (its.id_is ∙ sym cause_id) in
      inr (its.e, its.among, subst (λ (x : Event). Fits types e x) (sym same) cause.2, its.clock)

-- an event with this clock for each trace has it whole, where the number for its own trace is known
pub whole_clock : (types : TypeTable) (events : List Event) (e : Event) → Contains events e → (clock : List ℕ) → ((trace : ℕ) → trace < types.traces → IsClock types events e trace (slice_index clock trace)) → HasClocks types events e.id clock
whole_clock types events e inside clock each trace below = record { e = e; among = inside; id_is = refl; clock = each trace below }

-- a number that is known for a trace
pub known_for : (types : TypeTable) (events : List Event) (e : Event) (clock : List ℕ) (trace own n : ℕ) → trace ≡ own → slice_index clock own ≡ n → IsClock types events e own n → IsClock types events e trace (slice_index clock trace)
known_for types events e clock trace own n on is law =
    subst (λ t. IsClock types events e t (slice_index clock t)) (sym on) (subst (λ m. IsClock types events e own m) (sym is) law)

module _ (laws : OneLaw) (types : TypeTable) (past : List EventBlock) (e : Event) (causal : IsCausal types (alone e ∷ past)) (newest : List ℕ) (is : IsNewestClock types (all_events past) e.id.trace newest) (clock : List ℕ) (own : slice_index clock e.id.trace ≡ e.id.number) where
  -- the clock of an event that names nobody
  pub clock_onward : e.mate ≡ None → ((trace : ℕ) → trace ≢ e.id.trace → slice_index clock trace ≡ slice_index newest trace) → HasClocks types (all_events (alone e ∷ past)) e.id clock
  clock_onward none other = whole_clock types (all_events (alone e ∷ past)) e (Contains-here e (all_events past)) clock (λ trace below. elim (cases_eq trace e.id.trace) [
    | inl on ↦ known_for types (all_events (alone e ∷ past)) e clock trace e.id.trace e.id.number on own (laws.own types past e causal)
    | inr not_on ↦
        let law = laws.other types past e causal trace (slice_index newest trace) 0 not_on (clock_before types (all_events past) e trace below newest is causal.0.0) (fits_nobody types (all_events past) e trace below none) in
        subst (λ n. IsClock types (all_events (alone e ∷ past)) e trace n) (omega (arith, other trace not_on)) law
  ])

  -- and of one that fits an event
  pub clock_joined : (fit : IsFit types e) (mate : EventId) → e.mate ≡ Some mate → (fitted : List ℕ) → HasClocks types (all_events past) mate fitted → ((trace : ℕ) → trace ≢ e.id.trace → slice_index clock trace ≡ max (slice_index fitted trace) (slice_index newest trace)) → HasClocks types (all_events (alone e ∷ past)) e.id clock
  clock_joined fit mate names fitted has other = whole_clock types (all_events (alone e ∷ past)) e (Contains-here e (all_events past)) clock (λ trace below. elim (cases_eq trace e.id.trace) [
    | inl on ↦ known_for types (all_events (alone e ∷ past)) e clock trace e.id.trace e.id.number on own (laws.own types past e causal)
    | inr not_on ↦
        let law = laws.other types past e causal trace (slice_index newest trace) (slice_index fitted trace) not_on (clock_before types (all_events past) e trace below newest is causal.0.0) (clock_fitted types past e causal fit mate names fitted has trace below) in
        subst (λ n. IsClock types (all_events (alone e ∷ past)) e trace n) (omega (arith, other trace not_on)) law
  ])

-- the laws on the clock of two events that are delivered together
pub record PairLaw : Type 0 where
  pub first : (types : TypeTable) (past : List EventBlock) (a b : Event) → IsCausal types (together a b ∷ past) → IsClock types (all_events (together a b ∷ past)) a a.id.trace a.id.number
  pub second : (types : TypeTable) (past : List EventBlock) (a b : Event) → IsCausal types (together a b ∷ past) → IsClock types (all_events (together a b ∷ past)) a b.id.trace b.id.number
  pub other : (types : TypeTable) (past : List EventBlock) (a b : Event) → IsCausal types (together a b ∷ past) → (trace m n : ℕ) → trace ≢ a.id.trace → trace ≢ b.id.trace → IsClockBefore types (all_events past) a trace m → IsClockBefore types (all_events past) b trace n → IsClock types (all_events (together a b ∷ past)) a trace (max m n)
  pub same : (types : TypeTable) (past : List EventBlock) (a b : Event) → IsCausal types (together a b ∷ past) → (trace n : ℕ) → (IsClock types (all_events (together a b ∷ past)) a trace n) ↔ (IsClock types (all_events (together a b ∷ past)) b trace n)

module _ (laws : PairLaw) (types : TypeTable) (past : List EventBlock) (a b : Event) (causal : IsCausal types (together a b ∷ past)) (of_a of_b clock : List ℕ) (is_a : IsNewestClock types (all_events past) a.id.trace of_a) (is_b : IsNewestClock types (all_events past) b.id.trace of_b) where
  module _ (own_a : slice_index clock a.id.trace ≡ a.id.number) (own_b : slice_index clock b.id.trace ≡ b.id.number) (other : (trace : ℕ) → trace ≢ a.id.trace → trace ≢ b.id.trace → slice_index clock trace ≡ max (slice_index of_a trace) (slice_index of_b trace)) where
    clock_of_first : (trace : ℕ) → trace < types.traces → IsClock types (all_events (together a b ∷ past)) a trace (slice_index clock trace)
    clock_of_first trace below = elim (cases_eq trace a.id.trace) [
      | inl on_a ↦ known_for types (all_events (together a b ∷ past)) a clock trace a.id.trace a.id.number on_a own_a (laws.first types past a b causal)
      | inr not_a ↦ elim (cases_eq trace b.id.trace) [
        | inl on_b ↦ known_for types (all_events (together a b ∷ past)) a clock trace b.id.trace b.id.number on_b own_b (laws.second types past a b causal)
        | inr not_b ↦
            let law = laws.other types past a b causal trace (slice_index of_a trace) (slice_index of_b trace) not_a not_b (clock_before types (all_events past) a trace below of_a is_a causal.0.0) (clock_before types (all_events past) b trace below of_b is_b causal.0.1) in
            subst (λ n. IsClock types (all_events (together a b ∷ past)) a trace n) (sym (other trace not_a not_b)) law
      ]
    ]

    -- both have the clock
    pub clock_of_both : (e : Event) → Contains (events_of (together a b)) e → HasClocks types (all_events (together a b ∷ past)) e.id clock
    clock_of_both e inside =
        let in_b = Contains-here b (a ∷ all_events past) in
        let in_a = Contains-there b (a ∷ all_events past) a (Contains-here a (all_events past)) in
        elim (Contains-cons b (a ∷ []) e inside) [
          | inl is ↦ subst (λ (x : Event). HasClocks types (all_events (together a b ∷ past)) x.id clock) is
              (whole_clock types (all_events (together a b ∷ past)) b in_b clock (λ trace below. (laws.same types past a b causal trace (slice_index clock trace)).0 (clock_of_first trace below)))
          | inr rest ↦ subst (λ (x : Event). HasClocks types (all_events (together a b ∷ past)) x.id clock) (Contains-one a e rest)
              (whole_clock types (all_events (together a b ∷ past)) a in_a clock clock_of_first)
        ]

-- the numbers of a clock after the number for one trace was set
module _ (before after : List ℕ) (at number : ℕ) (within : at < length before) (is : after ≡ set before at number) where
  pub set_own : slice_index after at ≡ number
  set_own = ap (λ (clock : List ℕ). slice_index clock at) is ∙ get_or-set_same before at number 0 within

  pub set_other : (trace : ℕ) → trace ≢ at → slice_index after trace ≡ slice_index before trace
  set_other trace other = ap (λ (clock : List ℕ). slice_index clock trace) is ∙ get_or-set_other before at trace number 0 other
