-- The delivered events of a legal journal: their numbers, and what reaches them.
use Rattle.std.proofs.Common.{◌≡◌, ◌<◌, ◌≤◌, ℕ, inl, inr, List, [], ◌∷◌, length, refl, sym, ◌∙◌, subst, arith, None, Some}
use Rattle.std.specs.Prelude.{Contains, reverse, slice_get}
use Rattle.std.specs.Option.{option_map}
use Rattle.std.proofs.lemmas.Bool.{cases_lt}
use Rattle.std.proofs.lemmas.Option.{slice_get_within}
use Rattle.causal_base.specs.declared.entry.Entry.{Entry}
use Rattle.causal_base.specs.declared.event.Event.{Event}
use Rattle.causal_base.specs.declared.event_id.EventId.{EventId}
use Rattle.causal_base.specs.declared.limits.TheConstants.{MOST_NUMBER}
use Rattle.causal_base.specs.Clocks.{HasClock, IsClock}
use Rattle.causal_base.specs.Event.{IsFit}
use Rattle.causal_base.specs.History.{count_on}
use Rattle.causal_base.specs.Journal.{IsLegal, delivered_by, deliveries_by}
use Rattle.causal_base.specs.Past.{HasEvent}
use Rattle.causal_base.specs.Types.{TypeTable}
use Rattle.causal_base.specs.Walks.{Reaches, Walk}
use Rattle.causal_base.proofs.CallerLemmas.{IsLimit, IsNumbered, came_fit, causal, delivered_came, delivered_numbered, event_at, make_id, number_within, reaches_later, reaches_on, same_event, same_id}
use Rattle.causal_laws.proofs.Entries.{limit_from_clock}

-- a walk ends at one of the events that it lies among
walk_end : (types : TypeTable) (events : List Event) (through : List Event) (x e : Event) → Contains events x → Walk types events x through e → Contains events e
walk_end types events [] x e there walk = subst (λ (v : Event). Contains events v) walk there
walk_end types events (w ∷ through) x e there walk = walk_end types events through w e walk.0.to walk.1

pub reached_is_there : (types : TypeTable) (events : List Event) (x e : Event) → Reaches types events x e → Contains events e
reached_is_there types events x e reaches = walk_end types events reaches.through x e reaches.among reaches.walk

module _ (types : TypeTable) (journal : List Entry) (legal : IsLegal types journal) where
  pub all_numbered : IsNumbered (delivered_by journal)
  all_numbered = delivered_numbered types (reverse journal) legal

  is_fit : (e : Event) → Contains (delivered_by journal) e → IsFit types e
  is_fit e there = came_fit types (reverse journal) legal e (delivered_came types (reverse journal) legal e there)

  pub on_a_trace : (e : Event) → Contains (delivered_by journal) e → e.id.trace < types.traces
  on_a_trace e there = (is_fit e there).id.trace

  pub type_of : (e : Event) → Contains (delivered_by journal) e → e.type_no < length types.rows
  type_of e there =
      let fit = is_fit e there in
      elim (slice_get types.rows e.type_no) as (λ o. slice_get types.rows e.type_no ≡ o → option_map (λ row. row.kind) o ≡ Some fit.kind → e.type_no < length types.rows) [
        | None ↦ λ is kind. absurd cc
        | Some row ↦ λ is kind. slice_get_within types.rows e.type_no row is
      ] refl fit.is_of_kind

  pub number_least : (e : Event) → Contains (delivered_by journal) e → 1 ≤ e.id.number
  number_least e there = (number_within (delivered_by journal) all_numbered e there).0

  pub number_most : (e : Event) → Contains (delivered_by journal) e → e.id.number ≤ count_on e.id.trace (delivered_by journal)
  number_most e there = (number_within (delivered_by journal) all_numbered e there).1

  -- the event of a trace with a number up to its count
  pub event_on : (trace number : ℕ) → 1 ≤ number → number ≤ count_on trace (delivered_by journal) → (e : Event) × Contains (delivered_by journal) e × (e.id.trace ≡ trace) × (e.id.number ≡ number)
  event_on = event_at (delivered_by journal) all_numbered

  pub event_with : (trace number : ℕ) → 1 ≤ number → number ≤ count_on trace (delivered_by journal) → HasEvent (delivered_by journal) (make_id trace number)
  event_with trace number least most = let e = event_on trace number least most in (e.0, e.1, same_id e.0.id (make_id trace number) e.2 e.3)

  -- no trace has more events than the greatest number
  pub count_most : (trace : ℕ) → count_on trace (delivered_by journal) ≤ MOST_NUMBER
  count_most trace = elim (cases_lt 0 (count_on trace (delivered_by journal))) [
    | inr none ↦ omega (arith, none)
    | inl some ↦ let last = event_on trace (count_on trace (delivered_by journal)) some (omega arith) in let most = (is_fit last.0 last.1).id.most in omega (arith, most, last.3)
  ]

  pub one_event : (a b : Event) → Contains (delivered_by journal) a → Contains (delivered_by journal) b → a.id ≡ b.id → a ≡ b
  one_event = same_event (delivered_by journal) all_numbered

  -- what reaches an event, by its clock for a trace
  pub clock_limit : (id : EventId) (e : Event) → Contains (delivered_by journal) e → e.id ≡ id → (trace n : ℕ) → HasClock types (delivered_by journal) id trace n → IsLimit (delivered_by journal) trace (λ x. Reaches types (delivered_by journal) x e) n
  clock_limit id e there is trace n has =
      let same = one_event has.e e has.among there (has.id_is ∙ sym is) in
      limit_from_clock types (deliveries_by journal) (causal types (reverse journal) legal) e there trace n
      (subst (λ (v : Event). IsClock types (delivered_by journal) v trace n) same has.clock)

  -- what reaches an event reaches the later ones of its trace
  pub reaches_past : (x y z : Event) → Contains (delivered_by journal) z → y.id.trace ≡ z.id.trace → y.id.number ≤ z.id.number → Reaches types (delivered_by journal) x y → Reaches types (delivered_by journal) x z
  reaches_past x y z there trace order reaches =
      reaches_on types (delivered_by journal) x y z reaches
      (reaches_later types (delivered_by journal) all_numbered y z (reached_is_there types (delivered_by journal) x y reaches) there trace order)
