-- How many events are before another, by the numbers of its clock.
use Rattle.std.proofs.Common.{◌≡◌, ◌<◌, ◌+◌, ℕ, Bool, List, length, refl, subst, arith}
use Rattle.std.specs.Prelude.{Contains, ◌↔◌, IsTrue, count_by, nat_le, reverse, slice_index, sum}
use Rattle.std.proofs.lemmas.Bool.{leb-true, le-leb}
use Rattle.causal_base.specs.declared.entry.Entry.{Entry}
use Rattle.causal_base.specs.declared.event.Event.{Event}
use Rattle.causal_base.specs.declared.kind.Kind.TheVariants.{Sync}
use Rattle.causal_base.specs.Clocks.{HasClocks, IsClock}
use Rattle.causal_base.specs.Event.{IsOfKind}
use Rattle.causal_base.specs.Journal.{IsLegal, delivered_by, deliveries_by}
use Rattle.causal_base.specs.Types.{TypeTable}
use Rattle.causal_base.specs.Walks.{Reaches}
use Rattle.causal_base.proofs.CallerLemmas.{IsNumbered, came_fit, causal, delivered_came, delivered_numbered, same_event}
use Rattle.causal_laws.proofs.Entries.{limit_from_clock}
use Rattle.causal_laws.proofs.PairBlocks.{sync_in_pair}
use Rattle.load_laws.proofs.ClockSums.{sum-clock}
use Rattle.load_laws.proofs.PastCounts.{HasSoManyBefore, passes_but, counts_itself, counts_partner, before_alone, before_paired}

-- an event with a number up to the clock's for its trace
abbrev is_within : List ℕ → Event → Bool
is_within clock x = nat_le x.id.number (slice_index clock x.id.trace)

module _ (types : TypeTable) (journal : List Entry) (legal : IsLegal types journal) (e : Event) (there : Contains (delivered_by journal) e) (clock : List ℕ) (whole : length clock ≡ types.traces) (clocks : HasClocks types (delivered_by journal) e.id clock) where
  -- the delivered events are numbered
  all_numbered : IsNumbered (delivered_by journal)
  all_numbered = delivered_numbered types (reverse journal) legal

  -- the delivered events lie on the traces
  on_traces : (x : Event) → Contains (delivered_by journal) x → x.id.trace < types.traces
  on_traces x inside = (came_fit types (reverse journal) legal x (delivered_came types (reverse journal) legal x inside)).id.trace

  -- the event that the clock is of is e
  clock_of_event : (trace : ℕ) → trace < types.traces → IsClock types (delivered_by journal) e trace (slice_index clock trace)
  clock_of_event trace low =
      let has = clocks trace low in
      subst (λ (v : Event). IsClock types (delivered_by journal) v trace (slice_index clock trace))
      (same_event (delivered_by journal) all_numbered has.e e has.among there has.id_is) has.clock

  -- those within the clock reach e
  decides : (x : Event) → Contains (delivered_by journal) x → IsTrue (is_within clock x) ↔ Reaches types (delivered_by journal) x e
  decides x inside =
      let most = slice_index clock x.id.trace in
      let limit = limit_from_clock types (deliveries_by journal) (causal types (reverse journal) legal) e there x.id.trace most (clock_of_event x.id.trace (on_traces x inside)) in (
        (λ within. limit.to x inside refl (leb-true x.id.number most within)),
        (λ reaches. le-leb x.id.number most (limit.from x inside refl reaches)),
      )

  -- the clock adds up to how many reach e
  reaching_are_counted : sum clock ≡ count_by (is_within clock) (delivered_by journal)
  reaching_are_counted = sum-clock types (delivered_by journal) on_traces e (is_within clock) decides clock whole clock_of_event

  -- one of those is e, and the others are before it, where it has no partner
  pub alone_is_counted : (IsOfKind types e Sync → ⊥) → (n : ℕ) × (sum clock ≡ n + 1) × HasSoManyBefore types (delivered_by journal) e n
  alone_is_counted no_sync =
      let events = delivered_by journal in
      let test = is_within clock in
      let itself = counts_itself types events all_numbered e there test decides in
      (count_by (passes_but test e) events, omega (arith, reaching_are_counted, itself), before_alone types events all_numbered e there test decides no_sync)

  -- two of them are e and its partner, where it has one
  pub paired_is_counted : IsOfKind types e Sync → (n : ℕ) × (sum clock ≡ n + 2) × HasSoManyBefore types (delivered_by journal) e n
  paired_is_counted sync =
      let events = delivered_by journal in
      let test = is_within clock in
      let pair = sync_in_pair types (reverse journal) legal e there sync in
      let itself = counts_itself types events all_numbered e there test decides in
      let partner = counts_partner types events all_numbered e there test decides pair.0 pair.1 pair.2 in (
        count_by (passes_but (passes_but test e) pair.0) events,
        omega (arith, reaching_are_counted, itself, partner),
        before_paired types events all_numbered e there test decides pair.0 pair.1 pair.2,
      )
