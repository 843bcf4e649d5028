-- What the collectors of a load have read, where none ran out of memory.
use Rattle.std.proofs.Common.{◌≡◌, ℕ, suc, ◌<◌, ◌≤◌, inl, inr, List, [], ◌∷◌, length, map, refl, sym, ◌∙◌, ap, subst, arith}
use Rattle.std.specs.Prelude.{◌⊎◌}
use Rattle.std.specs.List.{AllByRecursion}
use Rattle.std.proofs.lemmas.List.{length-append}
use Rattle.std.proofs.lemmas.List.Concat.{flat_map-append}
use Rattle.causal_base.specs.declared.entry.Entry.{Entry}
use Rattle.causal_base.specs.declared.event.Event.{Event}
use Rattle.causal_base.specs.declared.event_id.EventId.{EventId}
use Rattle.causal_base.specs.declared.limits.TheConstants.{MOST_EVENTS}
use Rattle.causal_base.specs.InTurn.{IsInTurn}
use Rattle.causal_base.specs.Journal.{came_by}
use Rattle.causal_base.specs.TypeTables.{IsTypeTable}
use Rattle.causal_base.specs.Types.{TypeTable}
use Rattle.poet_io.specs.Faults.{IsRaised}
use Rattle.poet_serve.specs.declared.report.CollectorReport.{CollectorReport}
use Rattle.poet_serve.specs.declared.report.Stop.{Stop}
use Rattle.poet_serve.specs.declared.report.Stop.TheVariants.{End, Read, Line, Full, Memory}
use Rattle.poet_serve.specs.Collecting.{MeetsLimitAt}
use Rattle.poet_serve.specs.Reading.{AreReadOf, CountsStop}
use Rattle.poet_serve.specs.Transcripts.{AreReadBy, Collected, HadMemory, HaveParts, IsMadeInTurn, collected_by}
use Rattle.raw_reader.specs.Texts.{IsGoodText, events_of}
use Rattle.raw_reader.proofs.CallerLemmas.{first_of_good, good_once, not_both}
use Rattle.load_run.specs.LoadTexts.{lines_of, never_failing, shares}
use Rattle.load_run.proofs.Parting.{all_of, no_more_events}

-- the lines of events are a good text, whose batches have these events
abbrev pub AreReadBack : TypeTable → List Event → Type 0
AreReadBack types its = (batches : List (List Event)) × IsGoodText types (lines_of types its) batches × (events_of batches ≡ its)

-- a count that stays 0 didn't rise
never_raised : IsRaised 0 0 → ⊥
never_raised raised = elim raised.more_or_last [
  | inl more ↦ omega (arith, more)
  | inr last ↦ omega (arith, last)
]

module _ (types : TypeTable) (table : IsTypeTable types) (journal : List Entry) where
  module _ (its : List Event) (back : AreReadBack types its) where
    -- what was read to its end has all events
    all_at_end : (left : List ℕ) (events : List Event) → AreReadOf types (lines_of types its) left End events → events ≡ its
    all_at_end left events read = read.1.2 ∙ (ap events_of (good_once types table (lines_of types its) read.1.0 back.0 read.1.1 back.1) ∙ back.2)

    -- what met the limit has fewer
    fewer_at_limit : (left : List ℕ) (id : EventId) (events : List Event) → AreReadOf types (lines_of types its) left (Full id) events → length events < length its
    fewer_at_limit left id events read =
        let parted = ap length read.4 ∙ length-append events (read.1 ∷ read.2) in
        elim read.3 [
          | inl begins ↦
              let first = first_of_good types table (lines_of types its) read.0 begins back.0 back.1 in
              let whole = ap length (sym back.2 ∙ (ap events_of first.1 ∙ flat_map-append (λ (batch : List Event). batch) read.0 first.0)) in
              omega (arith, parted, whole, length-append (events_of read.0) (events_of first.0))
          | inr good ↦
              let whole = ap length (sym back.2 ∙ ap events_of (good_once types table (lines_of types its) back.0 read.0 back.1 good)) in
              omega (arith, parted, whole)
        ]

    -- a collector that had memory read all events, or fewer where it met the limit
    all_or_fewer : (left : List ℕ) (stop : Stop) (events : List Event) → (stop ≡ Memory → ⊥) → CountsStop stop 0 0 → MeetsLimitAt journal stop → AreReadOf types (lines_of types its) left stop events
        → (events ≡ its) ⊎ ((MOST_EVENTS ≤ length (came_by journal)) × (length events < length its))
    all_or_fewer left End events had counts limit read = inl (all_at_end left events read)
    all_or_fewer left Read events had counts limit read = absurd (never_raised counts)
    all_or_fewer left (Line error) events had counts limit read = absurd (not_both types table (lines_of types its) back.0 read.0 error back.1 read.1)
    all_or_fewer left (Full id) events had counts limit read = inr (limit.0, fewer_at_limit left id events read)
    all_or_fewer left Memory events had counts limit read = absurd (had refl)

  -- the collectors of sources with these lines
  abbrev collected : List (List Event) → List (CollectorReport (List ℕ)) → List Collected
  collected its reports = collected_by never_failing (map (lines_of types) its) reports

  -- all collectors read all their events, or some fewer, where the limit was met
  all_read : (its : List (List Event)) → AllByRecursion (AreReadBack types) its → (reports : List (CollectorReport (List ℕ))) → length reports ≡ length its → (k : ℕ)
      → HaveParts types journal k (collected its reports) → AllByRecursion HadMemory (collected its reports) → (lists : List (List Event)) → AreReadBy types (collected its reports) lists
      → (lists ≡ its) ⊎ ((MOST_EVENTS ≤ length (came_by journal)) × (length (all_of lists) < length (all_of its)))
  all_read [] backs reports as_many k parts had [] read = inl refl
  all_read [] backs reports as_many k parts had (events ∷ lists) read = absurd read
  all_read (its ∷ others) backs [] as_many k parts had lists read = absurd (omega (arith, as_many))
  all_read (its ∷ others) backs (report ∷ reports) as_many k parts had [] read = absurd read
  all_read (its ∷ others) backs (report ∷ reports) as_many k parts had (events ∷ lists) read =
      let one = all_or_fewer its backs.0 report.source report.stop events had.0 read.0.faults parts.0.limit read.0.told in
      let rest = all_read others backs.1 reports (omega (arith, as_many)) (suc k) parts.1 had.1 lists read.1 in
      let front = length-append events (all_of lists) in
      let whole = length-append its (all_of others) in
      elim one [
        | inl same ↦ elim rest [
          | inl all ↦ inl (ap (λ head. head ∷ lists) same ∙ ap (λ tail. its ∷ tail) all)
          | inr full ↦ inr (full.0, omega (arith, front, whole, ap length same, full.1))
        ]
        | inr full ↦ elim rest [
          | inl all ↦ inr (full.0, omega (arith, front, whole, full.1, ap (λ tail. length (all_of tail)) all))
          | inr also ↦ inr (full.0, omega (arith, front, whole, full.1, also.1))
        ]
      ]

  -- so one thread took the shares of a list that fits the limit
  pub shares_in_turn : (events : List Event) → length events ≤ MOST_EVENTS → AllByRecursion (AreReadBack types) (shares events)
      → ((lists : List (List Event)) → IsInTurn types MOST_EVENTS lists journal → length (came_by journal) ≤ length (all_of lists))
      → (reports : List (CollectorReport (List ℕ))) → length reports ≡ 3 → HaveParts types journal 0 (collected (shares events) reports)
      → AllByRecursion HadMemory (collected (shares events) reports) → IsMadeInTurn types (collected (shares events) reports) journal → IsInTurn types MOST_EVENTS (shares events) journal
  shares_in_turn events few backs no_more reports three parts had made = elim (all_read (shares events) backs reports three 0 parts had made.lists made.read) [
    | inl same ↦ subst (λ lists. IsInTurn types MOST_EVENTS lists journal) same made.in_turn
    | inr full ↦ absurd (omega (arith, full.0, full.1, no_more made.lists made.in_turn, no_more_events events, few))
  ]
