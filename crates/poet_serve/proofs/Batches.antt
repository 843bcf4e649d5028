-- What a batch that is fed adds to what was taken before.
use Rattle.std.proofs.Common.{◌≡◌, ◌+◌, ◌<◌, ℕ, List, ◌∷◌, ◌++◌, length, length-append, reverse, sym, ◌∙◌, ap, subst, arith, append_assoc}
use Rattle.causal_base.specs.declared.entry.Entry.{Entry}
use Rattle.causal_base.specs.declared.event.Event.{Event}
use Rattle.causal_base.specs.declared.event_id.EventId.{EventId}
use Rattle.causal_base.specs.Journal.{came_by}
use Rattle.causal_base.specs.Past.{HasEnded, HasEvent}
use Rattle.causal_base.specs.Types.{TypeTable}
use Rattle.event_book.specs.declared.report.FeedReport.{FeedReport}
use Rattle.event_book.specs.Counted.{count_of}
use Rattle.event_book.specs.Feeding.{no_report, IsFed, IsFull, IsTakenSoFar, Takes}
use Rattle.poet_serve.specs.Tallies.{TallyState, HasTaken, IsCutShort, both, tally_of, total_of}
use Rattle.poet_serve.specs.declared.report.Stop.TheVariants.{Full, Memory}
use Rattle.poet_serve.proofs.Taken.{taken_count, taken_more, taken_open}

module _ (types : TypeTable) (collector : ℕ) (before after : List Entry) (batch : List Event) where
  -- the counts fit
  pub fits_fed : (tally : TallyState) (report : FeedReport) → total_of tally + length batch < 4294967296 → IsFed types collector batch before after report → total_of tally + count_of report < 4294967296
  fits_fed tally report few fed = let all = taken_count types collector batch before after report fed.takes in omega (arith, all, few)

  pub fits_full : (tally : TallyState) (id : EventId) (report : FeedReport) → total_of tally + length batch < 4294967296 → IsFull types collector batch before after id report → total_of tally + count_of report < 4294967296
  fits_full tally id report few full =
      let all = taken_count types collector full.taken before after report full.fed.takes in
      let long = ap length full.whole ∙ length-append full.taken (full.event ∷ full.rest) in
      omega (arith, all, few, long)

  pub fits_so_far : (tally : TallyState) (done : ℕ) (report : FeedReport) → total_of tally + length batch < 4294967296 → IsTakenSoFar types collector batch before after done report → total_of tally + count_of report < 4294967296
  fits_so_far tally done report few cut =
      let all = taken_count types collector cut.taken before after report cut.takes in
      let long = ap length cut.whole ∙ length-append cut.taken cut.rest in
      omega (arith, all, few, long)

  -- the collector is still open
  pub open_fed : (report : FeedReport) → (HasEnded (reverse before) collector → ⊥) → IsFed types collector batch before after report → HasEnded (reverse after) collector → ⊥
  open_fed report still fed = taken_open types collector batch before after no_report report fed.takes still

  pub open_full : (id : EventId) (report : FeedReport) → (HasEnded (reverse before) collector → ⊥) → IsFull types collector batch before after id report → HasEnded (reverse after) collector → ⊥
  open_full id report still full = taken_open types collector full.taken before after no_report report full.fed.takes still

  pub open_so_far : (done : ℕ) (report : FeedReport) → (HasEnded (reverse before) collector → ⊥) → IsTakenSoFar types collector batch before after done report → HasEnded (reverse after) collector → ⊥
  open_so_far done report still cut = taken_open types collector cut.taken before after no_report report cut.takes still

  module _ (start : List Entry) (events : List Event) (tally later : TallyState) (has : HasTaken types collector start events before tally) where
    -- some events more
    more : (others : List Event) (report : FeedReport) → ((counted : FeedReport) → tally ≡ tally_of counted → later ≡ tally_of (both counted report)) → Takes types collector others before no_report after report → HasTaken types collector start (events ++ others) after later
    more others report adds takes = record {
      counted = both has.counted report;
      takes = taken_more types collector events others start before after has.counted report has.takes takes;
      tally_is = adds has.counted has.tally_is;
    }

    pub fed_more : (report : FeedReport) → ((counted : FeedReport) → tally ≡ tally_of counted → later ≡ tally_of (both counted report)) → IsFed types collector batch before after report → HasTaken types collector start (events ++ batch) after later
    fed_more report adds fed = more batch report adds fed.takes

    pub full_cut : (id : EventId) (report : FeedReport) → ((counted : FeedReport) → tally ≡ tally_of counted → later ≡ tally_of (both counted report)) → IsFull types collector batch before after id report → IsCutShort types collector start (events ++ batch) after later (Full id)
    full_cut id report adds full = (
      events ++ full.taken,
      full.event,
      full.rest,
      ap (λ (l : List Event). events ++ l) full.whole ∙ sym (append_assoc events full.taken (full.event ∷ full.rest)),
      sym full.id_is,
      more full.taken report adds full.fed.takes,
      (full.limit.full, subst (λ (i : EventId). HasEvent (came_by after) i → ⊥) (sym full.id_is) full.limit.new),
      full.fed.settled,
    )

    pub memory_cut : (done : ℕ) (report : FeedReport) → ((counted : FeedReport) → tally ≡ tally_of counted → later ≡ tally_of (both counted report)) → IsTakenSoFar types collector batch before after done report → IsCutShort types collector start (events ++ batch) after later Memory
    memory_cut done report adds cut = (
      events ++ cut.taken,
      cut.rest,
      ap (λ (l : List Event). events ++ l) cut.whole ∙ sym (append_assoc events cut.taken cut.rest),
      more cut.taken report adds cut.takes,
    )
