use Rattle.std.proofs.Common.{◌≡◌, ◌++◌, List, ℕ, sym, ◌∙◌, ap, subst}
use Rattle.causal_base.specs.declared.entry.Entry.{Entry}
use Rattle.causal_base.specs.declared.event.Event.{Event}
use Rattle.causal_base.specs.Journal.{IsSettled}
use Rattle.causal_base.specs.Types.{TypeTable}
use Rattle.raw_reader.specs.ReaderState.{ReaderState, HasRead, HasReadToEnd}
use Rattle.event_book.specs.declared.setup.Setup.{Setup}
use Rattle.poet_serve.specs.declared.report.Stop.{Stop}
use Rattle.poet_serve.specs.Reading.{CountsStop}
use Rattle.poet_serve.specs.Tallies.{HasTaken, HasTakenFrom, IsCutShort, IsStopped}
use Rattle.poet_serve.proofs.Exits.{if_err_from}
use Rattle.poet_serve.proofs.Waiting.{counts_no_read, fits_from, stopped_at_end, stopped_on, waiting_from, waiting_more}
use Rattle.poet_serve.proofs.collecting.feed_waiting.Goals as goal

pub feed_batch-requires-clause-few : goal.feed_batch-requires-clause-few
feed_batch-requires-clause-few c =
    fits_from c.args.reader.now c.loop-batch.reader c.args.desk.now.setup.types c.args.collector c.args.desk.now.journal c.loop-batch.desk.journal c.args.tally.now c.loop-batch.tally c.loop-batch.invariant.now
    c.requires.types c.in-Some.batch c.take_batch.new.self.waiting c.in-Some.ensures.some c.requires.taken.0 c.requires.taken.1 c.requires.taken.2

pub loop-batch-preserved : goal.loop-batch-preserved
loop-batch-preserved c =
    let types = c.args.desk.now.setup.types in
    let same : c.loop-batch.desk.setup.types ≡ types = ap (λ (s : Setup). s.types) c.loop-batch.invariant.setup in
    record {
      setup = c.in_ok-feed_batch.ensures.setup ∙ c.loop-batch.invariant.setup;
      still = c.in_ok-feed_batch.ensures.open;
      now = waiting_more c.args.reader.now c.loop-batch.reader types c.args.collector c.args.desk.now.journal c.loop-batch.desk.journal c.args.tally.now c.loop-batch.tally c.loop-batch.invariant.now
          c.in-Some.batch c.take_batch.new.self c.feed_batch.new.desk.journal c.feed_batch.new.tally c.in-Some.ensures.some c.in-Some.ensures.rest c.in-Some.ensures.stands c.in-Some.ensures.at_end
          (λ start events has. subst (λ (t : TypeTable). HasTaken t c.args.collector start (events ++ c.in-Some.batch) c.feed_batch.new.desk.journal c.feed_batch.new.tally) same
          (c.in_ok-feed_batch.ensures.ok start events (subst (λ (t : TypeTable). HasTaken t c.args.collector start events c.loop-batch.desk.journal c.loop-batch.tally) (sym same) has)))
          (subst (λ (t : TypeTable). IsSettled t c.feed_batch.new.desk.journal) same c.in_ok-feed_batch.ensures.settled);
    }

pub returns-in_err-feed_batch-clause-err : goal.returns-in_err-feed_batch-clause-err
returns-in_err-feed_batch-clause-err c =
    let types = c.args.desk.now.setup.types in
    let same : c.loop-batch.desk.setup.types ≡ types = ap (λ (s : Setup). s.types) c.loop-batch.invariant.setup in
    let stop = c.in_err-feed_batch.field-0.0 in
    let cut : (start : List Entry) (events : List Event) → HasTaken types c.args.collector start events c.loop-batch.desk.journal c.loop-batch.tally → IsCutShort types c.args.collector start (events ++ c.in-Some.batch) c.feed_batch.new.desk.journal c.feed_batch.new.tally stop =
    λ start events has. subst (λ (t : TypeTable). IsCutShort t c.args.collector start (events ++ c.in-Some.batch) c.feed_batch.new.desk.journal c.feed_batch.new.tally stop) same
    (c.in_err-feed_batch.ensures.err start events (subst (λ (t : TypeTable). HasTaken t c.args.collector start events c.loop-batch.desk.journal c.loop-batch.tally) (sym same) has)) in
    if_err_from (λ (s : Stop). (start : List Entry) (fed more left : List ℕ) → HasTakenFrom HasRead c.args.collector start c.args.reader.now fed c.args.desk.now.journal c.args.tally.now → IsStopped c.args.reader.now.types c.args.collector start (fed ++ more) left s c.feed_batch.new.desk.journal c.feed_batch.new.tally)
    c.from_residual.result stop c.from_residual.ensures.1
    (stopped_on c.args.reader.now c.loop-batch.reader types c.args.collector c.args.desk.now.journal c.loop-batch.desk.journal c.args.tally.now c.loop-batch.tally c.loop-batch.invariant.now
    c.requires.types c.in-Some.batch c.take_batch.new.self.waiting c.in-Some.ensures.some stop c.feed_batch.new.desk.journal c.feed_batch.new.tally cut)

pub returns-in_err-feed_batch-clause-err_at_end : goal.returns-in_err-feed_batch-clause-err_at_end
returns-in_err-feed_batch-clause-err_at_end c =
    let types = c.args.desk.now.setup.types in
    let same : c.loop-batch.desk.setup.types ≡ types = ap (λ (s : Setup). s.types) c.loop-batch.invariant.setup in
    let stop = c.in_err-feed_batch.field-0.0 in
    let cut : (start : List Entry) (events : List Event) → HasTaken types c.args.collector start events c.loop-batch.desk.journal c.loop-batch.tally → IsCutShort types c.args.collector start (events ++ c.in-Some.batch) c.feed_batch.new.desk.journal c.feed_batch.new.tally stop =
    λ start events has. subst (λ (t : TypeTable). IsCutShort t c.args.collector start (events ++ c.in-Some.batch) c.feed_batch.new.desk.journal c.feed_batch.new.tally stop) same
    (c.in_err-feed_batch.ensures.err start events (subst (λ (t : TypeTable). HasTaken t c.args.collector start events c.loop-batch.desk.journal c.loop-batch.tally) (sym same) has)) in
    if_err_from (λ (s : Stop). (start : List Entry) (fed left : List ℕ) → HasTakenFrom HasReadToEnd c.args.collector start c.args.reader.now fed c.args.desk.now.journal c.args.tally.now → IsStopped c.args.reader.now.types c.args.collector start fed left s c.feed_batch.new.desk.journal c.feed_batch.new.tally)
    c.from_residual.result stop c.from_residual.ensures.1
    (stopped_at_end c.args.reader.now c.loop-batch.reader types c.args.collector c.args.desk.now.journal c.loop-batch.desk.journal c.args.tally.now c.loop-batch.tally c.loop-batch.invariant.now
    c.requires.types c.in-Some.batch c.take_batch.new.self.waiting c.in-Some.ensures.some stop c.feed_batch.new.desk.journal c.feed_batch.new.tally cut)

pub returns-in_err-feed_batch-clause-no_count : goal.returns-in_err-feed_batch-clause-no_count
returns-in_err-feed_batch-clause-no_count c =
    let types = c.args.desk.now.setup.types in
    let same : c.loop-batch.desk.setup.types ≡ types = ap (λ (s : Setup). s.types) c.loop-batch.invariant.setup in
    let stop = c.in_err-feed_batch.field-0.0 in
    let cut : (start : List Entry) (events : List Event) → HasTaken types c.args.collector start events c.loop-batch.desk.journal c.loop-batch.tally → IsCutShort types c.args.collector start (events ++ c.in-Some.batch) c.feed_batch.new.desk.journal c.feed_batch.new.tally stop =
    λ start events has. subst (λ (t : TypeTable). IsCutShort t c.args.collector start (events ++ c.in-Some.batch) c.feed_batch.new.desk.journal c.feed_batch.new.tally stop) same
    (c.in_err-feed_batch.ensures.err start events (subst (λ (t : TypeTable). HasTaken t c.args.collector start events c.loop-batch.desk.journal c.loop-batch.tally) (sym same) has)) in
    if_err_from (λ (s : Stop). (count : ℕ) → CountsStop s count count) c.from_residual.result stop c.from_residual.ensures.1
    (counts_no_read c.args.reader.now c.loop-batch.reader types c.args.collector c.args.desk.now.journal c.loop-batch.desk.journal c.args.tally.now c.loop-batch.tally c.loop-batch.invariant.now
    c.requires.types c.in-Some.batch c.take_batch.new.self.waiting c.in-Some.ensures.some stop c.feed_batch.new.desk.journal c.feed_batch.new.tally cut c.requires.taken.0 c.requires.taken.1 c.requires.taken.2)

pub returns-clause-going_on : goal.returns-clause-going_on
returns-clause-going_on c start fed has =
    subst (λ (r : ReaderState). HasTakenFrom HasRead c.args.collector start r fed c.loop-batch.desk.journal c.loop-batch.tally) (sym c.in_default.ensures.same)
    (waiting_from c.args.reader.now c.loop-batch.reader c.args.desk.now.setup.types c.args.collector c.args.desk.now.journal c.loop-batch.desk.journal c.args.tally.now c.loop-batch.tally c.loop-batch.invariant.now
    c.requires.types HasRead c.loop-batch.invariant.now.going_on start fed has)

pub returns-clause-at_end : goal.returns-clause-at_end
returns-clause-at_end c start fed has =
    subst (λ (r : ReaderState). HasTakenFrom HasReadToEnd c.args.collector start r fed c.loop-batch.desk.journal c.loop-batch.tally) (sym c.in_default.ensures.same)
    (waiting_from c.args.reader.now c.loop-batch.reader c.args.desk.now.setup.types c.args.collector c.args.desk.now.journal c.loop-batch.desk.journal c.args.tally.now c.loop-batch.tally c.loop-batch.invariant.now
    c.requires.types HasReadToEnd c.loop-batch.invariant.now.at_end start fed has)
