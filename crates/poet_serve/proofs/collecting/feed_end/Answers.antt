use Rattle.std.proofs.Common.{◌≡◌, List, [], ℕ, inr, ◌∙◌, ap, subst}
use Rattle.causal_base.specs.declared.entry.Entry.{Entry}
use Rattle.causal_base.specs.Types.{TypeTable}
use Rattle.raw_reader.specs.ReaderState.{ReaderState, HasRead, HasReadToEnd}
use Rattle.poet_serve.specs.declared.report.Stop.TheVariants.{End}
use Rattle.poet_serve.specs.Tallies.{TallyState, HasTakenFrom, IsStopped}
use Rattle.poet_serve.proofs.Pieces.{stands_for_more, good_end, bad_end}
use Rattle.poet_serve.proofs.collecting.feed_end.Goals as goal
use Rattle.poet_serve.proofs.collecting.feed_end.Goals.{After-end-ended}

-- the text has ended
ended : (c : After-end-ended) (start : List Entry) (fed : List ℕ) (journal : List Entry) (tally : TallyState) → HasTakenFrom HasRead c.args.collector start c.args.reader.now fed journal tally → HasTakenFrom HasReadToEnd c.args.collector start c.end-ended.new.self fed journal tally
ended c start fed journal tally has = stands_for_more HasRead HasReadToEnd c.args.collector start c.args.reader.now c.end-ended.new.self fed fed journal tally c.end-ended.ensures.types (c.end-ended.ensures.stands fed) has

pub feed_waiting-requires-clause-taken : goal.feed_waiting-requires-clause-taken
feed_waiting-requires-clause-taken c =
    let at = (goal.at.feed_waiting-requires-clause-taken c).After-end-ended in
    (c.requires.taken.0, c.requires.taken.1, inr (ended at c.requires.taken.0 c.requires.taken.1 c.args.desk.now.journal c.args.tally.now c.requires.taken.2))

pub returns-in-Err-clause-stopped : goal.returns-in-Err-clause-stopped
returns-in-Err-clause-stopped c start fed has =
    let at = (goal.at.returns-in-Err-clause-stopped c).After-end-ended in
    subst (λ (t : TypeTable). IsStopped t c.args.collector start fed [] c.in-Err.stop c.feed_waiting.new.desk.journal c.feed_waiting.new.tally) c.end-ended.ensures.types
    (c.in-Err.ensures.err_at_end start fed [] (ended at start fed c.args.desk.now.journal c.args.tally.now has))

pub returns-in-Ok-clause-stopped : goal.returns-in-Ok-clause-stopped
returns-in-Ok-clause-stopped c start fed has =
    let at = (goal.at.returns-in-Ok-clause-stopped c).After-end-ended in
    let reader = c.feed_waiting.new.reader in
    let rest = c.in_default.ensures.none_waits in
    let types : reader.types ≡ c.args.reader.now.types = ap (λ (r : ReaderState). r.types) rest ∙ c.end-ended.ensures.types in
    let now = c.in_default.ensures.at_end start fed (ended at start fed c.args.desk.now.journal c.args.tally.now has) in
    subst (λ (t : TypeTable). IsStopped t c.args.collector start fed [] End c.feed_waiting.new.desk.journal c.feed_waiting.new.tally) types
    (good_end c.args.collector start reader fed c.feed_waiting.new.desk.journal c.feed_waiting.new.tally (ap (λ (r : ReaderState). r.waiting) rest) (ap (λ (r : ReaderState). r.refusal) rest ∙ c.in-Ok.ensures.ok) now)

pub returns-in-Err-ended-clause-stopped : goal.returns-in-Err-ended-clause-stopped
returns-in-Err-ended-clause-stopped c start fed has =
    let at = (goal.at.returns-in-Err-ended-clause-stopped c).After-end-ended in
    let reader = c.feed_waiting.new.reader in
    let rest = c.in_default.ensures.none_waits in
    let types : reader.types ≡ c.args.reader.now.types = ap (λ (r : ReaderState). r.types) rest ∙ c.end-ended.ensures.types in
    let now = c.in_default.ensures.at_end start fed (ended at start fed c.args.desk.now.journal c.args.tally.now has) in
    subst (λ (t : TypeTable). IsStopped t c.args.collector start fed [] c.stop_of.result c.feed_waiting.new.desk.journal c.feed_waiting.new.tally) types
    (bad_end c.args.collector start reader fed c.feed_waiting.new.desk.journal c.feed_waiting.new.tally (ap (λ (r : ReaderState). r.waiting) rest) c.in-Err-ended.error c.stop_of.result
    (ap (λ (r : ReaderState). r.refusal) rest ∙ c.in-Err-ended.ensures.err) c.stop_of.ensures now)
