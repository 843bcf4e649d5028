use Rattle.std.proofs.Common.{◌≡◌, ◌++◌, List, ℕ, inl, ◌∙◌, ap, subst}
use Rattle.causal_base.specs.declared.entry.Entry.{Entry}
use Rattle.causal_base.specs.Types.{TypeTable}
use Rattle.raw_reader.specs.ReaderState.{ReaderState, HasRead}
use Rattle.poet_serve.specs.declared.report.Stop.{Stop}
use Rattle.poet_serve.specs.Tallies.{TallyState, HasTakenFrom, IsStopped}
use Rattle.poet_serve.proofs.Exits.{if_err_from}
use Rattle.poet_serve.proofs.Pieces.{stands_for_more, refused}
use Rattle.poet_serve.proofs.collecting.feed_piece.Goals as goal
use Rattle.poet_serve.proofs.collecting.feed_piece.Goals.{After-feed-fed}

-- what was fed now was fed
fed_more : (c : After-feed-fed) (start : List Entry) (fed : List ℕ) (journal : List Entry) (tally : TallyState) → HasTakenFrom HasRead c.args.collector start c.args.reader.now fed journal tally → HasTakenFrom HasRead c.args.collector start c.feed-fed.new.self (fed ++ c.args.piece.now) journal tally
fed_more c start fed journal tally has = stands_for_more HasRead HasRead c.args.collector start c.args.reader.now c.feed-fed.new.self fed (fed ++ c.args.piece.now) journal tally c.feed-fed.ensures.types (c.feed-fed.ensures.stands fed) has

pub feed_waiting-requires-clause-taken : goal.feed_waiting-requires-clause-taken
feed_waiting-requires-clause-taken c =
    let at = (goal.at.feed_waiting-requires-clause-taken c).After-feed-fed in
    (c.requires.taken.0, c.requires.taken.1 ++ c.args.piece.now, inl (fed_more at c.requires.taken.0 c.requires.taken.1 c.args.desk.now.journal c.args.tally.now c.requires.taken.2))

pub returns-in_err-feed_waiting-clause-err : goal.returns-in_err-feed_waiting-clause-err
returns-in_err-feed_waiting-clause-err c =
    let at = (goal.at.returns-in_err-feed_waiting-clause-err c).After-feed-fed in
    let stop = c.in_err-feed_waiting.field-0.0 in
    if_err_from (λ (s : Stop). (start : List Entry) (fed more left : List ℕ) → HasTakenFrom HasRead c.args.collector start c.args.reader.now fed c.args.desk.now.journal c.args.tally.now
    → IsStopped c.args.reader.now.types c.args.collector start ((fed ++ c.args.piece.now) ++ more) left s c.feed_waiting.new.desk.journal c.feed_waiting.new.tally)
    c.from_residual.result stop c.from_residual.ensures.1
    (λ start fed more left has. subst (λ (t : TypeTable). IsStopped t c.args.collector start ((fed ++ c.args.piece.now) ++ more) left stop c.feed_waiting.new.desk.journal c.feed_waiting.new.tally) c.feed-fed.ensures.types
    (c.in_err-feed_waiting.ensures.err start (fed ++ c.args.piece.now) more left (fed_more at start fed c.args.desk.now.journal c.args.tally.now has)))

pub returns-in-Ok-clause-ok : goal.returns-in-Ok-clause-ok
returns-in-Ok-clause-ok c start fed has =
    let at = (goal.at.returns-in-Ok-clause-ok c).After-feed-fed in
    c.in_ok-feed_waiting.ensures.going_on start (fed ++ c.args.piece.now) (fed_more at start fed c.args.desk.now.journal c.args.tally.now has)

pub returns-in-Err-clause-err : goal.returns-in-Err-clause-err
returns-in-Err-clause-err c start fed more left has =
    let at = (goal.at.returns-in-Err-clause-err c).After-feed-fed in
    let reader = c.feed_waiting.new.reader in
    let rest = c.in_ok-feed_waiting.ensures.none_waits in
    let types : reader.types ≡ c.args.reader.now.types = ap (λ (r : ReaderState). r.types) rest ∙ c.feed-fed.ensures.types in
    let now = c.in_ok-feed_waiting.ensures.going_on start (fed ++ c.args.piece.now) (fed_more at start fed c.args.desk.now.journal c.args.tally.now has) in
    subst (λ (t : TypeTable). IsStopped t c.args.collector start ((fed ++ c.args.piece.now) ++ more) left c.stop_of.result c.feed_waiting.new.desk.journal c.feed_waiting.new.tally) types
    (refused c.args.collector start reader (fed ++ c.args.piece.now) c.feed_waiting.new.desk.journal c.feed_waiting.new.tally (ap (λ (r : ReaderState). r.waiting) rest) more left c.in-Err.error c.stop_of.result
    (ap (λ (r : ReaderState). r.refusal) rest ∙ c.in-Err.ensures.err) c.stop_of.ensures now)
