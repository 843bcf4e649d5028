use Rattle.std.proofs.Common.{◌≡◌, ◌++◌, List, ℕ, inl, inr, sym, ◌∙◌, ap, subst}
use Rattle.causal_base.specs.declared.entry.Entry.{Entry}
use Rattle.causal_base.specs.Types.{TypeTable}
use Rattle.raw_reader.specs.ReaderState.{ReaderState, HasRead}
use Rattle.poet_top.specs.Ask.{HasBadLine}
use Rattle.poet_top.specs.FaultOutcome.{ShowsFault}
use Rattle.poet_top.specs.Taking.{HasTakenFrom}
use Rattle.poet_top.proofs.Pieces.{stands_for_more, bad_line}
use Rattle.poet_top.proofs.taking.take_piece.Goals as goal
use Rattle.poet_top.proofs.taking.take_piece.Goals.{After-feed-fed}

-- what was fed now was fed
fed_more : (c : After-feed-fed) (fed : List ℕ) (journal : List Entry) → HasTakenFrom HasRead c.args.reader.now fed journal → HasTakenFrom HasRead c.feed-fed.new.self (fed ++ c.args.piece.now) journal
fed_more c fed journal has = stands_for_more HasRead HasRead c.args.reader.now c.feed-fed.new.self fed (fed ++ c.args.piece.now) journal c.feed-fed.ensures.types (c.feed-fed.ensures.stands fed) has

pub offer_waiting-requires-clause-fed : goal.offer_waiting-requires-clause-fed
offer_waiting-requires-clause-fed c =
    let at = (goal.at.offer_waiting-requires-clause-fed c).After-feed-fed in
    (c.requires.fed.0 ++ c.args.piece.now, inl (fed_more at c.requires.fed.0 c.args.plain.now.journal c.requires.fed.1))

pub returns-in-Ok-clause-ok : goal.returns-in-Ok-clause-ok
returns-in-Ok-clause-ok c fed has =
    let at = (goal.at.returns-in-Ok-clause-ok c).After-feed-fed in
    c.in_ok-offer_waiting.ensures.going_on (fed ++ c.args.piece.now) (fed_more at fed c.args.plain.now.journal has)

pub returns-in-Err-clause-err : goal.returns-in-Err-clause-err
returns-in-Err-clause-err c fed more has =
    let at = (goal.at.returns-in-Err-clause-err c).After-feed-fed in
    let bytes = (fed ++ c.args.piece.now) ++ more in
    let reader = c.offer_waiting.new.reader in
    let rest = c.in_ok-offer_waiting.ensures.none_waits in
    let types : reader.types ≡ c.args.plain.now.types = ap (λ (r : ReaderState). r.types) rest ∙ (c.feed-fed.ensures.types ∙ c.requires.types) in
    elim c.of_line.ensures [
      | inl memory ↦ subst (ShowsFault c.args.plain.now.types bytes) (sym memory.1) tt
      | inr line ↦
          let now = c.in_ok-offer_waiting.ensures.going_on (fed ++ c.args.piece.now) (fed_more at fed c.args.plain.now.journal has) in
          let bad = bad_line reader (fed ++ c.args.piece.now) c.offer_waiting.new.plain.journal (ap (λ (r : ReaderState). r.waiting) rest) more c.in-Err.error
          (ap (λ (r : ReaderState). r.refusal) rest ∙ c.in-Err.ensures.err) line.0 now in
          subst (ShowsFault c.args.plain.now.types bytes) (sym line.1) (subst (λ (t : TypeTable). HasBadLine t bytes c.in-Err.error) types bad)
    ]
