use Rattle.std.proofs.Common.{◌≡◌, List, ℕ, inl, inr, sym, ◌∙◌, ap, subst}
use Rattle.causal_base.specs.declared.entry.Entry.{Entry}
use Rattle.causal_base.specs.Types.{TypeTable}
use Rattle.raw_reader.specs.ReaderState.{ReaderState, HasRead, HasReadToEnd}
use Rattle.poet_top.specs.Ask.{HasBadLine}
use Rattle.poet_top.specs.FaultOutcome.{ShowsFault}
use Rattle.poet_top.specs.Taking.{HasTakenFrom, HasTakenAll}
use Rattle.poet_top.proofs.Pieces.{stands_for_more, bad_end, good_end}
use Rattle.poet_top.proofs.taking.take_end.Goals as goal
use Rattle.poet_top.proofs.taking.take_end.Goals.{After-end-ended}

-- the text has ended
ended : (c : After-end-ended) (fed : List ℕ) (journal : List Entry) → HasTakenFrom HasRead c.args.reader.now fed journal → HasTakenFrom HasReadToEnd c.end-ended.new.self fed journal
ended c fed journal has = stands_for_more HasRead HasReadToEnd c.args.reader.now c.end-ended.new.self fed fed journal c.end-ended.ensures.types (c.end-ended.ensures.stands fed) has

pub returns-in-Ok-clause-ok : goal.returns-in-Ok-clause-ok
returns-in-Ok-clause-ok c fed has =
    let at = (goal.at.returns-in-Ok-clause-ok c).After-end-ended in
    let reader = c.offer_waiting.new.reader in
    let rest = c.in_ok-offer_waiting.ensures.none_waits in
    let types : reader.types ≡ c.args.plain.now.types = ap (λ (r : ReaderState). r.types) rest ∙ (c.end-ended.ensures.types ∙ c.requires.types) in
    let now = c.in_ok-offer_waiting.ensures.at_end fed (ended at fed c.args.plain.now.journal has) in
    subst (λ (t : TypeTable). HasTakenAll t fed c.offer_waiting.new.plain.journal) types
    (good_end reader fed c.offer_waiting.new.plain.journal (ap (λ (r : ReaderState). r.waiting) rest) (ap (λ (r : ReaderState). r.refusal) rest ∙ c.in-Ok.ensures.ok) now)

pub returns-in-Err-clause-err : goal.returns-in-Err-clause-err
returns-in-Err-clause-err c fed has =
    let at = (goal.at.returns-in-Err-clause-err c).After-end-ended in
    let reader = c.offer_waiting.new.reader in
    let rest = c.in_ok-offer_waiting.ensures.none_waits in
    let types : reader.types ≡ c.args.plain.now.types = ap (λ (r : ReaderState). r.types) rest ∙ (c.end-ended.ensures.types ∙ c.requires.types) in
    elim c.of_line.ensures [
      | inl memory ↦ subst (ShowsFault c.args.plain.now.types fed) (sym memory.1) tt
      | inr line ↦
          let now = c.in_ok-offer_waiting.ensures.at_end fed (ended at fed c.args.plain.now.journal has) in
          let bad = bad_end reader fed c.offer_waiting.new.plain.journal (ap (λ (r : ReaderState). r.waiting) rest) c.in-Err.error
          (ap (λ (r : ReaderState). r.refusal) rest ∙ c.in-Err.ensures.err) line.0 now in
          subst (ShowsFault c.args.plain.now.types fed) (sym line.1) (subst (λ (t : TypeTable). HasBadLine t fed c.in-Err.error) types bad)
    ]
