use Rattle.std.proofs.Common.{◌≡◌, true, sym, ◌∙◌, ap, subst}
use Rattle.std.specs.Option.{is_some}
use Rattle.raw_reader.specs.ReaderState.{ReaderState, HasReadToEnd}
use Rattle.raw_reader.proofs.ReaderSteps.{ends_refused}
use Rattle.raw_reader.proofs.reader.Reader.end.Goals as goal
use Rattle.raw_reader.proofs.reader.Reader.end.Goals.{then-is_none, else-is_none}

pub returns-clause-stands : goal.returns-clause-stands
returns-clause-stands c fed taken stands =
    let reader = c.args.self.now in
    elim c.if-is_none.branch [
      | then-is_none w ↦ subst (λ (r : ReaderState). HasReadToEnd r fed taken) (sym w.self-is) (w.end_text.ensures.stands fed taken stands)
      | else-is_none w ↦
          let inside : is_some c.self.inside.refusal ≡ true = w.if-is_none.ensures in
          let some = ap (λ (r : ReaderState). is_some r.refusal) (sym c.self.view_is) ∙ inside in
          subst (λ (r : ReaderState). HasReadToEnd r fed taken) (sym w.self-is) (ends_refused reader fed taken reader.refusal some stands)
    ]
