use Rattle.std.proofs.Common.{◌≡◌, ◌≢◌, inr, sym, ◌∙◌, ap, subst, true, false}
use Rattle.std.specs.Prelude.{codes}
use Rattle.std.proofs.lemmas.Slice.Eq.{bytes_eq-Decides}
use Rattle.causal_base.specs.Event.{IsFit}
use Rattle.causal_base.specs.Spelling.{spelling}
use Rattle.raw_reader.specs.Causes.{IsCause}
use Rattle.raw_reader.specs.ReaderState.{ReaderState}
use Rattle.raw_reader.proofs.reader.Reader.line_read.Goals as goal

pub returns-in-Err-clause-err : goal.returns-in-Err-clause-err
returns-in-Err-clause-err c =
    let types = ap (λ (r : ReaderState). r.types) c.self.view_is in
    let other : c.args.line.now ≢ codes "." = λ same.
    let alike = (bytes_eq-Decides c.args.line.now c.as_slice.result.now).1 (same ∙ sym c.as_slice.ensures) in
    let clash : true ≡ false = sym alike ∙ sym c.if-eq.ensures in
    cc in
    inr (other, subst (λ t. IsCause t c.args.line.now c.in-Err.cause) types c.in-Err.ensures.err)

pub returns-in-Ok-event_from_parts-clause-ok : goal.returns-in-Ok-event_from_parts-clause-ok
returns-in-Ok-event_from_parts-clause-ok c =
    let event = c.in-Ok-event_from_parts.event in
    let types = ap (λ (r : ReaderState). r.types) c.self.view_is in
    let is = sym c.in-Ok-event_from_parts.ensures in (
      subst (λ t. IsFit t event) types (subst (λ e. IsFit c.self.inside.types.now e) is (c.in-Ok.ensures.fit c.requires)),
      c.in-Ok.ensures.spelled ∙ (ap (λ e. spelling c.self.inside.types.now e) is ∙ ap (λ t. spelling t event) types),
    )
