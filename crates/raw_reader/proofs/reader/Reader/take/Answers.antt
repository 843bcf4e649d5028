use Rattle.std.proofs.Common.{◌≡◌, cond, ◌+◌, ◌∷◌, [], ◌++◌, length, refl, sym, ◌∙◌, ap, subst, arith, append-nil}
use Rattle.std.specs.Option.{is_some}
use Rattle.raw_reader.specs.declared.cause.LineCause.TheVariants.{TooLarge, LongLine, Oom}
use Rattle.raw_reader.specs.EventParts.{IsOneLine}
use Rattle.raw_reader.specs.ReaderState.{ReaderState, HasRead}
use Rattle.raw_reader.proofs.ReaderSteps.{goes_on, going, still_refused, none_from, too_large, too_long, pushed, refused_at, out_at}
use Rattle.raw_reader.proofs.reader.Reader.take.Goals as goal

pub returns-then-is_some-clause-stands : goal.returns-then-is_some-clause-stands
returns-then-is_some-clause-stands c fed taken stands =
    still_refused c.args.self.now fed taken c.args.byte c.args.self.now.refusal (sym (ap (λ (r : ReaderState). is_some r.refusal) c.self.view_is) ∙ sym c.if-is_some.ensures) stands

pub returns-then-self-eq-MOST_INPUT-clause-stands : goal.returns-then-self-eq-MOST_INPUT-clause-stands
returns-then-self-eq-MOST_INPUT-clause-stands c fed taken stands =
    let reader = c.args.self.now in
    let none = none_from reader.refusal (sym (ap (λ (r : ReaderState). is_some r.refusal) c.self.view_is) ∙ sym c.if-is_some.ensures) in
    let on = goes_on reader fed taken none stands in
    refused_at reader fed (fed ++ c.args.byte ∷ []) taken on TooLarge c.refuse.new.self c.refuse.ensures
    (too_large reader fed taken on c.args.byte (sym (ap (λ (r : ReaderState). r.size) c.self.view_is) ∙ c.if-self-eq-MOST_INPUT.true))

pub returns-then-len-eq-MOST_LINE-clause-stands : goal.returns-then-len-eq-MOST_LINE-clause-stands
returns-then-len-eq-MOST_LINE-clause-stands c fed taken stands =
    let reader = c.args.self.now in
    let none = none_from reader.refusal (sym (ap (λ (r : ReaderState). is_some r.refusal) c.self.view_is) ∙ sym c.if-is_some.ensures) in
    let on = goes_on reader fed taken none stands in
    let size = ap (λ (r : ReaderState). r.size) c.self.view_is in
    let tail = ap (λ (r : ReaderState). length r.tail) c.self.view_is in
    let most = c.self.invariant.1 in
    refused_at reader fed (fed ++ c.args.byte ∷ []) taken on LongLine c.refuse-then-len-eq-MOST_LINE.new.self c.refuse-then-len-eq-MOST_LINE.ensures
    (too_long reader fed taken on c.args.byte (omega (arith, size, most, c.if-self-eq-MOST_INPUT.false)) c.if-byte-eq10.false (omega (arith, tail, c.len.ensures, c.if-len-eq-MOST_LINE.true)))

pub returns-then-is_err-clause-stands : goal.returns-then-is_err-clause-stands
returns-then-is_err-clause-stands c fed taken stands =
    let reader = c.args.self.now in
    let none = none_from reader.refusal (sym (ap (λ (r : ReaderState). is_some r.refusal) c.self.view_is) ∙ sym c.if-is_some.ensures) in
    let on = goes_on reader fed taken none stands in
    out_at reader fed taken on c.args.byte c.refuse-then-is_err.new.self (record { line = c.self.inside.lines + 1; cause = Oom })
    (ap (λ (r : ReaderState). r.refusal) c.refuse-then-is_err.ensures) (ap (λ (r : ReaderState). r.lines + 1) c.self.view_is) refl
    (ap (λ (r : ReaderState). r.types) c.refuse-then-is_err.ensures ∙ ap (λ (r : ReaderState). r.types) c.self.view_is)
    (ap (λ (r : ReaderState). r.waiting) c.refuse-then-is_err.ensures ∙ ap (λ (r : ReaderState). r.waiting) c.self.view_is)

pub returns-else-is_err-clause-stands : goal.returns-else-is_err-clause-stands
returns-else-is_err-clause-stands c fed taken stands =
    let reader = c.args.self.now in
    let none = none_from reader.refusal (sym (ap (λ (r : ReaderState). is_some r.refusal) c.self.view_is) ∙ sym c.if-is_some.ensures) in
    let on = goes_on reader fed taken none stands in
    let size = ap (λ (r : ReaderState). r.size) c.self.view_is in
    let tail = ap (λ (r : ReaderState). r.tail) c.self.view_is in
    let most = c.self.invariant.1 in
    let pushed_is : c.push.new.self.items ≡ reader.tail ++ c.args.byte ∷ [] =
    c.push.ensures.items ∙ (ap (λ b. cond b (c.self.inside.line.items ++ c.args.byte ∷ []) c.self.inside.line.items) c.if-is_err.ensures.negation ∙ ap (λ t. t ++ c.args.byte ∷ []) tail) in
    let later : ReaderState = record {
      types = c.self.inside.types.now;
      size = c.self.inside.size + 1;
      lines = c.self.inside.lines;
      tail = c.push.new.self.items;
      begun = c.self.inside.begun.items;
      waiting = c.self.inside.waiting.items;
      refusal = c.self.inside.refusal;
    } in
    let length_is = ap length tail in
    going later (fed ++ c.args.byte ∷ []) taken (ap (λ (r : ReaderState). r.refusal) c.self.view_is ∙ none)
    (pushed reader fed taken on later c.args.byte (omega (arith, size, most, c.if-self-eq-MOST_INPUT.false)) c.if-byte-eq10.false
    (let least = on.short in omega (arith, length_is, least, c.len.ensures, c.if-len-eq-MOST_LINE.false))
    (ap (λ (r : ReaderState). r.types) c.self.view_is) (ap (λ n. n + 1) size) (ap (λ (r : ReaderState). r.lines) c.self.view_is) pushed_is
    (ap (λ (r : ReaderState). r.begun) c.self.view_is) (ap (λ (r : ReaderState). r.waiting) c.self.view_is))

pub returns-then-byte-eq10-clause-stands : goal.returns-then-byte-eq10-clause-stands
returns-then-byte-eq10-clause-stands c fed taken stands =
    let reader = c.args.self.now in
    let none = none_from reader.refusal (sym (ap (λ (r : ReaderState). is_some r.refusal) c.self.view_is) ∙ sym c.if-is_some.ensures) in
    let on = goes_on reader fed taken none stands in
    let line = c.as_slice.result.now in
    let is : reader.tail ≡ line = sym (c.as_slice.ensures.value ∙ ap (λ (r : ReaderState). r.tail) c.self.view_is) in
    subst (λ byte. HasRead c.end_line.new.self (fed ++ byte ∷ []) taken) (sym c.if-byte-eq10.true)
    (c.end_line.ensures.stands line [] fed taken (append-nil reader.tail ∙ is) (subst IsOneLine is on.one_line) (let size = ap length is in let short = on.short in omega (arith, size, short)) refl
    c.line_read-read.ensures.ok c.line_read-read.ensures.err stands)
