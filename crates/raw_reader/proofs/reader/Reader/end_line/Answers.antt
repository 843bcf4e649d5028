use Rattle.std.proofs.Common.{◌≡◌, ◌<◌, ℕ, List, ◌+◌, ◌∷◌, [], ◌++◌, inl, inr, refl, sym, ◌∙◌, ap, subst, arith, append_assoc}
use Rattle.causal_base.specs.declared.event.Event.{Event}
use Rattle.raw_reader.specs.declared.cause.LineCause.TheVariants.{Oom}
use Rattle.raw_reader.specs.declared.cause.LineError.{LineError}
use Rattle.raw_reader.specs.declared.limits.TheConstants.{MOST_INPUT}
use Rattle.raw_reader.specs.ReaderState.{ReaderState, HasRead}
use Rattle.raw_reader.specs.Texts.{Batches, line_of}
use Rattle.raw_reader.proofs.Exits.{at_ok, at_err}
use Rattle.raw_reader.proofs.ReaderSteps.{with_line, line_on, goes_on, going, refused, met, line_ended, bad_line, out_at}
use Rattle.raw_reader.proofs.Waiting.{keeps_same, keeps_more}
use Rattle.raw_reader.proofs.reader.Reader.end_line.Goals as goal

-- what was read up to a line feed behind these bytes
up_to_feed : (reader : ReaderState) (fed more : List ℕ) (taken : List (List Event)) → HasRead reader ((fed ++ more) ++ 10 ∷ []) taken → HasRead reader (fed ++ (more ++ 10 ∷ [])) taken
up_to_feed reader fed more taken stands = subst (λ bytes. HasRead reader bytes taken) (append_assoc fed more (10 ∷ [])) stands

pub returns-in-Err-clause-stands : goal.returns-in-Err-clause-stands
returns-in-Err-clause-stands c line more fed taken is one_line short count ok err stands =
    let reader = c.args.self.now in
    let whole = with_line reader line more in
    let room : whole.size < MOST_INPUT = omega (arith, count, c.requires.room) in
    let on = line_on reader fed taken (goes_on reader fed taken c.requires.going stands) line more is one_line short (omega (arith, room)) in
    let why = rw c.in-Err.is at err in
    let later = c.refuse-in-Err.new.self in
    let error : LineError = record { line = reader.lines + 1; cause = c.in-Err.cause } in
    let some = ap (λ (r : ReaderState). r.refusal) c.refuse-in-Err.ensures in
    let types = ap (λ (r : ReaderState). r.types) c.refuse-in-Err.ensures in
    let waiting = ap (λ (r : ReaderState). r.waiting) c.refuse-in-Err.ensures in
    up_to_feed later fed more taken (elim why [
      | inl oom ↦ out_at whole (fed ++ more) taken on 10 later error some refl oom types waiting
      | inr wrong ↦ refused later ((fed ++ more) ++ 10 ∷ []) taken error some (inr (met whole (fed ++ more) taken on later ((fed ++ more) ++ 10 ∷ []) error types waiting
          (bad_line whole (fed ++ more) taken on c.in-Err.cause room wrong.0 wrong.1)))
    ])

-- the batches of a reader that weren't taken
abbrev batches_in : ReaderState → Batches
batches_in r = record { closed = r.waiting; begun = r.begun }

pub returns-then-is_err-clause-stands : goal.returns-then-is_err-clause-stands
returns-then-is_err-clause-stands c line more fed taken is one_line short count ok err stands =
    let reader = c.args.self.now in
    let whole = with_line reader line more in
    let room : whole.size < MOST_INPUT = omega (arith, count, c.requires.room) in
    let on = line_on reader fed taken (goes_on reader fed taken c.requires.going stands) line more is one_line short (omega (arith, room)) in
    let waiting = at_err c.add.result (sym c.if-is_err.ensures.value) c.add.ensures.err in
    up_to_feed c.refuse.new.self fed more taken
    (out_at whole (fed ++ more) taken on 10 c.refuse.new.self (record { line = c.add.new.self.lines + 1; cause = Oom })
    (ap (λ (r : ReaderState). r.refusal) c.refuse.ensures) (ap (λ (r : ReaderState). r.lines + 1) c.add.ensures.rest) refl
    (ap (λ (r : ReaderState). r.types) c.refuse.ensures ∙ ap (λ (r : ReaderState). r.types) c.add.ensures.rest)
    (ap (λ (r : ReaderState). r.waiting) c.refuse.ensures ∙ waiting))

pub returns-else-is_err-clause-stands : goal.returns-else-is_err-clause-stands
returns-else-is_err-clause-stands c line more fed taken is one_line short count ok err stands =
    let reader = c.args.self.now in
    let whole = with_line reader line more in
    let room : whole.size < MOST_INPUT = omega (arith, count, c.requires.room) in
    let on = line_on reader fed taken (goes_on reader fed taken c.requires.going stands) line more is one_line short (omega (arith, room)) in
    let view = c.self.view_is ∙ c.add.ensures.rest in
    let batches = at_ok c.add.result (sym c.if-is_err.ensures.value) c.add.ensures.ok in
    let said = rw c.in-Ok.is at ok in
    let later : ReaderState = record {
      types = c.self.inside.types.now;
      size = c.self.inside.size + c.args.bytes;
      lines = c.self.inside.lines + 1;
      tail = c.clear.new.self.items;
      begun = c.self.inside.begun.items;
      waiting = c.self.inside.waiting.items;
      refusal = c.self.inside.refusal;
    } in
    let kept = ap (λ (r : ReaderState). batches_in r) c.self.view_is in
    let old_size = ap (λ (r : ReaderState). r.size) view in
    let size : later.size ≡ whole.size + 1 = omega (arith, old_size, count) in
    up_to_feed later fed more taken (going later ((fed ++ more) ++ 10 ∷ []) taken (ap (λ (r : ReaderState). r.refusal) view ∙ c.requires.going)
    (line_ended whole (fed ++ more) taken on later (line_of c.in-Ok.said) room said.0 said.1
    (ap (λ (r : ReaderState). r.types) view) size (ap (λ (r : ReaderState). r.lines + 1) view) c.clear.ensures.items
    (kept ∙ batches)))

pub returns-then-is_err-clause-kept : goal.returns-then-is_err-clause-kept
returns-then-is_err-clause-kept c =
    keeps_same c.args.self.now c.refuse.new.self (ap (λ (r : ReaderState). r.waiting) c.refuse.ensures ∙ at_err c.add.result (sym c.if-is_err.ensures.value) c.add.ensures.err)

pub returns-else-is_err-clause-kept : goal.returns-else-is_err-clause-kept
returns-else-is_err-clause-kept c =
    let batches = at_ok c.add.result (sym c.if-is_err.ensures.value) c.add.ensures.ok in
    let kept = ap (λ (r : ReaderState). batches_in r) c.self.view_is in
    keeps_more c.args.self.now _ (batches_in c.args.self.now) (line_of c.in-Ok.said) refl (ap (λ (b : Batches). b.closed) (kept ∙ batches))
