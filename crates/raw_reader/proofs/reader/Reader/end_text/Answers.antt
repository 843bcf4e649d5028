use Rattle.std.proofs.Common.{◌≡◌, ◌+◌, List, ◌∷◌, [], length, refl, sym, ◌∙◌, ap, arith}
use Rattle.std.specs.Prelude.{vec_len}
use Rattle.std.proofs.lemmas.Bool.{eqb-true, eqb-false}
use Rattle.raw_reader.specs.declared.cause.LineCause.TheVariants.{Oom}
use Rattle.raw_reader.specs.ReaderState.{ReaderState}
use Rattle.raw_reader.specs.Texts.{Batches, stop}
use Rattle.raw_reader.proofs.Exits.{at_ok, at_err}
use Rattle.raw_reader.proofs.ReaderSteps.{goes_on, ends_within, ends_out, ends_well}
use Rattle.raw_reader.proofs.Waiting.{keeps_same, keeps_more}
use Rattle.raw_reader.proofs.reader.Reader.end_text.Goals as goal

nil_from_length : {A : Type 0} (xs : List A) → length xs ≡ 0 → xs ≡ []
nil_from_length [] none = refl
nil_from_length (x ∷ xs) none = absurd (omega (arith, none))

pub returns-then-not-is_empty-clause-stands : goal.returns-then-not-is_empty-clause-stands
returns-then-not-is_empty-clause-stands c fed taken stands =
    let reader = c.args.self.now in
    let tail = ap (λ (r : ReaderState). r.tail) c.self.view_is in
    let some = eqb-false (vec_len c.self.inside.line) 0 (sym c.if-not-is_empty.ensures) in
    ends_within reader fed taken (goes_on reader fed taken c.requires stands) (λ none. some (c.self.inside.line.ok.0 ∙ (ap length tail ∙ ap length none))) c.refuse.new.self c.refuse.ensures

pub returns-then-is_err-clause-stands : goal.returns-then-is_err-clause-stands
returns-then-is_err-clause-stands c fed taken stands =
    let reader = c.args.self.now in
    let waiting = at_err c.add.result (sym c.if-is_err.ensures.value) c.add.ensures.err in
    ends_out reader fed taken (goes_on reader fed taken c.requires stands) c.refuse-then-is_err.new.self (record { line = c.add.new.self.lines + 1; cause = Oom })
    (ap (λ (r : ReaderState). r.refusal) c.refuse-then-is_err.ensures) (ap (λ (r : ReaderState). r.lines + 1) c.add.ensures.rest) refl
    (ap (λ (r : ReaderState). r.types) c.refuse-then-is_err.ensures ∙ ap (λ (r : ReaderState). r.types) c.add.ensures.rest)
    (ap (λ (r : ReaderState). r.waiting) c.refuse-then-is_err.ensures ∙ waiting)

pub returns-else-is_err-clause-stands : goal.returns-else-is_err-clause-stands
returns-else-is_err-clause-stands c fed taken stands =
    let reader = c.args.self.now in
    let batches = at_ok c.add.result (sym c.if-is_err.ensures.value) c.add.ensures.ok in
    let tail = ap (λ (r : ReaderState). r.tail) c.self.view_is in
    let empty = eqb-true (vec_len c.self.inside.line) 0 (sym c.if-not-is_empty.ensures) in
    let none = nil_from_length reader.tail (sym (ap length tail) ∙ (sym c.self.inside.line.ok.0 ∙ empty)) in
    ends_well reader fed taken (goes_on reader fed taken c.requires stands) none c.add.new.self
    (ap (λ (r : ReaderState). r.refusal) c.add.ensures.rest ∙ c.requires) (ap (λ (r : ReaderState). r.types) c.add.ensures.rest) (ap (λ (b : Batches). b.closed) batches)

pub returns-then-is_err-clause-kept : goal.returns-then-is_err-clause-kept
returns-then-is_err-clause-kept c =
    keeps_same c.args.self.now c.refuse-then-is_err.new.self (ap (λ (r : ReaderState). r.waiting) c.refuse-then-is_err.ensures ∙ at_err c.add.result (sym c.if-is_err.ensures.value) c.add.ensures.err)

pub returns-else-is_err-clause-kept : goal.returns-else-is_err-clause-kept
returns-else-is_err-clause-kept c =
    let batches = at_ok c.add.result (sym c.if-is_err.ensures.value) c.add.ensures.ok in
    keeps_more c.args.self.now c.add.new.self (record { closed = c.args.self.now.waiting; begun = c.args.self.now.begun }) stop refl (ap (λ (b : Batches). b.closed) batches)
