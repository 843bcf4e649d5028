use Rattle.std.proofs.Common.{◌≡◌, inl, inr, refl, sym, ◌∙◌, subst, arith, true, false}
use Rattle.std.specs.Prelude.{IfSome}
use Rattle.causal_base.specs.Fields.{IsIdInRange}
use Rattle.raw_reader.specs.declared.cause.LineCause.TheVariants.{BadTime, LongText}
use Rattle.causal_base.specs.Refusals.{IsFirst}
use Rattle.causal_base.proofs.CallerLemmas.{first_of_some, first_of_more}
use Rattle.raw_reader.specs.Causes.{Fields, AreFields, HasType, IsCause, id_faults, mate_faults, end_faults}
use Rattle.raw_reader.proofs.Exits.{if_err_from}
use Rattle.raw_reader.proofs.FirstFaults.{shape_cause, id_has_none, are_fields, later_cause, mate_has_none, in_range_of, mate_range, text_in_line}
use Rattle.raw_reader.proofs.event_parts.parts_of.Goals as goal

pub returns-then-not-has_four-clause-err : goal.returns-then-not-has_four-clause-err
returns-then-not-has_four-clause-err c =
    let s = c.in-Some.split in
    let fields : Fields = record { id = s.id.now; name = s.name.now; mate = s.mate.now; time = s.time.now; text = s.text.now } in
    shape_cause c.args.types.now c.args.line.now fields c.in-Some.ensures.found (λ four.
    let yes = c.has_four.ensures.1 four in
    let clash : true ≡ false = sym yes ∙ c.if-not-has_four.true in
    cc)

pub returns-in_err-id-clause-err : goal.returns-in_err-id-clause-err
returns-in_err-id-clause-err c =
    let s = c.in-Some.split in
    let fields : Fields = record { id = s.id.now; name = s.name.now; mate = s.mate.now; time = s.time.now; text = s.text.now } in
    let are : AreFields c.args.line.now fields = are_fields c.args.line.now fields c.in-Some.ensures.found (c.has_four.ensures.0 c.if-not-has_four.false) in
    let cause = c.in_err-id.field-0.0 in
    let first = subst (λ traces. IsFirst (id_faults traces fields.id) cause) c.traces-traces.ensures.number c.in_err-id.ensures.err in
    if_err_from (IsCause c.args.types.now c.args.line.now) c.from_residual.result cause c.from_residual.ensures.1 (inr (fields, are, inl first))

pub returns-in_default-type_of-clause-err : goal.returns-in_default-type_of-clause-err
returns-in_default-type_of-clause-err c =
    let s = c.in-Some.split in
    let fields : Fields = record { id = s.id.now; name = s.name.now; mate = s.mate.now; time = s.time.now; text = s.text.now } in
    let are : AreFields c.args.line.now fields = are_fields c.args.line.now fields c.in-Some.ensures.found (c.has_four.ensures.0 c.if-not-has_four.false) in
    let in_range : IsIdInRange fields.id c.args.types.now.traces c.in_ok-id.id = subst (λ traces. IsIdInRange fields.id traces c.in_ok-id.id) c.traces-traces.ensures.number c.in_ok-id.ensures.ok in
    inr (fields, are, inr (id_has_none c.args.types.now.traces fields.id c.in_ok-id.id in_range, inl (c.in_default-type_of.ensures.none, refl)))

pub returns-in_err-mate-clause-err : goal.returns-in_err-mate-clause-err
returns-in_err-mate-clause-err c =
    let s = c.in-Some.split in
    let fields : Fields = record { id = s.id.now; name = s.name.now; mate = s.mate.now; time = s.time.now; text = s.text.now } in
    let are : AreFields c.args.line.now fields = are_fields c.args.line.now fields c.in-Some.ensures.found (c.has_four.ensures.0 c.if-not-has_four.false) in
    let in_range : IsIdInRange fields.id c.args.types.now.traces c.in_ok-id.id = subst (λ traces. IsIdInRange fields.id traces c.in_ok-id.id) c.traces-traces.ensures.number c.in_ok-id.ensures.ok in
    let has : HasType c.args.types.now fields.name c.kind.result = record { type_no = c.in-Some-type_of.type_no; in_table = c.in-Some-type_of.ensures.below; named = c.in-Some-type_of.ensures.named; is_of_kind = c.kind.ensures.kind } in
    let cause = c.in_err-mate.field-0.0 in
    let first = subst (λ traces. IsFirst (mate_faults traces c.kind.result fields.mate) cause) c.traces-traces.ensures.number c.in_err-mate.ensures.err in
    if_err_from (IsCause c.args.types.now c.args.line.now) c.from_residual-in_err-mate.result cause c.from_residual-in_err-mate.ensures.1
    (later_cause c.args.types.now c.args.line.now fields c.in_ok-id.id c.kind.result cause are in_range has (first_of_some (mate_faults c.args.types.now.traces c.kind.result fields.mate) (end_faults fields.time fields.text) cause first))

pub returns-in_default-number_of-clause-err : goal.returns-in_default-number_of-clause-err
returns-in_default-number_of-clause-err c =
    let s = c.in-Some.split in
    let fields : Fields = record { id = s.id.now; name = s.name.now; mate = s.mate.now; time = s.time.now; text = s.text.now } in
    let are : AreFields c.args.line.now fields = are_fields c.args.line.now fields c.in-Some.ensures.found (c.has_four.ensures.0 c.if-not-has_four.false) in
    let in_range : IsIdInRange fields.id c.args.types.now.traces c.in_ok-id.id = subst (λ traces. IsIdInRange fields.id traces c.in_ok-id.id) c.traces-traces.ensures.number c.in_ok-id.ensures.ok in
    let has : HasType c.args.types.now fields.name c.kind.result = record { type_no = c.in-Some-type_of.type_no; in_table = c.in-Some-type_of.ensures.below; named = c.in-Some-type_of.ensures.named; is_of_kind = c.kind.ensures.kind } in
    let none = mate_has_none c.args.types.now.traces c.kind.result fields.mate c.in_ok-mate.mate c.in_ok-mate.ensures.found (subst (λ traces. IfSome c.in_ok-mate.mate (IsIdInRange fields.mate traces)) c.traces-traces.ensures.number c.in_ok-mate.ensures.in_range) c.in_ok-mate.ensures.dash in
    later_cause c.args.types.now c.args.line.now fields c.in_ok-id.id c.kind.result BadTime are in_range has
    (first_of_more (mate_faults c.args.types.now.traces c.kind.result fields.mate) (end_faults fields.time fields.text) BadTime none (inl (c.in_default-number_of.ensures.none, refl)))

pub returns-then-split-gt-MOST_TEXT-clause-err : goal.returns-then-split-gt-MOST_TEXT-clause-err
returns-then-split-gt-MOST_TEXT-clause-err c =
    let s = c.in-Some.split in
    let fields : Fields = record { id = s.id.now; name = s.name.now; mate = s.mate.now; time = s.time.now; text = s.text.now } in
    let are : AreFields c.args.line.now fields = are_fields c.args.line.now fields c.in-Some.ensures.found (c.has_four.ensures.0 c.if-not-has_four.false) in
    let in_range : IsIdInRange fields.id c.args.types.now.traces c.in_ok-id.id = subst (λ traces. IsIdInRange fields.id traces c.in_ok-id.id) c.traces-traces.ensures.number c.in_ok-id.ensures.ok in
    let has : HasType c.args.types.now fields.name c.kind.result = record { type_no = c.in-Some-type_of.type_no; in_table = c.in-Some-type_of.ensures.below; named = c.in-Some-type_of.ensures.named; is_of_kind = c.kind.ensures.kind } in
    let none = mate_has_none c.args.types.now.traces c.kind.result fields.mate c.in_ok-mate.mate c.in_ok-mate.ensures.found (subst (λ traces. IfSome c.in_ok-mate.mate (IsIdInRange fields.mate traces)) c.traces-traces.ensures.number c.in_ok-mate.ensures.in_range) c.in_ok-mate.ensures.dash in
    later_cause c.args.types.now c.args.line.now fields c.in_ok-id.id c.kind.result LongText are in_range has
    (first_of_more (mate_faults c.args.types.now.traces c.kind.result fields.mate) (end_faults fields.time fields.text) LongText none (inr ((λ error no_number. no_number.0 c.in-Some-number_of.time c.in-Some-number_of.ensures.found), inl (omega (arith, c.if-split-gt-MOST_TEXT.true), refl))))

pub returns-clause-fit : goal.returns-clause-fit
returns-clause-fit c one_line =
    let s = c.in-Some.split in
    let traces = c.traces-traces.ensures.number in
    let id = subst (λ n. IsIdInRange s.id.now n c.in_ok-id.id) traces c.in_ok-id.ensures.ok in
    record {
      id = in_range_of c.args.types.now s.id.now c.in_ok-id.id id;
      kind = c.kind.result;
      is_of_kind = c.kind.ensures.kind;
      mate = c.in_ok-mate.ensures.found;
      mate_in_range = mate_range c.args.types.now s.mate.now c.in_ok-mate.mate (subst (λ n. IfSome c.in_ok-mate.mate (IsIdInRange s.mate.now n)) traces c.in_ok-mate.ensures.in_range);
      time = c.in-Some-number_of.ensures.found.small;
      text_length = omega (arith, c.if-split-gt-MOST_TEXT.false);
      one_line = λ has. one_line (text_in_line c.args.line.now s.id.now s.name.now s.mate.now s.time.now s.text.now 10 c.in-Some.ensures.found has);
    }
