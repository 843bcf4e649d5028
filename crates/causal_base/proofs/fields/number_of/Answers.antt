use Rattle.std.proofs.Common.{◌≡◌, ◌<◌, ◌^◌, length, get_or, take, take_all, sym, ◌∙◌, arith}
use Rattle.std.specs.Int.{IsInRange}
use Rattle.std.specs.Str.Parse.{digits_value}
use Rattle.std.proofs.lemmas.Bool.{eqb-false}
use Rattle.std.proofs.lemmas.Int.Digits.{digits_more}
use Rattle.std.proofs.lemmas.Str.Parse.{digit_at}
use Rattle.causal_base.proofs.Decimals.{IsShapedAsNumber, number_is_shaped, digits_are_number, digits_value_grows, front_is_small}
use Rattle.causal_base.proofs.fields.number_of.Goals as goal

pub returns-then-is_empty-clause-none : goal.returns-then-is_empty-clause-none
returns-then-is_empty-clause-none c n number =
    let shape : IsShapedAsNumber c.args.bytes.now = number_is_shaped _ n number in grind (arith, shape)

pub returns-then-bytes-gt1-clause-none : goal.returns-then-bytes-gt1-clause-none
returns-then-bytes-gt1-clause-none c n number =
    let shape : IsShapedAsNumber c.args.bytes.now = number_is_shaped _ n number in omega arith

pub returns-then-not-is_ascii_digit-clause-none : goal.returns-then-not-is_ascii_digit-clause-none
returns-then-not-is_ascii_digit-clause-none c n number =
    let shape : IsShapedAsNumber c.args.bytes.now = number_is_shaped _ n number in
    let digit : IsInRange 48 57 (get_or c.args.bytes.now c.loop-byte.byte-index 0) = digit_at _ _ shape.digits (omega arith) in
    omega (arith, digit, c.if-not-is_ascii_digit.ensures.cases)

pub overflow_mul-number : goal.overflow_mul-number
overflow_mul-number c =
    let small : digits_value 10 (take c.loop-byte.byte-index c.args.bytes.now) < 10 ^ 17 =
    front_is_small _ _ (omega arith) c.loop-byte.invariant.digits in
    omega arith

pub overflow_add-number : goal.overflow_add-number
overflow_add-number c =
    let small : digits_value 10 (take c.loop-byte.byte-index c.args.bytes.now) < 10 ^ 17 =
    front_is_small _ _ (omega arith) c.loop-byte.invariant.digits in
    omega (arith, c.if-not-is_ascii_digit.ensures.cases)

pub loop-byte-preserved : goal.loop-byte-preserved
loop-byte-preserved c = record {
  digits = digits_more 10 _ _ (omega arith) c.loop-byte.invariant.digits c.if-not-is_ascii_digit.ensures.bound;
  value =
      let grown = digits_value_grows c.args.bytes.now c.loop-byte.byte-index (omega arith) c.if-not-is_ascii_digit.ensures.cases in
      omega (arith, grown);
}

pub returns-clause-found : goal.returns-clause-found
returns-clause-found c =
    let whole : take c.loop-byte.byte-index c.args.bytes.now ≡ c.args.bytes.now = take_all _ _ (omega arith) in
    let some : (length c.args.bytes.now ≡ 0) → ⊥ = eqb-false _ _ (sym c.is_empty.ensures ∙ c.if-is_empty.false) in
    let shape : IsShapedAsNumber c.args.bytes.now = record {
      some = omega arith;
      most = omega arith;
      digits = rw whole at c.loop-byte.invariant.digits;
      no_leading_zero = λ zero. grind (arith, zero);
    } in
    let value = rw whole at c.loop-byte.invariant.value in rw value (digits_are_number _ shape)
