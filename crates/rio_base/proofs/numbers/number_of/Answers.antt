use Rattle.std.proofs.Common.{arith, refl}
use Rattle.rio_base.proofs.DecimalDigits.{bounded_below, number_length, begins_badly, no_digit, all_parsed}
use Rattle.rio_base.proofs.numbers.number_of.Goals as goal

pub returns-then-digits-gt-NUMBER_DIGITS : goal.returns-then-digits-gt-NUMBER_DIGITS
returns-then-digits-gt-NUMBER_DIGITS c = λ n h. omega (arith, number_length c.args.digits.now n h, c.if-digits-gt-NUMBER_DIGITS.true)

pub returns-then-not-begins_well : goal.returns-then-not-begins_well
returns-then-not-begins_well c = begins_badly c.args.digits.now (λ well. cc (c.if-not-begins_well.ensures.1 well))

pub returns-then-value-gt9 : goal.returns-then-value-gt9
returns-then-value-gt9 c = no_digit c.args.digits.now c.loop-digit.digit-index c.loop-digit.number _ c.loop-digit.invariant c.loop-digit-test.true refl (omega (arith, c.type_inv.digits c.loop-digit.digit-index)) c.if-value-gt9.true

pub overflow_mul-number : goal.overflow_mul-number
overflow_mul-number c = omega (arith, bounded_below c.args.digits.now c.loop-digit.digit-index c.loop-digit.number c.loop-digit.invariant (omega (arith, c.loop-digit-test.true, c.if-digits-gt-NUMBER_DIGITS.false)))

pub overflow_add-number : goal.overflow_add-number
overflow_add-number c = omega (arith, bounded_below c.args.digits.now c.loop-digit.digit-index c.loop-digit.number c.loop-digit.invariant (omega (arith, c.loop-digit-test.true, c.if-digits-gt-NUMBER_DIGITS.false)), c.from.ensures, c.if-value-gt9.false)

pub returns : goal.returns
returns c =
    let well = c.if-not-begins_well.ensures.0 refl in
    all_parsed c.args.digits.now c.loop-digit.digit-index c.loop-digit.number c.loop-digit.invariant (omega (arith, c.loop-digit-test.false, c.loop-digit.auto.digit-index-end)) well.0 (omega (arith, c.if-digits-gt-NUMBER_DIGITS.false)) well.1
