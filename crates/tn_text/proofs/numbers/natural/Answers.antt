use Rattle.std.proofs.Common.{◌<◌, get_or, take, arith}
use Rattle.std.specs.Char.{digit_value}
use Rattle.std.proofs.lemmas.List.{length-take}
use Rattle.tn_text.proofs.Digits.{few_digits, room, one_more}
use Rattle.tn_text.proofs.numbers.natural.Goals as goal

pub overflow_mul-value : goal.overflow_mul-value
overflow_mul-value c =
    let fits = room c.args.radix c.args.digits.now c.loop-digit.digit-index c.loop-digit-test.true c.requires.radix
    c.loop-digit.invariant.0 (omega arith) c.loop-digit.value c.from.result c.loop-digit.invariant.1 (omega (arith, c.from.ensures)) in
    omega (arith, fits)

pub overflow_add-value : goal.overflow_add-value
overflow_add-value c =
    let fits = room c.args.radix c.args.digits.now c.loop-digit.digit-index c.loop-digit-test.true c.requires.radix
    c.loop-digit.invariant.0 (omega arith) c.loop-digit.value c.from.result c.loop-digit.invariant.1 (omega (arith, c.from.ensures)) in
    omega (arith, fits, c.from-in-loop-digit.ensures)

pub loop-digit-preserved : goal.loop-digit-preserved
loop-digit-preserved c =
    let digit : digit_value (get_or c.args.digits.now c.loop-digit.digit-index 0) < c.args.radix =
    omega (arith, c.digit_value-unit.ensures) in
    let step = one_more c.args.radix c.args.digits.now c.loop-digit.digit-index c.loop-digit-test.true c.requires.radix
    c.loop-digit.invariant.0 digit in
    (step.0, rw (c.loop-digit.invariant.1, c.from.ensures, c.from-in-loop-digit.ensures, c.digit_value-unit.ensures) step.1)

pub returns-clause-bound : goal.returns-clause-bound
returns-clause-bound c =
    let all = few_digits c.args.radix (take c.loop-digit.digit-index c.args.digits.now) c.args.most c.requires.radix
    c.loop-digit.invariant.0 (rw length-take (omega arith)) in
    rw c.loop-digit.invariant.1 all
