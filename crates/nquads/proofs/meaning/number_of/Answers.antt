use Rattle.std.proofs.Common.{◌<◌, arith, length}
use Rattle.nquads.proofs.MeaningLemmas.{digit_room}
use Rattle.nquads.proofs.meaning.number_of.Goals as goal

pub overflow_mul-number : goal.overflow_mul-number
overflow_mul-number c =
    let small : c.loop-digit.number < 268435456 = digit_room c.loop-digit.number c.loop-digit.digit-index (length c.args.digits.now) c.loop-digit.invariant.1 c.loop-digit-test.true c.requires in
    omega (arith, small)

pub overflow_add-number : goal.overflow_add-number
overflow_add-number c =
    let small : c.loop-digit.number < 268435456 = digit_room c.loop-digit.number c.loop-digit.digit-index (length c.args.digits.now) c.loop-digit.invariant.1 c.loop-digit-test.true c.requires in
    omega (arith, small, c.in_ok-value.ensures.small)
