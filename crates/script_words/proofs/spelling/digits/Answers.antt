use Rattle.std.proofs.Common.{◌<◌, ◌*◌, ◌+◌, ◌^◌, arith}
use Rattle.script_words.proofs.DigitLemmas.{step_small, power_fits, one_digit_more}
use Rattle.script_words.proofs.spelling.digits.Goals as goal

pub overflow_mul-value : goal.overflow_mul-value
overflow_mul-value c =
    let d : c.in-Some.d < c.args.base = grind (arith, c.in-Some.ensures.value) in
    let s : c.loop-b.value * c.args.base + c.in-Some.d < 16 ^ (c.loop-b.b-index + 1) = step_small c.args.base c.loop-b.value c.in-Some.d c.loop-b.b-index
    (omega arith) d c.loop-b.invariant.small in
    let p = power_fits (c.loop-b.b-index + 1) (omega arith) in
    rw c.from.ensures (omega (arith, s, p))

pub overflow_add-value : goal.overflow_add-value
overflow_add-value c =
    let d : c.in-Some.d < c.args.base = grind (arith, c.in-Some.ensures.value) in
    let s : c.loop-b.value * c.args.base + c.in-Some.d < 16 ^ (c.loop-b.b-index + 1) = step_small c.args.base c.loop-b.value c.in-Some.d c.loop-b.b-index
    (omega arith) d c.loop-b.invariant.small in
    let p = power_fits (c.loop-b.b-index + 1) (omega arith) in
    rw (c.from.ensures, c.from-in-Some.ensures) (omega (arith, s, p))

pub loop-b-preserved : goal.loop-b-preserved
loop-b-preserved c = rw (c.from.ensures, c.from-in-Some.ensures)
    (one_digit_more c.args.base c.args.word.now c.loop-b.b-index c.loop-b.value c.in-Some.d (omega arith) (omega arith) (grind (arith, c.in-Some.ensures.value))
    (grind (arith, c.in-Some.ensures.value)) c.loop-b.invariant)
