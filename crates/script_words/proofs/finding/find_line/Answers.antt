use Rattle.std.proofs.Common.{arith, rules}
use Rattle.script_words.specs.LineLaws.{lines_fit}
use Rattle.script_words.proofs.FindLemmas.{passed_more, found_here}
use Rattle.script_words.proofs.finding.find_line.Goals as goal

pub returns-then-eq : goal.returns-then-eq
returns-then-eq c =
    let so_far = rw (c.in-Some.is, c.first_line.ensures.lines) at c.loop-more.invariant in
    found_here so_far (search rules)

pub overflow_add-before : goal.overflow_add-before
overflow_add-before c =
    let so_far = rw (c.in-Some.is, c.first_line.ensures.lines) at c.loop-more.invariant in
    let fit = lines_fit c.args.text.now in
    omega (arith, so_far.place, fit)

pub loop-more-preserved : goal.loop-more-preserved
loop-more-preserved c =
    let so_far = rw (c.in-Some.is, c.first_line.ensures.lines) at c.loop-more.invariant in
    passed_more so_far (search rules)
