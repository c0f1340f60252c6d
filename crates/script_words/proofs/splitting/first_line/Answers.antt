use Rattle.std.proofs.Common.{arith}
use Rattle.std.proofs.lemmas.Grind.{common_steps}
use Rattle.script_words.proofs.LineLemmas.{at_end, no_end}
use Rattle.script_words.proofs.splitting.first_line.Goals as goal

pub returns-in-Some-clause-lines : goal.returns-in-Some-clause-lines
returns-in-Some-clause-lines c =
    let e = at_end c.args.text.now c.in-Some.end c.in-Some.ensures in
    grind (arith, common_steps, e, c.without_return.ensures)

pub returns-in-None-clause-lines : goal.returns-in-None-clause-lines
returns-in-None-clause-lines c = no_end c.args.text.now c.in-None.ensures
