use Rattle.std.proofs.Common.{arith}
use Rattle.script_words.specs.LineLaws.{lines_fit}
use Rattle.script_read.proofs.refusal_tests.refusal.Goals as goal

pub read_script-requires : goal.read_script-requires
read_script-requires c = omega (arith, lines_fit c.args.text.now)
