use Rattle.std.proofs.Common.{arith}
use Rattle.script_words.specs.LineLaws.{lines_fit}
use Rattle.script_read.proofs.tests.taken.Goals as goal

pub read_script-requires : goal.read_script-requires
read_script-requires g c = omega (arith, lines_fit c.as_bytes.result.now)
