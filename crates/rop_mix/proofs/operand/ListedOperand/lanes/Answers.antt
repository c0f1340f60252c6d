use Rattle.std.proofs.lemmas.Simd.{get_or-chunk}
use Rattle.rop_mix.proofs.operand.ListedOperand.lanes.Goals as goal

pub returns-clause-values : goal.returns-clause-values
returns-clause-values c j h = get_or-chunk c.args.place 8 c.args.self.now.0.now j 0 h
