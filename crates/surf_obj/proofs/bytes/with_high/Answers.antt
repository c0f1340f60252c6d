use Rattle.std.proofs.Common.{arith}
use Rattle.surf_obj.proofs.ByteLemmas.{low_bits}
use Rattle.surf_obj.proofs.bytes.with_high.Goals as goal

pub returns-clause-bits : goal.returns-clause-bits
returns-clause-bits c j h = low_bits _ c.args.byte j h (omega arith)
