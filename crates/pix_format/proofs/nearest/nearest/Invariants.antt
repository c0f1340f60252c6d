use Rattle.pix_format.proofs.TableLemmas.{IsLeast}
use Rattle.pix_format.proofs.nearest.nearest.Given as goal

abbrev pub invariant-loop-i : goal.invariant-loop-i
invariant-loop-i l = IsLeast l.table l.colour l.i l.best
