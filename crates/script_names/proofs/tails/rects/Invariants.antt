use Rattle.std.proofs.Common.{◌-◌, map, length}
use Rattle.script_names.proofs.RectLemmas.{RectsTo}
use Rattle.script_names.proofs.tails.rects.Given as goal

abbrev pub invariant-loop-i : goal.invariant-loop-i
invariant-loop-i l = RectsTo (map (λ w. w.now) l.words) l.from l.i l.found.items

abbrev pub decreases-loop-i : goal.decreases-loop-i
decreases-loop-i l = length l.words - l.i
