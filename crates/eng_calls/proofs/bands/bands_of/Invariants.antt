use Rattle.std.proofs.Common.{◌≡◌, take}
use Rattle.eng_calls.specs.InnerBands.{bands_of}
use Rattle.eng_calls.proofs.bands.bands_of.Given as goal

-- the bands of those so far
abbrev pub invariant-loop-i : goal.invariant-loop-i
invariant-loop-i l = l.bands ≡ bands_of l.room (take l.i l.rects)
