use Rattle.std.proofs.Common.{◌≡◌, map}
use Rattle.std.specs.List.{range_with_len}
use Rattle.pix_format.specs.Standard.{standard_colour}
use Rattle.pix_format.proofs.colour_table.ColourTable.standard.Given as goal

abbrev pub invariant-loop-index : goal.invariant-loop-index
invariant-loop-index l = l.colours.items ≡ map (standard_colour l.format) (range_with_len 0 l.index)
