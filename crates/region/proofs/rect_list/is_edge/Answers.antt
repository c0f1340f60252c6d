use Rattle.std.proofs.Common.{arith}
use Rattle.std.proofs.lemmas.Int.{ints, to_z-of_z}
use Rattle.region.proofs.rect_list.is_edge.Goals as goal

pub returns-then-moved-ge-LEAST_EDGE : goal.returns-then-moved-ge-LEAST_EDGE
returns-then-moved-ge-LEAST_EDGE c = grind (arith, ints, to_z-of_z, c.from.ensures, c.from-2.ensures, c.ranges, c.if-moved-ge-LEAST_EDGE.true)
