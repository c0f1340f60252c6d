use Rattle.std.proofs.Common.{length, ◌-◌, ◌+◌}
use Rattle.desk_io.specs.Sources.{most_bytes}
use Rattle.desk_io.proofs.SourceLemmas.{Came}
use Rattle.desk_io.proofs.reading.read_by_pieces.Given as goal

abbrev pub invariant-loop-bytes : goal.invariant-loop-bytes
invariant-loop-bytes g l = Came (g.S.Source.left l.fn.source) (g.S.Source.left l.source) (g.S.Source.faults l.fn.source)
    (g.S.Source.faults l.source) l.bytes.items

abbrev pub decreases-loop-bytes : goal.decreases-loop-bytes
decreases-loop-bytes g l = most_bytes + 1 - length l.bytes.items
