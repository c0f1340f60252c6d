use Rattle.std.proofs.Common.{◌+◌, length}
use Rattle.region.specs.InnerScan.{IsScannedInto}
use Rattle.region.proofs.ScanTurnLemmas.{rows_below}
use Rattle.region.proofs.scan.scanned_bands.Given as goal

abbrev pub invariant-loop-next : goal.invariant-loop-next
invariant-loop-next l = IsScannedInto l.rects l.row l.cover l.rest l.bands

abbrev pub decreases-loop-next : goal.decreases-loop-next
decreases-loop-next l = length l.rest + rows_below l.row
