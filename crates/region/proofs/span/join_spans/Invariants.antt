use Rattle.std.proofs.Common.{take}
use Rattle.region.specs.InnerSpans.{AreSpanRuns}
use Rattle.region.specs.InnerSpanList.{steps_of}
use Rattle.region.proofs.span.join_spans.Given as goal

abbrev pub invariant-loop-span : goal.invariant-loop-span
invariant-loop-span l = AreSpanRuns (take l.span-index l.spans) l.end (steps_of l.row)
