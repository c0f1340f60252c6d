use Rattle.std.proofs.Common.{◌≡◌, ◌↔◌, map, length}
use Rattle.region.specs.InnerSpanList.{span_of}
use Rattle.region.proofs.band_list.have_spans.Given as goal

abbrev pub invariant-loop-rects : goal.invariant-loop-rects
invariant-loop-rects l = (map span_of l.fn.band ≡ l.fn.spans) ↔ (map span_of l.rects ≡ l.rest)

abbrev pub decreases-loop-rects : goal.decreases-loop-rects
decreases-loop-rects l = length l.rects
