use Rattle.std.proofs.Common.{◌≡◌, map, take}
use Rattle.region.specs.InnerSteps.{AllFit}
use Rattle.region.specs.InnerSpanList.{span_of, span_steps}
use Rattle.region.proofs.span_list.SpanList.copy.Given as goal

abbrev pub invariant-loop-rect : goal.invariant-loop-rect
invariant-loop-rect l = (l.self.spans.items ≡ map span_of (take l.rect-index l.fn.band)) × AllFit (span_steps l.self.spans.items)
