use Rattle.std.proofs.Common.{◌≡◌, ◌++◌, take}
use Rattle.region.specs.Spans.{rects_of_spans}
use Rattle.region.proofs.band_list.BandList.begin.Given as goal

abbrev pub invariant-loop-span : goal.invariant-loop-span
invariant-loop-span l = (l.self.rects.items ≡ l.initial.self.rects.items ++ rects_of_spans l.place l.place (take l.span-index l.fn.spans)) ×
    (l.self.ended ≡ l.initial.self.ended) × (l.self.count ≡ l.initial.self.count) × (l.self.most ≡ l.initial.self.most)
