use Rattle.std.proofs.Common.{rules}
use Rattle.std.proofs.lemmas.List.Sorted.{answers_always}
use Rattle.region.proofs.ScanLemmas.{arranged}
use Rattle.region.proofs.scan.sorted_rects.Goals as goal

pub returns : goal.returns
returns c =
    arranged c.args.rects.now c.in_ok-sorted.sorted.items c.sort_unstable_by_key.new.self.items c.in_ok-sorted.ensures.rects c.in_ok-sorted.ensures.solid
    c.sort_unstable_by_key.ensures.permutation
    (c.sort_unstable_by_key.ensures.sorted (λ r. r.top) (answers_always _ _ _ (λ f a r g h. search rules)))
