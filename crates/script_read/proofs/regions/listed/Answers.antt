use Rattle.std.proofs.Common.{map, sym, ◌∙◌}
use Rattle.script_read.proofs.RegionLemmas.{finds, listed_found, within_coordinates}
use Rattle.script_read.proofs.regions.listed.Goals as goal

pub returns : goal.returns
returns c =
    let rects = c.in_ok-rects.rects.items in
    finds _ _ (listed_found (map (λ w. w.now) c.args.words.now) rects c.in_ok-rects.ensures.value
    (sym (rw c.deref.ensures.value at c.are_well_ordered.ensures) ∙ c.if-not-are_well_ordered.false))
    (rw c.deref-2.ensures.value at c.from_rects.ensures.canonical (within_coordinates rects c.in_ok-rects.ensures.range))
