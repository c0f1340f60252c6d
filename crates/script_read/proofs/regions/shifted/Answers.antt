use Rattle.std.proofs.Common.{Ok, map, sym, ap, ◌∙◌}
use Rattle.script_names.specs.Names.{names_of}
use Rattle.script_read.proofs.RegionLemmas.{finds, shift_found, shift_out}
use Rattle.script_read.proofs.regions.shifted.Goals as goal

pub returns-then-not-can_shift : goal.returns-then-not-can_shift
returns-then-not-can_shift c =
    shift_out (names_of c.args.names.now) (map (λ w. w.now) c.args.words.now) c.region-region.result.now c.in_ok-by.by
    (rw c.word.ensures at c.in_ok-known.ensures.ok ∙ ap Ok (sym c.region-region.ensures.value)) (sym c.in_ok-by.ensures)
    (sym c.can_shift.ensures.value ∙ c.if-not-can_shift.true)

pub returns : goal.returns
returns c =
    let rects = c.region-region.result.now in
    finds _ _ (shift_found (names_of c.args.names.now) (map (λ w. w.now) c.args.words.now) rects c.in_ok-by.by
    (rw c.word.ensures at c.in_ok-known.ensures.ok ∙ ap Ok (sym c.region-region.ensures.value)) (sym c.in_ok-by.ensures)
    (sym c.can_shift.ensures.value ∙ c.if-not-can_shift.false))
    (c.offset.ensures.canonical (c.can_shift.ensures.within c.if-not-can_shift.false))
