use Rattle.std.proofs.Common.{refl, sym, true≢false}
use Rattle.geom_base.specs.Points.{is_in}
use Rattle.rop_mix.specs.Needs.{source_needed, pattern_needed}
use Rattle.surf_obj.specs.Lent.{size_of, format_of, values_of}
use Rattle.brush_obj.specs.Calls.{new_of_blt, blt_operands, shown}
use Rattle.blt_kernel.specs.InnerBoxes.{box_from}
use Rattle.brush_obj.specs.Ink.{ink_at}
use Rattle.blt_kernel.specs.Handed.{mask_of, source_of}
use Rattle.blt_kernel.specs.InnerHanded.{shift_from}
use Rattle.blt_kernel.specs.InnerReadable.{drawn_readable}
use Rattle.blt_kernel.proofs.BltLemmas.{blt_gives, no_source, no_mask, untouched_redrawn, source_translated, ink_fits}
use Rattle.blt_kernel.proofs.KernelLemmas.{box_redrawn}
use Rattle.blt_kernel.proofs.blt.bit_blt_inked.Goals as goal

pub returns-then-lacks_source-clause-values : goal.returns-then-lacks_source-clause-values
returns-then-lacks_source-clause-values c =
    let lacks = c.if-lacks_source.ensures.0 refl in
    let o = blt_operands (source_of c.args.src c.args.call.now.held (shown (size_of c.args.dst.now) (values_of c.args.dst.now)))
    (mask_of c.args.mask) c.args.xlate.now (ink_at c.args.ink) (format_of c.args.dst.now) in
    untouched_redrawn c.args.dst.now (λ p. is_in p c.args.rect) (new_of_blt c.args.call.now o)
    (λ p was. no_source c.args.call.now o p was lacks.0 (rw (lacks.1, lacks.2) refl))

pub returns-then-lacks_mask-clause-values : goal.returns-then-lacks_mask-clause-values
returns-then-lacks_mask-clause-values c =
    let lacks = c.if-lacks_mask.ensures.0 refl in
    let o = blt_operands (source_of c.args.src c.args.call.now.held (shown (size_of c.args.dst.now) (values_of c.args.dst.now)))
    (mask_of c.args.mask) c.args.xlate.now (ink_at c.args.ink) (format_of c.args.dst.now) in
    untouched_redrawn c.args.dst.now (λ p. is_in p c.args.rect) (new_of_blt c.args.call.now o)
    (λ p was. no_mask c.args.call.now o p was lacks.0 (rw lacks.1 refl))

pub draw_readable-requires-clause-translated : goal.draw_readable-requires-clause-translated
draw_readable-requires-clause-translated c =
    rw c.blt_drawing-drawing.ensures
    (source_translated (source_needed c.args.call.now.rop.code) c.args.src c.args.call.now.held (format_of c.args.dst.now)
    (shift_from c.args.call.now.rect c.args.call.now.src) c.args.xlate c.requires.from c.requires.to
    (λ needed held lent. true≢false (sym (c.if-lacks_source.ensures.1 (needed, held, lent)))))

pub draw_readable-requires-clause-ink : goal.draw_readable-requires-clause-ink
draw_readable-requires-clause-ink c =
    rw c.blt_drawing-drawing.ensures (ink_fits (pattern_needed c.args.call.now.rop.code) c.args.ink (format_of c.args.dst.now) c.requires.ink)

pub returns-clause-values : goal.returns-clause-values
returns-clause-values c =
    let size = size_of c.args.dst.now in
    let format = format_of c.args.dst.now in
    let values = values_of c.args.dst.now in
    box_redrawn c.args.dst.now _ (box_from c.of.result) c.args.rect (drawn_readable c.blt_drawing-drawing.result size format values) _
    c.of.ensures c.draw_readable.ensures.values (λ p was.
    rw c.blt_drawing-drawing.ensures (blt_gives c.args.call.now c.args.src c.args.mask c.args.xlate c.args.ink size format values p was
    (λ needed held lent. true≢false (sym (c.if-lacks_source.ensures.1 (needed, held, lent))))
    (λ needed lent. true≢false (sym (c.if-lacks_mask.ensures.1 (needed, lent))))))
