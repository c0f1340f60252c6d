use Rattle.std.proofs.Common.{◌∙◌, refl, sym, true≢false}
use Rattle.surf_obj.specs.Lent.{size_of, format_of}
use Rattle.blt_kernel.proofs.ReadableLemmas.{can_draw, there_redrawn, none_redrawn}
use Rattle.blt_kernel.proofs.readable.draw_readable.Goals as goal

pub draw_box-requires-clause-able : goal.draw_box-requires-clause-able
draw_box-requires-clause-able c =
    can_draw c.args.drawing.now (size_of c.args.dst.now)
    (format_of c.args.dst.now) c.args.edges.now c.cut_by_source-readable.result c.cut_by_mask-there.result c.requires.inside
    c.cut_by_source-readable.ensures.part c.cut_by_mask-there.ensures.part
    (c.if-has_point.ensures.0 refl)
    (rw c.size.ensures at c.cut_by_source-readable.ensures.there) c.cut_by_mask-there.ensures.there c.requires.translated c.requires.ink

pub returns-then-has_point-clause-values : goal.returns-then-has_point-clause-values
returns-then-has_point-clause-values c =
    c.draw_box.ensures.values
    ∙ there_redrawn c.args.drawing.now c.args.dst.now c.args.edges.now c.cut_by_source-readable.result c.cut_by_mask-there.result
    (rw c.size.ensures at c.cut_by_source-readable.ensures.points) c.cut_by_mask-there.ensures.points

pub returns-else-has_point-clause-values : goal.returns-else-has_point-clause-values
returns-else-has_point-clause-values c =
    none_redrawn c.args.drawing.now c.args.dst.now c.cut_by_mask-there.result (λ h. true≢false (sym (c.if-has_point.ensures.1 h)))
    ∙ there_redrawn c.args.drawing.now c.args.dst.now c.args.edges.now c.cut_by_source-readable.result c.cut_by_mask-there.result
    (rw c.size.ensures at c.cut_by_source-readable.ensures.points) c.cut_by_mask-there.ensures.points
