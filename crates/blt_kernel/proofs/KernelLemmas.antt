-- What kernels give, as calls say it.
use Rattle.std.proofs.Common.{◌≡◌, ℕ, ◌/◌, List, ap, sym, ◌∙◌, Option, Some, None, unwrap_or}
use Rattle.geom_base.specs.declared.point.Point.{Point}
use Rattle.geom_base.specs.declared.rect.Rect.{Rect}
use Rattle.geom_base.specs.declared.size.Size.{Size}
use Rattle.geom_base.specs.Points.{is_in, point_at}
use Rattle.pix_format.specs.declared.format.Format.{Format}
use Rattle.pix_format.specs.Value.{bits_of}
use Rattle.rop_mix.specs.Rop.{rop3_of}
use Rattle.geom_base.specs.Step.{Change, redrawn}
use Rattle.surf_obj.specs.Lent.{size_of, values_of}
use Rattle.geom_base.specs.Grid.{value_at}
use Rattle.surf_obj.specs.declared.lent.LentSurf.{LentSurf}
use Rattle.geom_base.specs.StepLaws.{redrawn_rule}
use Rattle.surf_obj.specs.LentLaws.{length-values_of}
use Rattle.brush_obj.specs.Calls.{new_of_paint, paint_operands}
use Rattle.brush_obj.specs.declared.paint_call.PaintCall.{PaintCall}
use Rattle.blt_kernel.specs.InnerDrawing.{drawn, pattern_at, source_or_zero}
use Rattle.brush_obj.specs.Ink.{ink_at}
use Rattle.blt_kernel.specs.declared.drawing.Drawing.{Drawing}
use Rattle.blt_kernel.proofs.DrawLemmas.{drawn_value-unmasked}

-- a paint gives the mix
pub paint_gives : (d : Drawing) (call : PaintCall) (size : Size) (format : Format) (values : List ℕ) (code : ℕ) (p : Point) (was : ℕ) → d.mask ≡ None →
    d.rop.code / 256 ≡ code → d.origin ≡ call.origin →
    ((s : ℕ) → new_of_paint call (paint_operands (ink_at d.ink) format) p was ≡ Some (rop3_of code (pattern_at d p) s was (bits_of format))) →
    drawn d size format values p was ≡ new_of_paint call (paint_operands (ink_at d.ink) format) p was
paint_gives d call size format values code p was none halves origin law =
    let s = source_or_zero d.source size values p in
    ap (λ (v : ℕ). Some v) (drawn_value-unmasked d size format values p was none ∙ ap (λ (k : ℕ). rop3_of k (pattern_at d p) s was (bits_of format)) halves)
    ∙ sym (law s)

-- a box of a surface redrawn by a rule is a rectangle redrawn by another, where these are the same
pub box_redrawn : (dst : LentSurf) (after : List ℕ) (box rect : Rect) (rule rule' : Change) → box ≡ rect →
    after ≡ redrawn (size_of dst) (values_of dst) (λ p. is_in p box) rule →
    ((p : Point) (d : ℕ) → rule p d ≡ rule' p d) → after ≡ redrawn (size_of dst) (values_of dst) (λ p. is_in p rect) rule'
box_redrawn dst after box rect rule rule' same drew rules =
    rw same at drew
    ∙ redrawn_rule (size_of dst) (values_of dst) (λ p. is_in p rect) rule rule' (length-values_of dst)
    (λ x y hx hy inside. ap (λ (o : Option ℕ). unwrap_or o (value_at (size_of dst) (values_of dst) x y))
    (rules (point_at x y) (value_at (size_of dst) (values_of dst) x y)))
