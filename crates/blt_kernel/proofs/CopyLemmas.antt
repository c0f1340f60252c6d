-- Rows that are copied as bytes.
use Rattle.std.proofs.Common.{◌≡◌, ℕ, pos, ◌+◌, ◌-◌, ◌*◌, ◌/◌, ◌^◌, ◌<◌, List, length, sym, subst, ap, ◌∙◌, arith, Option, Some}
use Rattle.geom_base.specs.declared.point.Point.{Point}
use Rattle.geom_base.specs.declared.size.Size.{Size}
use Rattle.geom_base.specs.Points.{is_in, box_of, point_at}
use Rattle.pix_format.specs.declared.format.Format.{Format}
use Rattle.pix_format.specs.Value.{bits_of}
use Rattle.pix_format.specs.Xlate.{translated}
use Rattle.rop_mix.specs.Rop.{rop3_of}
use Rattle.surf_obj.specs.Lent.{size_of, format_of, values_of}
use Rattle.surf_obj.specs.Runs.{copied}
use Rattle.geom_base.specs.Grid.{value_at}
use Rattle.geom_base.specs.Step.{redrawn}
use Rattle.surf_obj.specs.declared.lent.LentSurf.{LentSurf}
use Rattle.geom_base.specs.StepLaws.{redrawn_rule}
use Rattle.surf_obj.specs.LentLaws.{length-values_of}
use Rattle.brush_obj.specs.CallLaws.{copied_value}
use Rattle.blt_kernel.specs.InnerShift.{place_shifted, value_shifted}
use Rattle.blt_kernel.specs.InnerDrawing.{drawn, drawn_value, own_value, given, pattern_at, source_or_zero}
use Rattle.blt_kernel.specs.InnerWays.{GivesSource}
use Rattle.blt_kernel.specs.declared.shift.Shift.{Shift}
use Rattle.blt_kernel.specs.declared.drawing.Drawing.{Drawing}
use Rattle.blt_kernel.specs.declared.source.SourcePixels.{SourcePixels}
use Rattle.blt_kernel.proofs.ShiftLemmas.{value_along}
use Rattle.blt_kernel.proofs.DrawLemmas.{drawn_value-unmasked}
use Rattle.blt_kernel.proofs.PartLemmas.{in_box}

-- a row that was copied has the values that belong to its points
pub copied_across : (size : Size) (old : List ℕ) (shift : Shift) (from : Size) (values : List ℕ) (x y len cx cy : ℕ) → length old ≡ size.w * size.h →
    pos cx ≡ place_shifted shift.rect.left shift.at.x (pos x) → pos cy ≡ place_shifted shift.rect.top shift.at.y (pos y) →
    redrawn size old (λ p. is_in p (box_of x y (x + len) (y + 1))) (copied from values (point_at cx cy) (point_at x y)) ≡
    redrawn size old (λ p. is_in p (box_of x y (x + len) (y + 1))) (λ p d. Some (value_shifted shift from values p))
copied_across size old shift from values x y len cx cy long ex ey =
    redrawn_rule size old (λ p. is_in p (box_of x y (x + len) (y + 1))) (copied from values (point_at cx cy) (point_at x y))
    (λ p d. Some (value_shifted shift from values p)) long
    (λ x' y' hx hy inside.
    let w = in_box x y (x + len) (y + 1) x' y' inside in
    let row : y ≡ y' = omega (arith, w.2, w.3) in
    let column : x + (x' - x) ≡ x' = omega (arith, w.0) in
    value_along shift from values x y (x' - x) cx cy ex ey
    ∙ ap (λ (a : ℕ). value_shifted shift from values (point_at a y)) column
    ∙ ap (λ (b : ℕ). value_shifted shift from values (point_at x' b)) row)

-- a point gets the source's own value
given_value : (d : Drawing) (size : Size) (format : Format) (values : List ℕ) (p : Point) (old : ℕ) (s : SourcePixels) → GivesSource d s →
    ((v : ℕ) → translated s.xlate.now v ≡ v) →
    own_value s size values p < 2 ^ bits_of format → drawn_value d size format values p old ≡ own_value s size values p
given_value d size format values p old s gives same fit =
    let v = own_value s size values p in
    drawn_value-unmasked d size format values p old gives.mask
    ∙ ap (λ (o : Option SourcePixels). rop3_of (d.rop.code / 256) (pattern_at d p) (source_or_zero o size values p) old (bits_of format)) gives.source
    ∙ ap (λ (u : ℕ). rop3_of (d.rop.code / 256) (pattern_at d p) u old (bits_of format)) (same v)
    ∙ ap (λ (n : ℕ). rop3_of n (pattern_at d p) v old (bits_of format)) gives.code
    ∙ copied_value _ v _ (bits_of format) fit

-- so does each point of a row
pub given_drawn : (d : Drawing) (dst : LentSurf) (s : SourcePixels) (left right y n : ℕ) → left + n ≡ right → GivesSource d s →
    ((v : ℕ) → translated s.xlate.now v ≡ v) →
    ((k : ℕ) → k < n → own_value s (size_of dst) (values_of dst) (point_at (left + k) y) < 2 ^ bits_of (format_of dst)) →
    redrawn (size_of dst) (values_of dst) (λ p. is_in p (box_of left y (left + n) (y + 1))) (given s (size_of dst) (values_of dst))
    ≡ redrawn (size_of dst) (values_of dst) (λ p. is_in p (box_of left y right (y + 1))) (drawn d (size_of dst) (format_of dst) (values_of dst))
given_drawn d dst s left right y n end gives same fit =
    ap (λ (r : ℕ). redrawn (size_of dst) (values_of dst) (λ p. is_in p (box_of left y r (y + 1))) (given s (size_of dst) (values_of dst))) end
    ∙ redrawn_rule (size_of dst) (values_of dst) (λ p. is_in p (box_of left y right (y + 1))) (given s (size_of dst) (values_of dst))
    (drawn d (size_of dst) (format_of dst) (values_of dst)) (length-values_of dst)
    (λ x' y' hx hy inside.
    let w = in_box left y right (y + 1) x' y' inside in
    let row : y ≡ y' = omega (arith, w.2, w.3) in
    let column : left + (x' - left) ≡ x' = omega (arith, w.0) in
    sym (given_value d (size_of dst) (format_of dst) (values_of dst) (point_at x' y') (value_at (size_of dst) (values_of dst) x' y') s gives same
    (subst (λ (b : ℕ). own_value s (size_of dst) (values_of dst) (point_at x' b) < 2 ^ bits_of (format_of dst)) row
    (subst (λ (a : ℕ). own_value s (size_of dst) (values_of dst) (point_at a y) < 2 ^ bits_of (format_of dst)) column
    (fit (x' - left) (omega (arith, w.0, w.1, end)))))))
