-- The value of a brush at a point.
use Rattle.std.proofs.Common.{◌≡◌, ℕ, pos, ◌+ℤ◌, ◌-ℤ◌, ◌+◌, ◌-◌, ◌*◌, ◌/◌, ◌%◌, ◌<◌, ◌≤◌, List, length, add-zero, get_or, refl, ◌∙◌, arith}
use Rattle.std.specs.List.{slice_range}
use Rattle.std.proofs.lemmas.List.Edits.{get_or-between, length-between}
use Rattle.std.proofs.lemmas.Nat.{mul-add-lt, mod_below, mod-mul-add, div-mul-add}
use Rattle.std.proofs.Math.Nat.{mod-eq_of_lt}
use Rattle.std.proofs.Math.Path.{fun_ext}
use Rattle.geom_base.specs.GridLaws.{get_or-grid_of, same_grid}
use Rattle.geom_base.specs.Grid.{value_at}
use Rattle.geom_base.specs.Points.{point_at}
use Rattle.geom_base.specs.declared.point.Point.{Point}
use Rattle.geom_base.specs.declared.size.Size.{Size}
use Rattle.pix_format.specs.declared.format.Format.{Format}
use Rattle.pix_format.specs.declared.rgb.Rgb.{Rgb}
use Rattle.brush_obj.specs.declared.face.BrushFace.{BrushFace}
use Rattle.brush_obj.specs.declared.hatch_values.HatchValues.{HatchValues}
use Rattle.brush_obj.specs.Hatches.{hatch_value, value_of_hatch}
use Rattle.brush_obj.specs.Brush.{size_of, tile_value, tiled, tiled_values, brush_value, IsRealised}
use Rattle.brush_obj.specs.Realised.{Realised}
use Rattle.brush_obj.specs.Wrapping.{wrapped}
use Rattle.brush_obj.proofs.WrapLemmas.{column_after, wrapped-below}

-- the value of a pixel of a row of a hatch in two values, likewise
pub hatch_after : (h : HatchValues) (origin at : Point) (x y k : ℕ) → x ≡ wrapped (at.x -ℤ origin.x) 8 → y ≡ wrapped (at.y -ℤ origin.y) 8 →
    hatch_value h ((x + k % 8) % 8) y ≡ value_of_hatch h origin (record { x = at.x +ℤ pos k; y = at.y })
hatch_after h origin at x y k column row = rw (column_after at.x origin.x k 8 (omega arith), column, row) refl

-- an item of a row of a grid
pub row_item : (xs : List ℕ) (w h y j : ℕ) → length xs ≡ w * h → y < h → j < w →
    (length (slice_range xs (y * w) (y * w + w)) ≡ w) × (get_or (slice_range xs (y * w) (y * w + w)) j 0 ≡ get_or xs (y * w + j) 0)
row_item xs w h y j long hy hj =
    let within : y * w + w ≤ length xs = let last = mul-add-lt y w (w - 1) h hy (omega arith) in omega arith in
    (length-between xs (y * w) (y * w + w) within ∙ omega arith, get_or-between xs (y * w) (y * w + w) j 0 (omega arith))

-- an item of a row of a grid, from a column on and round
pub item_round : (xs : List ℕ) (w h x y k v : ℕ) → length xs ≡ w * h → 1 ≤ w → y < h →
    v ≡ get_or (slice_range xs (y * w) (y * w + w)) ((x + k) % length (slice_range xs (y * w) (y * w + w))) 0 →
    (v ≡ get_or xs (y * w + (x + k) % w) 0) × (y * w + (x + k) % w < length xs)
item_round xs w h x y k v long some inside e =
    let below = mod_below (x + k) w some in
    let item = row_item xs w h y ((x + k) % w) long inside below in
    (e ∙ rw item.0 item.1, rw long (mul-add-lt y w ((x + k) % w) h inside below))

-- the value of a pixel of a row, read from the row of a realised brush in which it begins
pub realised_after : (xs : List ℕ) (size : Size) (origin at : Point) (x y k : ℕ) → length xs ≡ size.w * size.h → 1 ≤ size.w → y < size.h →
    x ≡ wrapped (at.x -ℤ origin.x) size.w → y ≡ wrapped (at.y -ℤ origin.y) size.h →
    get_or (slice_range xs (y * size.w) (y * size.w + size.w)) ((x + k % size.w) % length (slice_range xs (y * size.w) (y * size.w + size.w))) 0 ≡
    value_at size xs (wrapped ((at.x +ℤ pos k) -ℤ origin.x) size.w) (wrapped (at.y -ℤ origin.y) size.h)
realised_after xs size origin at x y k long some inside column row =
    let item = row_item xs size.w size.h y ((x + k % size.w) % size.w) long inside (mod_below (x + k % size.w) size.w some) in
    rw item.0 (item.1 ∙ rw (column_after at.x origin.x k size.w some, ← column, ← row) refl)

-- the value in the tile that stands at a place of it
wrapped-inside : (x size : ℕ) → x < size → wrapped (pos x -ℤ pos 0) size ≡ x
wrapped-inside x size h = rw add-zero (mod-eq_of_lt h)

-- the realised brush repeated is the brush
pub tiled_is_brush : (face : BrushFace) (format : Format) (table : List Rgb) (r : Realised) (q : Point) → IsRealised face format table r → 1 ≤ r.size.w →
    1 ≤ r.size.h → tiled_values r.size r.values q ≡ tiled face format table q
tiled_is_brush face format table r q is wide high =
    let w = (size_of face).w in
    let h = (size_of face).h in
    let x = wrapped q.x w in
    let y = wrapped q.y h in
    let column : x < w = wrapped-below q.x w (rw is.size at wide) in
    let row : y < h = wrapped-below q.y h (rw is.size at high) in
    rw (is.values, is.size) (get_or-grid_of w h (λ x y. brush_value face format table (point_at 0 0) (point_at x y)) x y column row
    ∙ rw (wrapped-inside x w column, wrapped-inside y h row) refl)

-- a list that has the values of a grid place by place has them row by row
pub rows_give : (f : ℕ → ℕ → ℕ) (w h : ℕ) (values : List ℕ) → length values ≡ w * h → ((k : ℕ) → k < length values → get_or values k 0 ≡ f (k % w) (k / w)) →
    (x y : ℕ) → x < w → y < h → get_or values (y * w + x) 0 ≡ f x y
rows_give f w h values long each x y hx hy = each (y * w + x) (rw long (mul-add-lt y w x h hy hx)) ∙ rw (mod-mul-add y w x hx, div-mul-add y w x hx) refl

-- the values of the tile, repeated, are the brush
pub rows_are_tiled : (face : BrushFace) (format : Format) (table : List Rgb) (size : Size) (values : List ℕ) → size ≡ size_of face → 1 ≤ size.w → 1 ≤ size.h →
    length values ≡ (size_of face).w * (size_of face).h →
    ((k : ℕ) → k < length values → get_or values k 0 ≡ tile_value face format table (k % (size_of face).w) (k / (size_of face).w)) →
    tiled_values size values ≡ tiled face format table
rows_are_tiled face format table size values same wide high long each =
    let w = (size_of face).w in
    let h = (size_of face).h in
    rw same (fun_ext λ q. rows_give (tile_value face format table) w h values long each (wrapped q.x w) (wrapped q.y h)
    (wrapped-below q.x w (rw same at wide)) (wrapped-below q.y h (rw same at high)))

-- all rows of the tile are the realised brush
pub filled_is_realised : (face : BrushFace) (format : Format) (table : List Rgb) (r : Realised) → r.size ≡ size_of face →
    length r.values ≡ (size_of face).w * (size_of face).h →
    ((x y : ℕ) → x < (size_of face).w → y < (size_of face).h → get_or r.values (y * (size_of face).w + x) 0 ≡ tile_value face format table x y) →
    IsRealised face format table r
filled_is_realised face format table r size long each = record {
  size = size;
  values = same_grid (size_of face).w (size_of face).h (λ x y. brush_value face format table (point_at 0 0) (point_at x y)) r.values long
      (λ x y hx hy. each x y hx hy ∙ rw (wrapped-inside x (size_of face).w hx, wrapped-inside y (size_of face).h hy) refl);
}
