use Rattle.std.proofs.Common.{◌≡◌, ◌∙◌, ℕ, ◌+◌, ◌-◌, ◌*◌, ◌<◌, ◌≤◌, Bool, true, false, cond, List, length, get_or, take, drop, refl, sym, ap, arith}
use Rattle.std.proofs.Math.Nat.{add-mul, mul_comm, mul-le-mul_right}
use Rattle.std.proofs.lemmas.Nat.{mul-add-lt}
use Rattle.std.proofs.lemmas.List.{get_or-take, get_or-drop}
use Rattle.geom_base.specs.GridLaws.{same_grid}
use Rattle.surf_obj.specs.Layout.{Layout, row_start, rows_of, pixel_in, values_in, Holds}
use Rattle.surf_obj.specs.LayoutLaws.{get_or-values_in, length-values_in}
use Rattle.surf_obj.proofs.LayoutLemmas.{slot}
use Rattle.surf_obj.proofs.PartLemmas.{length-part}

-- a row among some rows begins where it did
row_start-rows : (l : Layout) (top rows y : ℕ) → top + rows ≤ l.size.h → y < rows → row_start (rows_of l top rows) y ≡ row_start l (top + y)
row_start-rows l top rows y fit hy =
    let first = cond l.bottom_up (l.size.h - top - rows) top in
    omega (arith, ap (λ n. n * l.stride) (slots l.bottom_up), add-mul first (slot (rows_of l top rows) y) l.stride)
  where
    slots : (b : Bool) → cond b (l.size.h - 1 - (top + y)) (top + y) ≡ cond b (l.size.h - top - rows) top + cond b (rows - 1 - y) y
    slots true = omega arith
    slots false = refl

length-rows : (l : Layout) (vs : List ℕ) (top rows : ℕ) → length vs ≡ l.size.w * l.size.h → top + rows ≤ l.size.h →
    length (take ((top + rows) * l.size.w - top * l.size.w) (drop (top * l.size.w) vs)) ≡ l.size.w * rows
length-rows l vs top rows long fit =
    let within : (top + rows) * l.size.w ≤ l.size.h * l.size.w = mul-le-mul_right l.size.w fit in
    length-part vs (top * l.size.w) ((top + rows) * l.size.w) (omega (arith, long, within, mul_comm l.size.h l.size.w))
    ∙ omega (arith, add-mul top rows l.size.w, mul_comm rows l.size.w)

-- the values of some rows are a part of those of the surface
pub values_in-rows : (l : Layout) (bytes : List ℕ) (top rows : ℕ) → top + rows ≤ l.size.h →
    values_in (rows_of l top rows) bytes ≡ take ((top + rows) * l.size.w - top * l.size.w) (drop (top * l.size.w) (values_in l bytes))
unfolding values_in
values_in-rows l bytes top rows fit =
    let w = l.size.w in
    let all = values_in l bytes in
    sym (same_grid w rows (λ x y. pixel_in l.format bytes (row_start (rows_of l top rows) y) x) _ (length-rows l all top rows (length-values_in l bytes) fit)
    (λ x y hx hy.
    let place : top * w + (y * w + x) ≡ (top + y) * w + x = omega (arith, add-mul top y w) in
    let below : y * w + x < (top + rows) * w - top * w = omega (arith, add-mul top rows w, mul-add-lt y w x rows hy hx, mul_comm w rows) in
    get_or-take ((top + rows) * w - top * w) (drop (top * w) all) (y * w + x) 0 below ∙ get_or-drop (top * w) all (y * w + x) 0
    ∙ ap (λ i. get_or all i 0) place ∙ get_or-values_in l bytes x (top + y) hx (omega arith)
    ∙ ap (λ start. pixel_in l.format bytes start x) (sym (row_start-rows l top rows y fit hy))))

-- the bytes hold some rows too
pub Holds-rows : (l : Layout) (top rows len : ℕ) → 1 ≤ rows → top + rows ≤ l.size.h → Holds l len → Holds (rows_of l top rows) len
Holds-rows l top rows len some fit h =
    let first = cond l.bottom_up (l.size.h - top - rows) top in
    let inside : first + rows ≤ l.size.h = elim l.bottom_up as
    (λ b. cond b (l.size.h - top - rows) top + rows ≤ l.size.h) [ true ↦ omega arith | false ↦ fit ] in
    let sides = h.sides in
    record {
      rows = omega (arith, h.rows, add-mul first rows l.stride, mul-le-mul_right l.stride inside);
      columns = h.columns;
      sides = (sides.0, sides.1, some, omega (arith, fit, sides.3));
    }
