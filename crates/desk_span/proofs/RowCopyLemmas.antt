-- A row of values that is copied through a surface of one row.
use Rattle.std.proofs.Common.{◌≡◌, ℕ, pos, ◌+◌, ◌-◌, ◌*◌, ◌^◌, ◌<◌, ◌≤◌, ◌+ℤ◌, ◌-ℤ◌, ◌≤ℤ◌, true, List, length, get_or, take, drop, Option}
use Rattle.std.proofs.Common.{Some, None, unwrap_or, refl, sym, ap, ◌∙◌, arith, unsigned_abs, IsTrue, subst, length-take, length-drop}
use Rattle.std.proofs.Common.{FitsSigned, ℤ, of_z, to_z, w32}
use Rattle.std.specs.List.{All}
use Rattle.std.proofs.lemmas.Bool.Decides.{nat_tests}
use Rattle.std.proofs.lemmas.Int.{ints, to_z-of_z}
use Rattle.std.proofs.lemmas.List.{get_or_default, get_or-drop, get_or-take, same_lists}
use Rattle.geom_base.specs.declared.point.Point.{Point}
use Rattle.geom_base.specs.declared.rect.Rect.{Rect}
use Rattle.geom_base.specs.declared.size.Size.{Size}
use Rattle.geom_base.specs.Points.{HasPoints, IsIn, is_in, is_in_some, point_at, whole}
use Rattle.geom_base.specs.Step.{redrawn}
use Rattle.geom_base.specs.StepLaws.{length-redrawn, redrawn_rule, value_at-redrawn}
use Rattle.geom_base.specs.Grid.{value_at}
use Rattle.pix_format.specs.declared.rgb.Rgb.{Rgb}
use Rattle.pix_format.specs.Translate.{same_kind}
use Rattle.pix_format.specs.Value.{bits_of}
use Rattle.pix_format.specs.XlateLaws.{Decides-same_kind}
use Rattle.surf_obj.specs.Runs.{listed, run_of}
use Rattle.surf_obj.specs.Surface.{changed, Surface}
use Rattle.brush_obj.specs.Calls.{moved_call, moved_copy, new_of_copy, point_across}
use Rattle.brush_obj.specs.declared.copy_call.CopyCall.{CopyCall}
use Rattle.brush_obj.specs.declared.draw_call.DrawCall.{DrawCall}
use Rattle.brush_obj.specs.declared.draw_call.DrawCall.TheVariants.{Blt, Copy, Paint}
use Rattle.brush_obj.specs.CallLaws.{copy-source}
use Rattle.clip_obj.specs.Clip.{LiesWithin}
use Rattle.script_orders.specs.Asked.{RowIsCopied}
use Rattle.script_orders.specs.Rows.{row_end}
use Rattle.script_orders.specs.declared.desk_command.Feed.TheVariants.{Row}
use Rattle.desk_span.specs.InnerRows.{CopiesRow, row_operands}
use Rattle.clip_obj.specs.ClipLaws.{lies_within}
use Rattle.desk_span.proofs.FrameLemmas.{IsFrameOf}

-- what a row gives a point that belongs to its place n
row_gives : (t : Surface) (vs : List ℕ) (back : Rgb) (q : Point) (n : ℕ) → q ≡ point_at n 0 → n < length vs →
    (row_operands t vs back).source q ≡ Some (get_or vs n 0)
row_gives t vs back q n e lt =
    let inside : is_in (point_at n 0) (whole (record { w = length vs; h = 1 })) ≡ true = grind (arith, nat_tests, ints) in
    let place : 0 * length vs + n ≡ n = omega arith in
    let alike : same_kind t.format t.table t.format t.table ≡ true = (Decides-same_kind t.format t.table t.format t.table).1 (refl, refl) in
    rw (e, inside, place, alike) refl

-- a surface of one row all of whose values were written
pub row_written : (size : Size) (old values : List ℕ) → size.w ≡ length values → size.h ≡ 1 → length old ≡ size.w * size.h →
    redrawn size old (λ p. is_in p (run_of (point_at 0 0) (length values))) (listed values 0) ≡ values
row_written size old values wide high long =
    same_lists new values all_long (λ k d below.
    let lt : k < length values = omega (arith, all_long, below) in
    get_or_default new k d 0 below ∙ written k lt ∙ sym (get_or_default values k d 0 lt))
  where
    new : List ℕ
    new = redrawn size old (λ p. is_in p (run_of (point_at 0 0) (length values))) (listed values 0)

    all_long : length new ≡ length values
    all_long = length-redrawn size old _ _ ∙ long ∙ rw (high, wide) (omega arith)

    written : (k : ℕ) → k < length values → get_or new k 0 ≡ get_or values k 0
    written k lt =
        let inside : is_in (point_at k 0) (run_of (point_at 0 0) (length values)) ≡ true = grind (arith, nat_tests, ints, lt) in
        let place : 0 * size.w + k ≡ k = omega arith in
        let column : k - 0 ≡ k = omega arith in
        ap (λ n. get_or new n 0) (sym place)
        ∙ value_at-redrawn size old (λ p. is_in p (run_of (point_at 0 0) (length values))) (listed values 0) k 0 long
        (omega (arith, wide, lt)) (omega (arith, high))
        ∙ rw inside (ap (λ n. get_or values n 0) column)

-- the copy of all values of a row, moved, copies a row
row_moved : (c : CopyCall) (by : Point) (values : List ℕ) → RowIsCopied (Row values) (Copy c) → CopiesRow (moved_copy c by) values
row_moved c by values copied =
    let edge : c.rect.right ≡ row_end c.rect.left (length values) = ap (λ q. q.right) copied.1 in
    let end : row_end c.rect.left (length values) ≤ℤ (c.rect.left +ℤ pos (length values)) = grind (arith, ints) in
    let below : c.rect.bottom ≡ (c.rect.top +ℤ pos 1) = ap (λ q. q.bottom) copied.1 in
    record { first = copied.0; across = omega (arith, ints, edge, end); down = omega (arith, ints, below) }

same_copy : (a b : CopyCall) → Copy a ≡ Copy b → a ≡ b
same_copy a b e = cc

pub copies_row : (call : DrawCall) (by : Point) (values : List ℕ) (c : CopyCall) → RowIsCopied (Row values) call → moved_call call by ≡ Copy c →
    CopiesRow c values
copies_row (Copy a) by values c copied e = subst (λ (b : CopyCall). CopiesRow b values) (same_copy (moved_copy a by) c e) (row_moved a by values copied)
copies_row (Blt a) by values c copied e = absurd copied
copies_row (Paint a) by values c copied e = absurd copied

-- the call is a copy
pub is_copy : (call seen : DrawCall) (by : Point) (values : List ℕ) → RowIsCopied (Row values) call → seen ≡ moved_call call by →
    ((c : CopyCall) → seen ≡ Copy c → ⊥) → ⊥
is_copy (Copy a) seen by values copied e none = none (moved_copy a by) e
is_copy (Blt a) seen by values copied e none = copied
is_copy (Paint a) seen by values copied e none = copied

-- the columns between edges that fit 32 bits
pub columns : (n : ℕ) (from to : ℤ) → FitsSigned w32 from → FitsSigned w32 to → pos n ≡ (to_z w32 (of_z w32 to) -ℤ to_z w32 (of_z w32 from)) →
    pos n ≡ (to -ℤ from)
columns n from to f t e = e ∙ rw (to_z-of_z w32 from f, to_z-of_z w32 to t) refl

-- a copy of values, the frame of its rectangle on a surface, and the columns before it and in it
module _ (t : Surface) (call : CopyCall) (values : List ℕ) (frame : Rect) (from len : ℕ) (copied : CopiesRow call values)
    (common : IsFrameOf frame call.rect t.size) (some : HasPoints frame)
    (first : pos from ≡ frame.left -ℤ call.rect.left) (wide : pos len ≡ frame.right -ℤ frame.left) where
  within : LiesWithin call.rect frame
  within = lies_within frame call.rect (λ p h. ((common p).0 h).0) some

  pub row_fits : (1 ≤ len) × (len ≤ t.size.w) × (from + len ≤ length values)
  row_fits =
      let on = lies_within frame (whole t.size) (λ p h. ((common p).0 h).1) some in
      let edge = copied.across in (
        omega (arith, ints, some.across, wide),
        omega (arith, ints, on.left, on.right, wide),
        omega (arith, ints, edge, within.right, first, wide),
      )

  -- the values in the frame's columns
  abbrev pub taken : List ℕ
  taken = take (from + len - from) (drop from values)

  pub taken_long : length taken ≡ len
  taken_long = simp (length-take, length-drop) (omega (arith, row_fits.2))

  -- the copy through a surface of one row that has these values
  module _ (fits : All (λ v. v < 2 ^ bits_of t.format) values) (back other : Rgb) where
    abbrev pub part : CopyCall
    part = record { target = call.target; rect = frame; held = None; src = point_at 0 0 }

    -- at a point of the frame both copies give one value
    alike : (x y d : ℕ) → IsIn (point_at x y) frame →
        new_of_copy part (row_operands t taken other) (point_at x y) d ≡ new_of_copy call (row_operands t values back) (point_at x y) d
    alike x y d h =
        let p = point_at x y in
        let k = unsigned_abs (pos x -ℤ frame.left) in
        let column : pos k ≡ pos x -ℤ frame.left = grind (arith, ints) in
        let below = copied.down in
        let v = get_or values (from + k) 0 in
        let inside : k < len = omega (arith, ints, column, wide, h.to_right) in
        let reached : from + k < length values = omega (arith, row_fits.2, inside) in
        let small : v < 2 ^ bits_of t.format = fits (from + k) 0 reached in
        let across : point_across frame (point_at 0 0) p ≡ point_at k 0 =
        let a : ((pos x -ℤ frame.left) +ℤ pos 0) ≡ pos k = omega (arith, ints, column) in
        let b : ((pos y -ℤ frame.top) +ℤ pos 0) ≡ pos 0 = omega (arith, ints, below, h.from_top, h.to_bottom, within.top, within.bottom) in
        λ i. record { x = a i; y = b i } in
        let over : point_across call.rect call.src p ≡ point_at (from + k) 0 =
        let a : ((pos x -ℤ call.rect.left) +ℤ pos 0) ≡ pos (from + k) = omega (arith, ints, column, first) in
        let b : ((pos y -ℤ call.rect.top) +ℤ pos 0) ≡ pos 0 = omega (arith, ints, below, h.from_top, h.to_bottom, within.top, within.bottom) in
        rw copied.first (λ i. record { x = a i; y = b i }) in
        let same : get_or taken k 0 ≡ v = get_or-take (from + len - from) (drop from values) k 0 (omega (arith, inside)) ∙ get_or-drop from values k 0 in
        let given = row_gives t taken other _ k across (omega (arith, taken_long, inside)) ∙ ap (λ (n : ℕ). Some n) same in
        copy-source part (row_operands t taken other) p d v given small
        ∙ sym (copy-source call (row_operands t values back) p d v (row_gives t values back _ (from + k) over reached) small)

    pub row_copied : (rects : List Rect) → length t.values ≡ t.size.w * t.size.h → ((p : Point) → IsTrue (is_in_some p rects) → IsIn p frame) →
        changed (new_of_copy part (row_operands t taken other)) (λ p. is_in_some p rects) t
        ≡ changed (new_of_copy call (row_operands t values back)) (λ p. is_in_some p rects) t
    row_copied rects long inside =
        ap (λ (vs : List ℕ). record t { values = vs })
        (redrawn_rule t.size t.values (λ p. is_in_some p rects) (new_of_copy part (row_operands t taken other))
        (new_of_copy call (row_operands t values back)) long
        (λ x y hx hy h. let d = value_at t.size t.values x y in ap (λ (o : Option ℕ). unwrap_or o d) (alike x y d (inside (point_at x y) h))))
