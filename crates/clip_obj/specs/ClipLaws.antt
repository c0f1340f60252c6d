-- Laws of rectangles that lie within another.
use Rattle.std.proofs.Common.{◌≡◌, Bool, true, false, ◌||◌, IsTrue, List, [], ◌∷◌, refl, subst, arith}
use Rattle.std.specs.List.{All}
use Rattle.std.proofs.lemmas.Bool.{false≢true}
use Rattle.std.proofs.lemmas.Int.{ints}
use Rattle.std.proofs.lemmas.List.Elements.{All-head, All-tail}
use Rattle.geom_base.specs.declared.point.Point.{Point}
use Rattle.geom_base.specs.declared.rect.Rect.{Rect}
use Rattle.geom_base.specs.declared.size.Size.{Size}
use Rattle.geom_base.specs.PointLaws.{is_in-IsIn, lies_between}
use Rattle.geom_base.specs.Points.{HasPoints, IsIn, LiesIn, is_in, is_in_some, whole}
use Rattle.clip_obj.specs.Clip.{LiesWithin}

-- a point of rectangles within a frame is in the frame
pub clip_in : (frame : Rect) (rects : List Rect) (p : Point) → All (LiesWithin frame) rects → IsTrue (is_in_some p rects) → IsTrue (is_in p frame)
clip_in frame [] p all t = absurd (false≢true t)
clip_in frame (r ∷ rects) p all t = at (is_in p r) refl (λ u. clip_in frame rects p (All-tail (LiesWithin frame) r rects all) u)
  where
    inside : IsTrue (is_in p r) → IsTrue (is_in p frame)
    inside t =
        let h = (is_in-IsIn p r).0 t in
        let w = All-head (LiesWithin frame) r rects all in
        (is_in-IsIn p frame).1 (record {
          from_left = omega (arith, ints, h.from_left, w.left);
          to_right = omega (arith, ints, h.to_right, w.right);
          from_top = omega (arith, ints, h.from_top, w.top);
          to_bottom = omega (arith, ints, h.to_bottom, w.bottom);
        })

    at : (b : Bool) → is_in p r ≡ b → (IsTrue (is_in_some p rects) → IsTrue (is_in p frame)) → IsTrue (is_in p frame)
    at true e k = inside e
    at false e k = k (subst (λ b. IsTrue (b || is_in_some p rects)) e t)

-- a rectangle whose points are another's lies within it
pub lies_within : (r s : Rect) → ((p : Point) → IsIn p r → IsIn p s) → HasPoints r → LiesWithin s r
lies_within r s inside h =
    let w = lies_between r s inside h in
    record {
      left = w.left;
      across = omega (arith, ints, h.across);
      right = w.right;
      top = w.top;
      down = omega (arith, ints, h.down);
      bottom = w.bottom;
    }

-- to lie within the whole of a surface is to lie on it

pub all_in : (size : Size) (rects : List Rect) → All (LiesWithin (whole size)) rects → All (λ r. LiesIn r size) rects
all_in size rects all k d lt =
    let w = all k d lt in
    record { left = w.left; across = w.across; right = w.right; top = w.top; down = w.down; bottom = w.bottom }

pub all_within : (size : Size) (rects : List Rect) → All (λ r. LiesIn r size) rects → All (LiesWithin (whole size)) rects
all_within size rects all k d lt =
    let w = all k d lt in
    record { left = w.left; across = w.across; right = w.right; top = w.top; down = w.down; bottom = w.bottom }
