-- Managed calls: the frame of a clip, and the room of a drawn list.
use Rattle.std.proofs.Common.{◌≡◌, ◌∙◌, ℕ, ◌+◌, ◌*◌, ◌≤◌, min, ◌<◌, Bool, true, false, ◌||◌, IsTrue, List, length, get_or, refl, ap, sym, subst, arith}
use Rattle.std.proofs.Common.{Option, None, unwrap_or, Result, Ok, Err, is_err, OnOk, OnErr}
use Rattle.std.specs.List.{All}
use Rattle.std.proofs.lemmas.Bool.{false≢true}
use Rattle.std.proofs.lemmas.Int.{ints}
use Rattle.std.proofs.lemmas.List.Folds.{list_any_at}
use Rattle.geom_base.specs.declared.point.Point.{Point}
use Rattle.geom_base.specs.declared.port_answer.PortAnswer.{PortAnswer}
use Rattle.geom_base.specs.declared.port_answer.PortAnswer.TheVariants.{Done, NoMemory}
use Rattle.geom_base.specs.declared.rect.Rect.{Rect}
use Rattle.geom_base.specs.declared.size.Size.{Size}
use Rattle.geom_base.specs.declared.target.Target.{Target}
use Rattle.geom_base.specs.Drawn.{Drawn}
use Rattle.geom_base.specs.PointLaws.{has_point, is_in-IsIn, lies_between}
use Rattle.geom_base.specs.Points.{HasPoints, IsIn, LiesIn, corner_of, is_in, is_in_some, sides_of, whole, width_of}
use Rattle.geom_base.specs.Step.{Area, Change}
use Rattle.region.specs.Extents.{AreExtents}
use Rattle.surf_obj.specs.Object.{object_values}
use Rattle.surf_obj.specs.Rects.{as_in_at}
use Rattle.surf_obj.specs.Surface.{Surface, changed}
use Rattle.surf_obj.specs.declared.object.SurfObj.{SurfObj}
use Rattle.clip_obj.specs.Clip.{LiesWithin}
use Rattle.clip_obj.specs.ClipLaws.{all_within, clip_in, lies_within}
use Rattle.copy_port.specs.Laws.{draws_as, keeps_then_draws}
use Rattle.copy_port.specs.Port.{Draws, Keeps}
use Rattle.copy_port.specs.State.{IsLive, PortState, Rest, Shown, surface_of}
use Rattle.eng_calls.specs.InnerBands.{bands_of}
use Rattle.eng_calls.specs.Copies.{LiesOnTarget}
use Rattle.eng_calls.specs.InnerCopies.{IsDrawnCopy}
use Rattle.eng_calls.proofs.HeldLemmas.{frame_on_target}

-- extents without points are those of no point
pub no_extents : (rects : List Rect) (frame : Rect) (p : Point) → AreExtents rects frame → ¬ HasPoints frame → is_in_some p rects ≡ false
no_extents rects frame p h none = at (is_in_some p rects) refl
  where
    at : (b : Bool) → is_in_some p rects ≡ b → b ≡ false
    at true e = absurd (none (has_point ((is_in-IsIn p frame).0 (h.within p e))))
    at false e = refl

-- a rectangle of a clip has its points in the clip
in_clip : (rects : List Rect) (k : ℕ) (d : Rect) (p : Point) → k < length rects → IsIn p (get_or rects k d) → IsTrue (is_in_some p rects)
in_clip rects k d p lt h = list_any_at (λ r. is_in p r) rects k d lt ((is_in-IsIn p (get_or rects k d)).1 h)

-- the rectangles of a clip lie within their extents
pub all_framed : (rects : List Rect) (frame : Rect) → AreExtents rects frame → All HasPoints rects → All (LiesWithin frame) rects
all_framed rects frame h points = λ k d lt.
    lies_within (get_or rects k d) frame (λ p i. (is_in-IsIn p frame).0 (h.within p (in_clip rects k d p lt i))) (points k d lt)

-- and the extents lie in the surface that they lie in
pub frame_inside : (rects : List Rect) (frame : Rect) (size : Size) → AreExtents rects frame → HasPoints frame → All (λ r. LiesIn r size) rects → LiesIn frame size
frame_inside rects frame size h points all =
    let b = lies_between frame (whole size) (λ p i. (is_in-IsIn p (whole size)).0 (h.least (whole size) (λ q t. clip_in (whole size) rects q (all_within size rects all) t) p ((is_in-IsIn p frame).1 i))) points in
    record {
      left = b.left;
      across = omega (arith, ints, points.across);
      right = b.right;
      top = b.top;
      down = omega (arith, ints, points.down);
      bottom = b.bottom;
    }

-- so they lie on a target in which the rectangles lie
pub extents_on_target : (rects : List Rect) (frame : Rect) (t : Target) (state : PortState) → AreExtents rects frame → HasPoints frame →
    IsLive state.shown t → All (λ r. LiesIn r (surface_of state.shown t).size) rects → LiesOnTarget frame
extents_on_target rects frame t state h points live all =
    frame_on_target frame t state live (frame_inside rects frame (surface_of state.shown t).size h points all)

-- and no rectangle is wider than they are
pub all_narrow : (rects : List Rect) (frame : Rect) (n : ℕ) → All (LiesWithin frame) rects → width_of frame ≤ n → All (λ r. width_of r ≤ n) rects
all_narrow rects frame n within h = λ k d lt. let w = within k d lt in omega (arith, ints, w.left, w.across, w.right, h)

-- nothing changed, for want of memory
pub wanting : (before after : PortState) → Keeps before after Done → Keeps before after NoMemory
wanting before after k = record { shown = k.shown; written = k.written; rest = k.rest; later = k.later; cause = tt }

-- a drawing onto a list for which room was made and given back
pub draws_roomy : (t : Target) (new : Change) (area : Area) (most needed : ℕ) (before after : PortState) (d roomy e given : Drawn) (answer : PortAnswer) →
    roomy.rects ≡ d.rects → d.spare ≤ roomy.spare → d.spare + needed ≤ roomy.spare + most → given.rects ≡ e.rects → min d.spare e.spare ≤ given.spare →
    Draws t new area needed before after roomy e answer → Draws t new area most before after d given answer
draws_roomy t new area most needed before after d roomy e given answer same kept left back least h = record {
  more = h.more;
  pushes = record {
    points = λ p. ap (λ rs. is_in_some p rs) back ∙ h.pushes.points p ∙ ap (λ rs. is_in_some p rs || h.more p) same;
    spare = omega (arith, left, least, h.pushes.spare);
    room = let e1 : length given.rects ≡ length e.rects = ap length back in let e2 : length roomy.rects ≡ length d.rects = ap length same in
        omega (arith, least, kept, h.pushes.room, h.pushes.longer, e1, e2);
    longer = let e1 : length given.rects ≡ length e.rects = ap length back in let e2 : length roomy.rects ≡ length d.rects = ap length same in
        omega (arith, h.pushes.longer, e1, e2);
  };
  within = h.within;
  shown = h.shown;
  done = h.done;
  rest = h.rest;
  later = h.later;
  cause = h.cause;
}

-- answers

pub not_wanting : ¬ (NoMemory ≡ Done)
not_wanting e = cc

pub on_refusal : {A E P : Type 0} (r : Result A E) → is_err r ≡ true → OnErr r P → P
on_refusal (Ok a) e h = absurd (false≢true e)
on_refusal (Err x) e h = h

pub on_success : {A E P : Type 0} (r : Result A E) → is_err r ≡ false → OnOk r P → P
on_success (Ok a) e h = h
on_success (Err x) e h = absurd (false≢true (sym e))

-- the room of a drawn list, in other words

pub roomy_left : (d roomy cuts most : ℕ) (n m : ℕ) (rects : List Rect) → cuts ≡ most → n ≡ m →
    d + cuts * bands_of n rects ≤ roomy + cuts * length rects → d + most * bands_of m rects ≤ roomy + most * length rects
roomy_left d roomy cuts most n m rects a e h = rw (← a, ← e) h

-- what was written off the copy on which the call was drawn
pub managed : (t at : Target) (new : Change) (clip rects : List Rect) (frame : Rect) (size : Size) (values : List ℕ) (copy : SurfObj)
    (before mid after : PortState) (d e : Drawn) (answer : PortAnswer) → IsDrawnCopy (surface_of before.shown t) frame clip new copy →
    Keeps before mid Done → at ≡ t → rects ≡ clip → size ≡ sides_of frame → values ≡ object_values copy →
    Draws at (as_in_at (corner_of frame) size values) (λ p. is_in_some p rects) (mid.rest.cuts * length rects) mid after d e answer →
    Draws t new (λ p. is_in_some p clip) (before.rest.cuts * length clip) before after d e answer
managed t at new clip rects frame size values copy before mid after d e answer drew keeps here listed sides are h =
    keeps_then_draws t new (λ p. is_in_some p clip) (before.rest.cuts * length clip) before mid after d e Done answer keeps
    (draws_as t f new (λ p. is_in_some p clip) (λ p. is_in_some p clip) (before.rest.cuts * length clip) mid after d e answer (λ p. refl)
    (λ s area is inside. subst (λ (u : Surface). changed f area u ≡ changed new area u)
    (ap (λ (o : Option Surface). unwrap_or o nothing) (ap (λ (m : Shown). m t) (sym keeps.shown) ∙ is))
    (ap (λ (vs : List ℕ). record (surface_of before.shown t) { values = vs }) (drew.step area inside)))
    (subst (λ (n : ℕ). Draws t f (λ p. is_in_some p clip) (n * length clip) mid after d e answer) (ap (λ (r : Rest). r.cuts) keeps.rest) written))
  where
    f : Change
    f = as_in_at (corner_of frame) (sides_of frame) (object_values copy)

    written : Draws t f (λ p. is_in_some p clip) (mid.rest.cuts * length clip) mid after d e answer
    written =
        subst (λ (u : Target). Draws u f (λ p. is_in_some p clip) (mid.rest.cuts * length clip) mid after d e answer) here
        (subst (λ (l : List Rect). Draws at f (λ p. is_in_some p l) (mid.rest.cuts * length l) mid after d e answer) listed
        (subst (λ (z : Size). Draws at (as_in_at (corner_of frame) z (object_values copy)) (λ p. is_in_some p rects) (mid.rest.cuts * length rects)
        mid after d e answer) sides
        (subst (λ (vs : List ℕ). Draws at (as_in_at (corner_of frame) size vs) (λ p. is_in_some p rects) (mid.rest.cuts * length rects) mid after d e answer)
        are h)))

    nothing : Surface
    nothing = surface_of (λ (u : Target). None) t
