-- Rectangles between a port and bits.
use Rattle.std.proofs.Common.{◌≡◌, ◌∙◌, ℕ, ℤ, zero, suc, pos, ◌+◌, ◌*◌, ◌+ℤ◌, ◌-ℤ◌, ◌≤ℤ◌, ◌<◌, ◌≤◌, Bool, true, false, ◌||◌, IsTrue, true≢false}
use Rattle.std.proofs.Common.{List, [], ◌∷◌, length, get_or, take, refl, ap, sym, subst, arith, Option, Some, is_some, unwrap_or, mul-le-mul_left, unsigned_abs, FitsSigned, w32}
use Rattle.std.proofs.lemmas.Int.{ints}
use Rattle.geom_base.specs.declared.point.Point.{Point}
use Rattle.geom_base.specs.declared.port_answer.PortAnswer.{PortAnswer}
use Rattle.geom_base.specs.declared.port_answer.PortAnswer.TheVariants.{Done}
use Rattle.geom_base.specs.declared.rect.Rect.{Rect}
use Rattle.geom_base.specs.declared.size.Size.{Size}
use Rattle.geom_base.specs.declared.target.Target.{Target}
use Rattle.geom_base.specs.Drawn.{Drawn}
use Rattle.geom_base.specs.Grid.{value_at}
use Rattle.geom_base.specs.PointLaws.{is_in-IsIn, same_edges}
use Rattle.geom_base.specs.Points.{HasPoints, HasSides, LiesIn, RectMoves, corner_of, height_of, is_in, is_in_some, moved_rect, point_at, sides_of, width_of}
use Rattle.geom_base.specs.Step.{Area, Change, redrawn}
use Rattle.geom_base.specs.StepLaws.{length-redrawn, redrawn_nowhere, redrawn_rule, value_at-redrawn}
use Rattle.surf_obj.specs.RectLaws.{redrawn_twice, redrawn_written_at, reads_rect, written_as_at}
use Rattle.surf_obj.specs.Rects.{ReadsRect, as_in_at, rect_values, with_values}
use Rattle.surf_obj.specs.Surface.{Surface}
use Rattle.clip_obj.specs.Clip.{LiesWithin, to_origin}
use Rattle.copy_port.specs.Laws.{draws_as, draws_part, draws_then_draws, format_on, live_on, size_on}
use Rattle.copy_port.specs.Port.{Draws, InTarget}
use Rattle.copy_port.specs.State.{PortState, Rest, Shown, drawn_on, surface_of}
use Rattle.eng_calls.specs.declared.part.Part.{Part}
use Rattle.eng_calls.specs.InnerBands.{band_count, band_of, bands_of, before_band}
use Rattle.eng_calls.specs.InnerParts.{IsPart}
use Rattle.eng_calls.proofs.BandLemmas.{band_points, band_within, bands_more, bands_part, before_end, before_first, before_next, one_more, row_end, some_more, within_itself}

-- a rectangle of a part lies, moved, in the bits that stand for the part
pub on_bits : (size : Size) (outer r : Rect) → size ≡ sides_of outer → LiesWithin outer r → LiesIn (moved_rect r (to_origin (corner_of outer))) size
on_bits size outer r e h = subst (LiesIn (moved_rect r (to_origin (corner_of outer)))) (sym e) (record {
  left = omega (arith, ints, h.left);
  across = omega (arith, ints, h.across);
  right = omega (arith, ints, h.left, h.across, h.right);
  top = omega (arith, ints, h.top);
  down = omega (arith, ints, h.down);
  bottom = omega (arith, ints, h.top, h.down, h.bottom);
})

pub same_side : (a b by : ℤ) → unsigned_abs ((b +ℤ by) -ℤ (a +ℤ by)) ≡ unsigned_abs (b -ℤ a)
same_side a b by = omega (arith, ints)

-- a moved rectangle has as many points
pub moved_count : (r : Rect) (by : Point) → width_of (moved_rect r by) * height_of (moved_rect r by) ≡ width_of r * height_of r
moved_count r by = rw (same_side r.left r.right by.x, same_side r.top r.bottom by.y) refl

-- a drawing leaves a part one

part_on : (t : Target) (new : Change) (area : Area) (m : Shown) (part : Part) → IsPart m part → IsPart (drawn_on t new area m) part
part_on t new area m part h = record {
  live = subst (λ (b : Bool). IsTrue b) (sym (live_on t part.target new area m)) h.live;
  size = h.size;
  format = h.format ∙ sym (format_on t part.target new area m);
}

pub part_after : (t : Target) (new : Change) (area : Area) (most : ℕ) (before after : PortState) (d e : Drawn) (answer : PortAnswer) (part : Part) →
    Draws t new area most before after d e answer → IsPart before.shown part → IsPart after.shown part
part_after t new area most before after d e answer part h is =
    subst (λ (m : Shown). IsPart m part) (sym h.shown) (part_on t new h.more before.shown part is)

-- and rectangles in their target

in_target_on : (t q : Target) (new : Change) (area : Area) (m : Shown) (r : Rect) → InTarget m q r → InTarget (drawn_on t new area m) q r
in_target_on t q new area m r h = record {
  alive = subst (λ (b : Bool). IsTrue b) (sym (live_on t q new area m)) h.alive;
  rect = subst (LiesIn r) (sym (size_on t q new area m)) h.rect;
  points = h.points;
}

pub in_target_after : (t q : Target) (new : Change) (area : Area) (most : ℕ) (before after : PortState) (d e : Drawn) (answer : PortAnswer) (r : Rect) →
    Draws t new area most before after d e answer → InTarget before.shown q r → InTarget after.shown q r
in_target_after t q new area most before after d e answer r h is =
    subst (λ (m : Shown). InTarget m q r) (sym h.shown) (in_target_on t q new h.more before.shown r is)

-- so are the bands of one that is
pub band_in_target : (m : Shown) (q : Target) (room : ℕ) (r : Rect) (k : ℕ) → k < band_count room r → InTarget m q r → InTarget m q (band_of room r k)
band_in_target m q room r k lt h =
    let w = band_within room r r k h.points (within_itself r h.points) lt in
    record {
      alive = h.alive;
      rect = record {
        left = omega (arith, ints, w.left, h.rect.left);
        across = w.across;
        right = omega (arith, ints, w.right, h.rect.right);
        top = omega (arith, ints, w.top, h.rect.top);
        down = w.down;
        bottom = omega (arith, ints, w.bottom, h.rect.bottom);
      };
      points = band_points room r k h.points;
    }

-- a rectangle of a part moves into the bits that stand for the part

edge_fits : (z o : ℤ) (n : ℕ) → o ≤ℤ z → z ≤ℤ (o +ℤ pos n) → n ≤ 4096 → FitsSigned w32 (z +ℤ (pos 0 -ℤ o))
edge_fits z o n low high few = grind (arith, ints, low, high, few)

pub part_moves : (size : Size) (outer r : Rect) → size ≡ sides_of outer → HasSides size → LiesWithin outer r → RectMoves (to_origin (corner_of outer)) r
part_moves size outer r e sides h =
    let wide : width_of outer ≤ 4096 = rw (← (ap (λ (s : Size). s.w) e)) sides.1 in
    let high : height_of outer ≤ 4096 = rw (← (ap (λ (s : Size). s.h) e)) sides.3 in
    record {
      left = edge_fits r.left outer.left (width_of outer) h.left (omega (arith, ints, h.left, h.across, h.right)) wide;
      top = edge_fits r.top outer.top (height_of outer) h.top (omega (arith, ints, h.top, h.down, h.bottom)) high;
      right = edge_fits r.right outer.left (width_of outer) (omega (arith, ints, h.left, h.across)) (omega (arith, ints, h.left, h.across, h.right)) wide;
      bottom = edge_fits r.bottom outer.top (height_of outer) (omega (arith, ints, h.top, h.down)) (omega (arith, ints, h.top, h.down, h.bottom)) high;
    }

-- bits from a target

-- an area by the same points
in_area : (size : Size) (vs : List ℕ) (a b : Area) (new : Change) → ((p : Point) → a p ≡ b p) → redrawn size vs a new ≡ redrawn size vs b new
in_area size vs a b new same = λ i. redrawn size vs (λ p. same p i) new

-- a rectangle that was read and written at its place
pub read_onto : (size shape : Size) (vs new from values : List ℕ) (r at : Rect) (by : Point) → at ≡ moved_rect r by →
    new ≡ redrawn size vs (λ p. is_in p at) (with_values at from) → ReadsRect r shape values from →
    new ≡ redrawn size vs (λ p. is_in p (moved_rect r by)) (as_in_at by shape values)
read_onto size shape vs new from values r at by place written reads =
    written ∙ ap (λ (b : Rect). redrawn size vs (λ p. is_in p b) (with_values b from)) place ∙ redrawn_written_at size shape vs values from r by reads

-- no band is there
pub none_read : (room : ℕ) (r : Rect) (by : Point) (size : Size) (vs : List ℕ) (new : Change) →
    vs ≡ redrawn size vs (λ p. is_in p (moved_rect (before_band room r 0) by)) new
none_read room r by size vs new =
    sym (in_area size vs (λ p. is_in p (moved_rect (before_band room r 0) by)) (λ _. false) new (before_first room r by) ∙ redrawn_nowhere size vs new)

-- one band more is there
pub next_read : (room : ℕ) (r : Rect) (k : ℕ) (by corner : Point) (size shape : Size) (vs mid new values : List ℕ) →
    mid ≡ redrawn size vs (λ p. is_in p (moved_rect (before_band room r k) by)) (as_in_at corner shape values) →
    new ≡ redrawn size mid (λ p. is_in p (moved_rect (band_of room r k) by)) (as_in_at corner shape values) →
    new ≡ redrawn size vs (λ p. is_in p (moved_rect (before_band room r (k + 1)) by)) (as_in_at corner shape values)
next_read room r k by corner size shape vs mid new values first second =
    second
    ∙ ap (λ (xs : List ℕ). redrawn size xs (λ p. is_in p (moved_rect (band_of room r k) by)) (as_in_at corner shape values)) first
    ∙ redrawn_twice size shape vs values (λ p. is_in p (moved_rect (before_band room r k) by)) (λ p. is_in p (moved_rect (band_of room r k) by)) corner
    ∙ sym (in_area size vs (λ p. is_in p (moved_rect (before_band room r (k + 1)) by))
    (λ p. is_in p (moved_rect (before_band room r k) by) || is_in p (moved_rect (band_of room r k) by)) (as_in_at corner shape values)
    (before_next room r k by))

at_corner : (l n t b : ℤ) (x y : ℕ) → x < unsigned_abs (n -ℤ l) → y < unsigned_abs (b -ℤ t) → l ≤ℤ n → t ≤ℤ b →
    is_in (point_at x y) (moved_rect (record { left = l; top = t; right = n; bottom = b }) (to_origin (record { x = l; y = t }))) ≡ true
at_corner l n t b x y hx hy across down =
    (is_in-IsIn (point_at x y) (moved_rect (record { left = l; top = t; right = n; bottom = b }) (to_origin (record { x = l; y = t })))).1 (record {
      from_left = omega (arith, ints);
      to_right = omega (arith, ints);
      from_top = omega (arith, ints);
      to_bottom = omega (arith, ints);
    })

back : (x : ℕ) (l : ℤ) → pos x -ℤ (pos 0 -ℤ l) ≡ pos x +ℤ l
back x l = omega (arith, ints)

-- a rectangle's values at the corner of bits of its size are its list
pub whole_read : (r : Rect) (shape : Size) (vs values : List ℕ) → HasPoints r → length vs ≡ width_of r * height_of r →
    redrawn (sides_of r) vs (λ p. is_in p (moved_rect r (to_origin (corner_of r)))) (as_in_at (to_origin (corner_of r)) shape values) ≡
    rect_values r shape values
whole_read r shape vs values points long =
    let origin = to_origin (corner_of r) in
    reads_rect r shape values (redrawn (sides_of r) vs (λ p. is_in p (moved_rect r origin)) (as_in_at origin shape values))
    (length-redrawn (sides_of r) vs (λ p. is_in p (moved_rect r origin)) (as_in_at origin shape values) ∙ long)
    (λ x y hx hy. value_at-redrawn (sides_of r) vs (λ p. is_in p (moved_rect r origin)) (as_in_at origin shape values) x y long hx hy
    ∙ rw (
      at_corner r.left r.right r.top r.bottom x y hx hy (omega (arith, ints, points.across)) (omega (arith, ints, points.down)),
      back x r.left,
      back y r.top,
    ) refl)

-- all bands are there
pub all_read : (room : ℕ) (r : Rect) (k : ℕ) (size shape : Size) (vs new values : List ℕ) → HasPoints r → size ≡ sides_of r → length vs ≡ size.w * size.h →
    k ≡ band_count room r →
    new ≡ redrawn size vs (λ p. is_in p (moved_rect (before_band room r k) (to_origin (corner_of r)))) (as_in_at (to_origin (corner_of r)) shape values) →
    new ≡ rect_values r shape values
all_read room r k size shape vs new values points sides long last is =
    let origin = to_origin (corner_of r) in
    is
    ∙ ap (λ (z : Size). redrawn z vs (λ p. is_in p (moved_rect (before_band room r k) origin)) (as_in_at origin shape values)) sides
    ∙ ap (λ (b : Rect). redrawn (sides_of r) vs (λ p. is_in p (moved_rect b origin)) (as_in_at origin shape values))
    (ap (before_band room r) last ∙ before_end room r points)
    ∙ whole_read r shape vs values points (long ∙ ap (λ (z : Size). z.w * z.h) sides)

-- a target from bits

there_and_back : (r : Rect) (corner : Point) → moved_rect (moved_rect r (to_origin corner)) corner ≡ r
there_and_back r corner =
    same_edges (moved_rect (moved_rect r (to_origin corner)) corner) r (omega (arith, ints)) (omega (arith, ints)) (omega (arith, ints)) (omega (arith, ints))

-- values that were read off bits are written as those of the bits from their corner
stored_value : (r : Rect) (corner : Point) (shape : Size) (values from : List ℕ) (p : Point) (d : ℕ) →
    ReadsRect (moved_rect r (to_origin corner)) shape values from → IsTrue (is_in p r) →
    with_values r from p d ≡ as_in_at corner shape values p d
stored_value r corner shape values from p d reads t =
    subst (λ (b : Rect). IsTrue (is_in p b) → with_values b from p d ≡ as_in_at corner shape values p d) (there_and_back r corner)
    (written_as_at (moved_rect r (to_origin corner)) corner shape values from p d reads) t

-- a target that is shown has a value for each of its points
counted : (state : PortState) (t : Target) (s : Surface) → state.shown t ≡ Some s → length s.values ≡ s.size.w * s.size.h
counted state t s is =
    subst (λ (x : Surface). length x.values ≡ x.size.w * x.size.h) (ap (λ (o : Option Surface). surface_of (λ (q : Target). o) t) is)
    (state.sound t (ap is_some is)).count

-- a rectangle that was read off bits and written
pub stored_as : (t : Target) (corner : Point) (shape : Size) (values from : List ℕ) (r : Rect) (most : ℕ) (before after : PortState) (d e : Drawn)
    (answer : PortAnswer) → ReadsRect (moved_rect r (to_origin corner)) shape values from →
    Draws t (with_values r from) (λ p. is_in p r) most before after d e answer →
    Draws t (as_in_at corner shape values) (λ p. is_in p r) most before after d e answer
stored_as t corner shape values from r most before after d e answer reads h =
    draws_as t (with_values r from) (as_in_at corner shape values) (λ p. is_in p r) (λ p. is_in p r) most before after d e answer (λ p. refl)
    (λ s c is within. ap (λ (vs : List ℕ). record s { values = vs }) (redrawn_rule s.size s.values c (with_values r from) (as_in_at corner shape values)
    (counted before t s is) (λ x y hx hy i. ap (λ (o : Option ℕ). unwrap_or o (value_at s.size s.values x y))
    (stored_value r corner shape values from (point_at x y) (value_at s.size s.values x y) reads (within (point_at x y) i))))) h

module _ (t : Target) (corner : Point) (shape : Size) (values : List ℕ) (before mid after : PortState) (d e f : Drawn) where
  -- a drawing that is done, and then another: one by the points of both
  and_then : (a b both : Area) (m n all : ℕ) (answer : PortAnswer) → ((p : Point) → both p ≡ (a p || b p)) → all ≡ m + n →
      Draws t (as_in_at corner shape values) a m before mid d e Done → Draws t (as_in_at corner shape values) b n mid after e f answer →
      Draws t (as_in_at corner shape values) both all before after d f answer
  and_then a b both m n all answer area count g h =
      subst (λ (k : ℕ). Draws t (as_in_at corner shape values) both k before after d f answer) (sym count)
      (draws_as t (as_in_at corner shape values) (as_in_at corner shape values) (λ p. a p || b p) both (m + n) before after d f answer (λ p. sym (area p))
      (λ s c is within. refl) (draws_then_draws t corner shape values a b m n before mid after d e f answer g h))

  -- bands of a rectangle

  pub next_band : (room : ℕ) (r : Rect) (k : ℕ) (answer : PortAnswer) →
      Draws t (as_in_at corner shape values) (λ p. is_in p (before_band room r k)) (before.rest.cuts * k) before mid d e Done →
      Draws t (as_in_at corner shape values) (λ p. is_in p (band_of room r k)) mid.rest.cuts mid after e f answer →
      Draws t (as_in_at corner shape values) (λ p. is_in p (before_band room r (k + 1))) (before.rest.cuts * (k + 1)) before after d f answer
  next_band room r k answer g h =
      let same : mid.rest.cuts ≡ before.rest.cuts = ap (λ (x : Rest). x.cuts) g.rest in
      and_then (λ p. is_in p (before_band room r k)) (λ p. is_in p (band_of room r k)) (λ p. is_in p (before_band room r (k + 1)))
      (before.rest.cuts * k) mid.rest.cuts (before.rest.cuts * (k + 1)) answer (one_more room r k) (grind arith) g h

  -- rectangles of a list

  pub next_rect : (room : ℕ) (rects : List Rect) (i : ℕ) (o : Rect) (answer : PortAnswer) → i < length rects →
      Draws t (as_in_at corner shape values) (λ p. is_in_some p (take i rects)) (before.rest.cuts * bands_of room (take i rects)) before mid d e Done →
      Draws t (as_in_at corner shape values) (λ p. is_in p (get_or rects i o)) (mid.rest.cuts * band_count room (get_or rects i o)) mid after e f answer →
      Draws t (as_in_at corner shape values) (λ p. is_in_some p (take (i + 1) rects)) (before.rest.cuts * bands_of room (take (i + 1) rects))
      before after d f answer
  next_rect room rects i o answer lt g h =
      let same : mid.rest.cuts ≡ before.rest.cuts = ap (λ (x : Rest). x.cuts) g.rest in
      let more = bands_more room rects i o lt in
      and_then (λ p. is_in_some p (take i rects)) (λ p. is_in p (get_or rects i o)) (λ p. is_in_some p (take (i + 1) rects))
      (before.rest.cuts * bands_of room (take i rects)) (mid.rest.cuts * band_count room (get_or rects i o))
      (before.rest.cuts * bands_of room (take (i + 1) rects)) answer (λ p. some_more p rects i o lt) (rw (more, same) (grind arith)) g h

-- drawings that stopped

before_inside : (room : ℕ) (r : Rect) (k : ℕ) (p : Point) → HasPoints r → k < band_count room r → IsTrue (is_in p (before_band room r (k + 1))) →
    IsTrue (is_in p r)
before_inside room r k p points lt t =
    let h = (is_in-IsIn p (before_band room r (k + 1))).0 t in
    let end = row_end room r k lt in
    (is_in-IsIn p r).1 (record {
      from_left = h.from_left;
      to_right = h.to_right;
      from_top = h.from_top;
      to_bottom = omega (arith, ints, h.to_bottom, end, points.down);
    })

pub band_stopped : (t : Target) (new : Change) (room : ℕ) (r : Rect) (k : ℕ) (before after : PortState) (d e : Drawn) (answer : PortAnswer) →
    ¬ (answer ≡ Done) → HasPoints r → k < band_count room r →
    Draws t new (λ p. is_in p (before_band room r (k + 1))) (before.rest.cuts * (k + 1)) before after d e answer →
    Draws t new (λ p. is_in p r) (before.rest.cuts * band_count room r) before after d e answer
band_stopped t new room r k before after d e answer refused points lt h =
    draws_part t new (λ p. is_in p (before_band room r (k + 1))) (λ p. is_in p r) (before.rest.cuts * (k + 1)) (before.rest.cuts * band_count room r)
    before after d e answer refused (λ p i. before_inside room r k p points lt i) (mul-le-mul_left before.rest.cuts (omega arith)) h

pub band_ended : (t : Target) (new : Change) (room : ℕ) (r : Rect) (k : ℕ) (before after : PortState) (d e : Drawn) → HasPoints r → k ≡ band_count room r →
    Draws t new (λ p. is_in p (before_band room r k)) (before.rest.cuts * k) before after d e Done →
    Draws t new (λ p. is_in p r) (before.rest.cuts * band_count room r) before after d e Done
band_ended t new room r k before after d e points last h =
    subst (λ (b : Rect). Draws t new (λ p. is_in p b) (before.rest.cuts * band_count room r) before after d e Done) (before_end room r points)
    (subst (λ (n : ℕ). Draws t new (λ p. is_in p (before_band room r n)) (before.rest.cuts * n) before after d e Done) last h)

taken_inside : (p : Point) (rects : List Rect) (n : ℕ) → IsTrue (is_in_some p (take n rects)) → IsTrue (is_in_some p rects)
taken_inside p [] zero t = t
taken_inside p [] (suc n) t = t
taken_inside p (r ∷ rects) zero t = absurd (true≢false (sym t))
taken_inside p (r ∷ rects) (suc n) t = either (is_in p r) (is_in_some p (take n rects)) (is_in_some p rects) (taken_inside p rects n) t
  where
    either : (a b c : Bool) → (IsTrue b → IsTrue c) → IsTrue (a || b) → IsTrue (a || c)
    either true b c f h = refl
    either false b c f h = f h

pub rect_stopped : (t : Target) (new : Change) (room : ℕ) (rects : List Rect) (i : ℕ) (before after : PortState) (d e : Drawn) (answer : PortAnswer) →
    ¬ (answer ≡ Done) →
    Draws t new (λ p. is_in_some p (take i rects)) (before.rest.cuts * bands_of room (take i rects)) before after d e answer →
    Draws t new (λ p. is_in_some p rects) (before.rest.cuts * bands_of room rects) before after d e answer
rect_stopped t new room rects i before after d e answer refused h =
    draws_part t new (λ p. is_in_some p (take i rects)) (λ p. is_in_some p rects) (before.rest.cuts * bands_of room (take i rects))
    (before.rest.cuts * bands_of room rects) before after d e answer refused (λ p j. taken_inside p rects i j)
    (mul-le-mul_left before.rest.cuts (bands_part room rects i)) h

-- what is spared for the rest

module _ (t : Target) (new : Change) (area : Area) (before mid : PortState) (d e : Drawn) where
  pub band_spare : (room : ℕ) (r : Rect) (k : ℕ) → k < band_count room r → before.rest.cuts * band_count room r ≤ d.spare →
      Draws t new area (before.rest.cuts * k) before mid d e Done → mid.rest.cuts ≤ e.spare
  band_spare room r k lt spare g =
      let same : mid.rest.cuts ≡ before.rest.cuts = ap (λ (x : Rest). x.cuts) g.rest in
      let most : before.rest.cuts * (k + 1) ≤ before.rest.cuts * band_count room r = mul-le-mul_left before.rest.cuts (omega arith) in
      omega (arith, g.pushes.spare, most, same)

  pub rect_spare : (room : ℕ) (rects : List Rect) (i : ℕ) (o : Rect) → i < length rects → before.rest.cuts * bands_of room rects ≤ d.spare →
      Draws t new area (before.rest.cuts * bands_of room (take i rects)) before mid d e Done →
      mid.rest.cuts * band_count room (get_or rects i o) ≤ e.spare
  rect_spare room rects i o lt spare g =
      let same : mid.rest.cuts ≡ before.rest.cuts = ap (λ (x : Rest). x.cuts) g.rest in
      let more = bands_more room rects i o lt in
      let most : before.rest.cuts * bands_of room (take (i + 1) rects) ≤ before.rest.cuts * bands_of room rects =
      mul-le-mul_left before.rest.cuts (bands_part room rects (i + 1)) in
      let split : before.rest.cuts * (bands_of room (take i rects) + band_count room (get_or rects i o)) ≤
      before.rest.cuts * bands_of room rects = rw more at most in
      rw same (omega (arith, g.pushes.spare, split))
