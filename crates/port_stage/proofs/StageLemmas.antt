-- What is drawn on the stage can be drawn.
use Rattle.std.proofs.Common.{◌≡◌, ◌∙◌, ℕ, negsuc, Bool, true, false, ◌||◌, IsTrue, List, ◌∷◌, [], refl, sym, ap, subst, arith, Some, None}
use Rattle.std.specs.List.{All}
use Rattle.std.proofs.lemmas.Bool.{false≢true}
use Rattle.std.proofs.lemmas.Int.{ints}
use Rattle.std.proofs.lemmas.List.Elements.{All-head, All-tail}
use Rattle.geom_base.specs.declared.point.Point.{Point}
use Rattle.geom_base.specs.declared.rect.Rect.{Rect}
use Rattle.geom_base.specs.declared.size.Size.{Size}
use Rattle.geom_base.specs.PointLaws.{is_in-IsIn}
use Rattle.geom_base.specs.Points.{HasSides, LiesIn, is_in, is_in_some, point_at, whole}
use Rattle.clip_obj.specs.Clip.{Clip, LiesWithin}
use Rattle.clip_obj.specs.ClipLaws.{all_in, clip_in}
use Rattle.geom_base.specs.declared.target.Target.TheVariants.{Bitmap, Screen}
use Rattle.pix_format.specs.declared.format.Format.{Format}
use Rattle.pix_format.specs.declared.format.Format.TheVariants.{B1}
use Rattle.pix_format.specs.declared.rgb.Rgb.{Rgb}
use Rattle.pix_format.specs.Standard.{standard_colours}
use Rattle.pix_format.specs.Xlate.{Translation}
use Rattle.brush_obj.specs.declared.draw_call.DrawCall.TheVariants.{Blt, Copy, Paint}
use Rattle.brush_obj.specs.declared.face.BrushFace.{BrushFace}
use Rattle.rop_mix.specs.declared.rop4.Rop4.{Rop4}
use Rattle.copy_port.specs.Given.{CanDraw, IsCallRect, IsPoint, Picture, given_copy, given_paint}
use Rattle.copy_port.specs.Port.{Draws}
use Rattle.copy_port.specs.State.{Rest, drawn_on, surface_of}
use Rattle.geom_base.specs.declared.port_answer.PortAnswer.{PortAnswer}
use Rattle.geom_base.specs.Drawn.{Drawn}
use Rattle.geom_base.specs.Step.{Area, Change}
use Rattle.surf_obj.specs.Surface.{Surface}
use Rattle.mem_port.specs.Calls.{HasCuts, IsNew}
use Rattle.mem_port.specs.Memory.{surface_in}
use Rattle.mem_port.specs.Port.{state_of}
use Rattle.mem_port.specs.declared.mem_port.MemPort.{MemPort}
use Rattle.port_stage.specs.Stage.{IsPlain, IsStage}

-- a point of a clip is in the frame that is its bounds
pub reaches : (c : Clip) (frame : Rect) (p : Point) → c.bounds ≡ frame → IsTrue (is_in_some p c.rects) → IsTrue (is_in p frame)
reaches c frame p is t = subst (λ f. IsTrue (is_in p f)) is (clip_in c.bounds c.rects p c.inside t)

-- and its rectangles lie on the surface whose whole that is
pub lies_in : (c : Clip) (size kept : Size) → c.bounds ≡ whole size → kept ≡ size → All (λ r. LiesIn r kept) c.rects
lies_in c size kept is same = rw same (all_in size c.rects (subst (λ f. All (LiesWithin f) c.rects) is c.inside))

-- the coordinates of the calls
pub whole_rect : (size : Size) → HasSides size → IsCallRect (whole size)
whole_rect size h = record {
  across = omega (arith, ints, h.0);
  down = omega (arith, ints, h.2);
  left = (omega (arith, ints), omega (arith, ints));
  top = (omega (arith, ints), omega (arith, ints));
  right = (omega (arith, ints), omega (arith, ints, h.1));
  bottom = (omega (arith, ints), omega (arith, ints, h.3));
}

pub first_point : IsPoint (point_at 0 0)
first_point = ((omega (arith, ints), omega (arith, ints)), (omega (arith, ints), omega (arith, ints)))

-- from where sources are taken
abbrev from_where : Point
from_where = record { x = negsuc 0; y = negsuc 1 }

pub from_point : IsPoint from_where
from_point = ((omega (arith, ints), omega (arith, ints)), (omega (arith, ints), omega (arith, ints)))

-- each call on the stage, in a clip of its screen
module _ (size : Size) (format : Format) (p : MemPort) (c : Clip) (table : List Rgb) (sides : HasSides size) (stage : IsStage size format p)
    (bounds : c.bounds ≡ whole size) (standard : table ≡ standard_colours format) where
  pub can_paint : (mix : ℕ) (face : BrushFace) →
      CanDraw (Paint (record { target = Screen; rect = whole size; origin = point_at 0 0; mix = mix })) (given_paint table face) (state_of p).shown c.rects
  can_paint mix face = record {
    alive = refl;
    held = tt;
    inside = lies_in c size _ bounds stage.screen.size;
    reach = λ q m. reaches c (whole size) q bounds m;
    coordinates = (whole_rect size sides, first_point);
    table = standard ∙ sym stage.screen.table;
    suits = refl;
  }

  pub can_blt : (src : Point) (rop : Rop4) (source mask : Picture) (x : Translation) (face : BrushFace) → IsPoint src → x.from ≡ source.format →
      x.to ≡ format → mask.format ≡ B1 →
      CanDraw (Blt (record { target = Screen; rect = whole size; held = None; src = src; mask = point_at 0 0; origin = point_at 0 0; rop = rop }))
      (record { source = Some source; mask = Some mask; xlate = Some x; table = table; brush = Some face }) (state_of p).shown c.rects
  can_blt src rop source mask x face point from to mono = record {
    alive = refl;
    held = tt;
    inside = lies_in c size _ bounds stage.screen.size;
    reach = λ q m. reaches c (whole size) q bounds m;
    coordinates = (whole_rect size sides, point, first_point, first_point);
    table = standard ∙ sym stage.screen.table;
    suits = ((from, to ∙ sym stage.screen.format), refl, (λ u. refl), (λ u. mono));
  }

  pub can_copy : (src : Point) (source : Picture) (x : Translation) → IsPoint src → x.from ≡ source.format → x.to ≡ format →
      CanDraw (Copy (record { target = Screen; rect = whole size; held = None; src = src }))
      (record { source = Some source; mask = None; xlate = Some x; table = table; brush = None }) (state_of p).shown c.rects
  can_copy src source x point from to = record {
    alive = refl;
    held = tt;
    inside = lies_in c size _ bounds stage.screen.size;
    reach = λ q m. reaches c (whole size) q bounds m;
    coordinates = (whole_rect size sides, point);
    table = standard ∙ sym stage.screen.table;
    suits = ((from, to ∙ sym stage.screen.format), refl);
  }

  pub can_overlap : (src : Point) (x : Translation) → IsPoint src → x.from ≡ format → x.to ≡ format →
      CanDraw (Copy (record { target = Screen; rect = whole size; held = Some Screen; src = src }))
      (given_copy None x table) (state_of p).shown c.rects
  can_overlap src x point from to = record {
    alive = refl;
    held = (refl, refl);
    inside = lies_in c size _ bounds stage.screen.size;
    reach = λ q m. reaches c (whole size) q bounds m;
    coordinates = (whole_rect size sides, point);
    table = standard ∙ sym stage.screen.table;
    suits = ((from ∙ sym stage.screen.format, to ∙ sym stage.screen.format), refl);
  }

  pub can_cross : (src : Point) (x : Translation) → IsPoint src → x.from ≡ format → x.to ≡ format →
      CanDraw (Copy (record { target = Screen; rect = whole size; held = Some (Bitmap 1); src = src }))
      (given_copy None x table) (state_of p).shown c.rects
  can_cross src x point from to = record {
    alive = refl;
    held = (refl, refl);
    inside = lies_in c size _ bounds stage.screen.size;
    reach = λ q m. reaches c (whole size) q bounds m;
    coordinates = (whole_rect size sides, point);
    table = standard ∙ sym stage.screen.table;
    suits = ((from ∙ sym stage.bitmap.format, to ∙ sym stage.screen.format), refl);
  }

-- the stage stays one after a drawing on its screen
pub stays : (size : Size) (format : Format) (a b : MemPort) (new : Change) (area : Area) → IsStage size format a →
    (state_of b).shown ≡ drawn_on Screen new area (state_of a).shown → b.cuts ≡ a.cuts → IsStage size format b
stays size format a b new area h shown cuts = record {
  screen = subst (IsPlain size format) (sym (ap (λ m. surface_of m Screen) shown))
      (record { size = h.screen.size; format = h.screen.format; table = h.screen.table });
  bitmap = subst (IsPlain size format) (sym (ap (λ m. surface_of m (Bitmap 1)) shown)) h.bitmap;
  cuts = cuts ∙ h.cuts;
}

pub drawn_stage : (size : Size) (format : Format) (a b : MemPort) (new : Change) (area : Area) (most : ℕ) (d e : Drawn) (answer : PortAnswer) →
    IsStage size format a → Draws Screen new area most (state_of a) (state_of b) d e answer → IsStage size format b
drawn_stage size format a b new area most d e answer h draws = stays size format a b new draws.more h draws.shown (ap (λ (r : Rest). r.cuts) draws.rest)

-- the stage of a new port
pub new_stage : (size : Size) (format : Format) (a b : MemPort) (first second : Surface) (numbers more : List ℕ) → IsPlain size format first →
    IsPlain size format second → IsNew first second numbers a → HasCuts 3 more a b → IsStage size format b
new_stage size format a b first second numbers more f g n k = record {
  screen = subst (IsPlain size format) (sym (ap surface_in k.screen ∙ n.screen)) f;
  bitmap = subst (IsPlain size format) (sym (ap surface_in k.bitmap ∙ n.bitmap)) g;
  cuts = k.cuts;
}
