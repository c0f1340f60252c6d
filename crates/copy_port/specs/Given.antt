-- A drawing call with what it is handed, on what a driver shows: one record each for every call.
use Rattle.std.specs.Prelude.{◌≡◌, ℕ, ℤ, pos, negsuc, ◌≤ℤ◌, ◌⊎◌, Bool, false, IsTrue, is_some, List, Option, None, Some, option_map}
use Rattle.std.specs.Borrow.{Bor}
use Rattle.std.specs.List.{All}
use Rattle.std.specs.Option.{option_map_or}
use Rattle.geom_base.specs.declared.point.Point.{Point}
use Rattle.geom_base.specs.declared.rect.Rect.{Rect}
use Rattle.geom_base.specs.declared.target.Target.{Target}
use Rattle.geom_base.specs.Points.{LiesIn, is_in_some}
use Rattle.geom_base.specs.Step.{Change}
use Rattle.pix_format.specs.declared.format.Format.{Format}
use Rattle.pix_format.specs.declared.format.Format.TheVariants.{B1}
use Rattle.pix_format.specs.declared.rgb.Rgb.{Rgb}
use Rattle.pix_format.specs.Xlate.{Translation}
use Rattle.rop_mix.specs.Needs.{mask_needed, source_needed}
use Rattle.surf_obj.specs.Surface.{Surface}
use Rattle.surf_obj.specs.View.{view_format, view_size, view_values}
use Rattle.surf_obj.specs.declared.view.LentView.{LentView}
use Rattle.brush_obj.specs.Brush.{is_solid, tiled}
use Rattle.brush_obj.specs.Calls.{Operands, as_kept, held_of, new_of_call, not_there, reach_of_call, rect_of, shown, target_of}
use Rattle.brush_obj.specs.declared.draw_call.DrawCall.{DrawCall}
use Rattle.brush_obj.specs.declared.draw_call.DrawCall.TheVariants.{Blt, Copy, Paint}
use Rattle.brush_obj.specs.declared.face.BrushFace.{BrushFace}
use Rattle.copy_port.specs.Classes.{class_of, hook_of}
use Rattle.copy_port.specs.State.{IsLive, Shown, surface_of}
use Rattle.copy_port.specs.declared.classes.Class.{Class}
use Rattle.copy_port.specs.declared.hooks.Hook.{Hook}

-- a picture: how its values are kept, and the value at each of its points
pub record Picture : Type 0 where
  pub format : Format
  pub at : Point → Option ℕ

abbrev pub picture_of : Surface → Picture
picture_of s = record { format = s.format; at = shown s.size s.values }

-- a view that is lent as a picture
abbrev pub picture_of_view : Bor LentView → Picture
picture_of_view view = record { format = view_format view.now; at = shown (view_size view.now) (view_values view.now) }

-- what a call is handed: its source and its mask where they are lent, the translation, the target's table, and a brush
pub record Given : Type 0 where
  pub source : Option Picture
  pub mask : Option Picture
  pub xlate : Option Translation
  pub table : List Rgb
  pub brush : Option BrushFace

-- what a blt, a copy and a paint are handed
abbrev pub given_blt : Option (Bor LentView) → Option (Bor LentView) → Translation → List Rgb → BrushFace → Given
given_blt source mask xlate table face = record {
  source = option_map picture_of_view source;
  mask = option_map picture_of_view mask;
  xlate = Some xlate;
  table = table;
  brush = Some face;
}

abbrev pub given_copy : Option (Bor LentView) → Translation → List Rgb → Given
given_copy source xlate table = record { source = option_map picture_of_view source; mask = None; xlate = Some xlate; table = table; brush = None }

abbrev pub given_paint : List Rgb → BrushFace → Given
given_paint table face = record { source = None; mask = None; xlate = None; table = table; brush = Some face }

-- a target that is held
abbrev pub held_in : Option Target → Shown → Option Picture
held_in None targets = None
held_in (Some t) targets = option_map picture_of (targets t)

-- a source that is lent comes before one that is held
abbrev pub first_of : Option Picture → Option Picture → Option Picture
first_of (Some s) held = Some s
first_of None held = held

abbrev pub points_of : Option Picture → Point → Option ℕ
points_of (Some s) = s.at
points_of None = not_there

-- without a translation there is no source, and without a brush any pattern will do, since no call reads it then
abbrev pub translated_by : Option Translation → (Point → Option ℕ) → Point → Option ℕ
translated_by (Some xlate) source = as_kept xlate source
translated_by None source = not_there

abbrev pub pattern_of : Option BrushFace → Format → List Rgb → Point → ℕ
pattern_of (Some face) format table = tiled face format table
pattern_of None format table = λ q. 0

-- the operands of a call on a target of a format, before which a picture is held
abbrev pub operands_given : Given → Option Picture → Format → Operands
operands_given g held format = record {
  source = translated_by g.xlate (points_of (first_of g.source held));
  clear = λ p. false;
  mask = points_of g.mask;
  pattern = pattern_of g.brush format g.table;
  format = format;
}

-- What is asked of whoever draws: on a target, in a clip, new values; by which hook, in which class.
pub record Asked : Type 0 where
  pub target : Target
  pub new : Change
  pub clip : List Rect
  pub hook : Hook
  pub class : Class

abbrev pub asked_of : DrawCall → Given → Shown → List Rect → Asked
asked_of call g targets rects = record {
  target = target_of call;
  new = new_of_call call (operands_given g (held_in (held_of call) targets) (surface_of targets (target_of call)).format);
  clip = rects;
  hook = hook_of call;
  class = class_of call (option_map_or is_solid g.brush false);
}

-- it is there, and is so
abbrev pub IsThereAnd : {A : Type 0} → Option A → (A → Type 0) → Type 0
IsThereAnd (Some a) P = P a
IsThereAnd None P = ⊥

-- a translation from a source, where there is one, to a format
abbrev pub LeadsFrom : Option Picture → Translation → Type 0
LeadsFrom (Some s) xlate = xlate.from ≡ s.format
LeadsFrom None xlate = Unit {0}

abbrev pub Translates : Given → Option Picture → Format → Type 0
Translates g held format = IsThereAnd g.xlate (λ xlate. LeadsFrom (first_of g.source held) xlate × (xlate.to ≡ format))

abbrev pub HasSource : Given → Option Picture → Type 0
HasSource g held = IsTrue (is_some (first_of g.source held))

abbrev pub HasMask : Given → Type 0
HasMask g = IsThereAnd g.mask (λ mask. mask.format ≡ B1)

-- what a call must be handed for a target of a format
abbrev pub Suits : DrawCall → Given → Option Picture → Format → Type 0
Suits (Blt c) g held format = Translates g held format × IsTrue (is_some g.brush)
    × (IsTrue (source_needed c.rop.code) → HasSource g held) × (IsTrue (mask_needed c.rop.code) → HasMask g)
Suits (Copy c) g held format = Translates g held format × HasSource g held
Suits (Paint c) g held format = IsTrue (is_some g.brush)

-- the least and the greatest coordinate of a call
abbrev pub IsCoordinate : ℤ → Type 0
IsCoordinate z = (negsuc 16777215 ≤ℤ z) × (z ≤ℤ pos 16777215)

abbrev pub IsPoint : Point → Type 0
IsPoint p = IsCoordinate p.x × IsCoordinate p.y

-- a rectangle of a call: its edges are in order, and are coordinates
pub record IsCallRect (r : Rect) : Type 0 where
  pub across : r.left ≤ℤ r.right
  pub down : r.top ≤ℤ r.bottom
  pub left : IsCoordinate r.left
  pub top : IsCoordinate r.top
  pub right : IsCoordinate r.right
  pub bottom : IsCoordinate r.bottom

abbrev pub HasCoordinates : DrawCall → Type 0
HasCoordinates (Blt c) = IsCallRect c.rect × IsPoint c.src × IsPoint c.mask × IsPoint c.origin
HasCoordinates (Copy c) = IsCallRect c.rect × IsPoint c.src
HasCoordinates (Paint c) = IsCallRect c.rect × IsPoint c.origin

-- a target that is held is live, and then no source is lent
abbrev pub HoldsLive : Option Target → Option Picture → Shown → Type 0
HoldsLive None source targets = Unit {0}
HoldsLive (Some t) source targets = IsLive targets t × (source ≡ None)

-- the conditions of every drawing call
pub record CanDraw (call : DrawCall) (g : Given) (targets : Shown) (clip : List Rect) : Type 0 where
  pub alive : IsLive targets (target_of call)
  pub held : HoldsLive (held_of call) g.source targets
  pub inside : All (λ r. LiesIn r (surface_of targets (target_of call)).size) clip
  pub reach : (p : Point) → IsTrue (is_in_some p clip) → IsTrue (reach_of_call call p)
  pub coordinates : HasCoordinates call
  pub table : g.table ≡ (surface_of targets (target_of call)).table
  pub suits : Suits call g (held_in (held_of call) targets) (surface_of targets (target_of call)).format
