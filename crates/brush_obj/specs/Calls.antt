-- One drawing call on one surface: which points it reaches, and the new value of each, from the values before the call alone.
use Rattle.std.specs.Prelude.{◌≡◌, ◌<◌, ◌^◌, ◌+ℤ◌, FitsSigned, IfSome, IsTrue, ℕ, pos, ◌-ℤ◌, List, Option, None, Some, is_some, Bool, true, false, if◌then◌else◌, ◌==◌, option_map}
use Rattle.std.specs.Int.{w32}
use Rattle.geom_base.specs.declared.point.Point.{Point}
use Rattle.geom_base.specs.declared.rect.Rect.{Rect}
use Rattle.geom_base.specs.declared.size.Size.{Size}
use Rattle.geom_base.specs.declared.target.Target.{Target}
use Rattle.geom_base.specs.Points.{RectMoves, is_in, moved, moved_back, moved_rect, whole}
use Rattle.pix_format.specs.declared.format.Format.{Format}
use Rattle.pix_format.specs.Value.{bits_of}
use Rattle.pix_format.specs.Xlate.{Translation, translated}
use Rattle.rop_mix.specs.Mixes.{mix_of}
use Rattle.rop_mix.specs.Needs.{source_needed, pattern_needed, mask_needed}
use Rattle.rop_mix.specs.Rop.{rop4_of}
use Rattle.geom_base.specs.Step.{Area, Change, value_after}
use Rattle.geom_base.specs.Grid.{value_of_point}
use Rattle.brush_obj.specs.declared.blt_call.BltCall.{BltCall}
use Rattle.brush_obj.specs.declared.copy_call.CopyCall.{CopyCall}
use Rattle.brush_obj.specs.declared.draw_call.DrawCall.{DrawCall}
use Rattle.brush_obj.specs.declared.draw_call.DrawCall.TheVariants.{Blt, Copy, Paint}
use Rattle.brush_obj.specs.declared.paint_call.PaintCall.{PaintCall}
use Rattle.brush_obj.specs.Wrapping.{from_origin}

-- What a call draws with, as functions of points; each counts its points in its own way, and the call says how they belong to the target's.
pub record Operands : Type 0 where
  -- the value of the source at one of its points as the target keeps it, or none where the source has no such point
  pub source : Point → Option ℕ
  -- the source's own value there is the one that is left out
  pub clear : Point → Bool
  -- the bit of the mask at one of its points, or none
  pub mask : Point → Option ℕ
  -- the value of the pattern at a point counted from its origin
  pub pattern : Point → ℕ
  -- how the target keeps its pixels
  pub format : Format

-- values of a surface of a size, each at its point, and none elsewhere
abbrev pub shown : Size → List ℕ → Point → Option ℕ
shown size values p = if is_in p (whole size) then Some (value_of_point size values p) else None

-- no values at all
abbrev pub not_there : Point → Option ℕ
not_there p = None

-- a source in its own values, as the target keeps them
abbrev pub as_kept : Translation → (Point → Option ℕ) → Point → Option ℕ
as_kept xlate source p = option_map (translated xlate) (source p)

-- the operands of a blt, of a copy and of a paint
abbrev pub blt_operands : (Point → Option ℕ) → (Point → Option ℕ) → Translation → (Point → ℕ) → Format → Operands
blt_operands source mask xlate pattern format = record { source = as_kept xlate source; clear = λ p. false; mask = mask; pattern = pattern; format = format }

abbrev pub copy_operands : (Point → Option ℕ) → Translation → Format → Operands
copy_operands source xlate format = blt_operands source not_there xlate (λ p. 0) format

abbrev pub paint_operands : (Point → ℕ) → Format → Operands
paint_operands pattern format = record { source = not_there; clear = λ p. false; mask = not_there; pattern = pattern; format = format }

-- the point of a source or mask that belongs to a point of the target, where `at` belongs to the rectangle's corner
abbrev pub point_across : Rect → Point → Point → Point
point_across rect at p = record { x = (p.x -ℤ rect.left) +ℤ at.x; y = (p.y -ℤ rect.top) +ℤ at.y }

-- an operand as it counts: 0 where it isn't needed
abbrev pub operand : Bool → Option ℕ → Option ℕ
operand needed value = if needed then value else Some 0

-- the raster operation on a pixel, or none where a source value or a mask bit is none
abbrev pub combined : ℕ → ℕ → Option ℕ → Option ℕ → ℕ → ℕ → Option ℕ
combined code bits None m pattern d = None
combined code bits (Some s) None pattern d = None
combined code bits (Some s) (Some m) pattern d = Some (rop4_of code (m == 1) pattern s d bits)

-- a blt gives a point the raster operation of mask, pattern, source and old value; without a source or mask point that it needs, the
-- point is untouched
abbrev pub new_of_blt : BltCall → Operands → Change
new_of_blt c o p d = combined c.rop.code (bits_of o.format)
    (operand (source_needed c.rop.code) (o.source (point_across c.rect c.src p)))
    (operand (mask_needed c.rop.code) (o.mask (point_across c.rect c.mask p)))
    (if pattern_needed c.rop.code then o.pattern (from_origin c.origin p) else 0) d

-- the raster operation that takes the source as it is
abbrev pub source_alone : ℕ
source_alone = 0xCCCC

-- a copy is the blt of the source alone, whatever the other operands
abbrev pub blt_of : CopyCall → BltCall
blt_of c = record {
  target = c.target;
  rect = c.rect;
  held = c.held;
  src = c.src;
  mask = record { x = pos 0; y = pos 0 };
  origin = record { x = pos 0; y = pos 0 };
  rop = record { code = source_alone };
}

abbrev pub new_of_copy : CopyCall → Operands → Change
new_of_copy c o = new_of_blt (blt_of c) (record o { mask = not_there; pattern = λ p. 0 })

-- a paint gives a point the mix of pattern and old value
abbrev pub new_of_paint : PaintCall → Operands → Change
new_of_paint c o p d = Some (mix_of c.mix (o.pattern (from_origin c.origin p)) d (bits_of o.format))

-- the points that a call reaches: those of its rectangle
abbrev pub reach_of_blt : BltCall → Area
reach_of_blt c p = is_in p c.rect

abbrev pub reach_of_copy : CopyCall → Area
reach_of_copy c p = is_in p c.rect

abbrev pub reach_of_paint : PaintCall → Area
reach_of_paint c p = is_in p c.rect

-- the new value of any call
abbrev pub new_of_call : DrawCall → Operands → Change
new_of_call (Blt c) o = new_of_blt c o
new_of_call (Copy c) o = new_of_copy c o
new_of_call (Paint c) o = new_of_paint c o

-- the target of any call, and the target that it holds as its source
abbrev pub target_of : DrawCall → Target
target_of (Blt c) = c.target
target_of (Copy c) = c.target
target_of (Paint c) = c.target

abbrev pub held_of : DrawCall → Option Target
held_of (Blt c) = c.held
held_of (Copy c) = c.held
held_of (Paint c) = None

-- the rectangle of any call, and the points that it reaches
abbrev pub rect_of : DrawCall → Rect
rect_of (Blt c) = c.rect
rect_of (Copy c) = c.rect
rect_of (Paint c) = c.rect

abbrev pub reach_of_call : DrawCall → Area
reach_of_call c p = is_in p (rect_of c)

-- a call holds no source, or its own target
abbrev pub HoldsOwn : Option Target → Target → Type 0
HoldsOwn held target = IfSome held (λ t. t ≡ target)

-- a point whose coordinates stay in range when it is moved, and when it is moved back
pub record PointMoves (p by : Point) : Type 0 where
  pub across : FitsSigned w32 (p.x +ℤ by.x)
  pub down : FitsSigned w32 (p.y +ℤ by.y)

pub record PointMovesBack (p by : Point) : Type 0 where
  pub across : FitsSigned w32 (p.x -ℤ by.x)
  pub down : FitsSigned w32 (p.y -ℤ by.y)

abbrev pub CallMoves : DrawCall → Point → Type 0
CallMoves (Blt c) by = RectMoves by c.rect × PointMoves c.origin by
CallMoves (Copy c) by = RectMoves by c.rect
CallMoves (Paint c) by = RectMoves by c.rect × PointMoves c.origin by

-- any call with its target's points moved; those of source and mask stay
abbrev pub moved_blt : BltCall → Point → BltCall
moved_blt c by = record c { rect = moved_rect c.rect by; origin = moved c.origin by }

abbrev pub moved_copy : CopyCall → Point → CopyCall
moved_copy c by = record c { rect = moved_rect c.rect by }

abbrev pub moved_paint : PaintCall → Point → PaintCall
moved_paint c by = record c { rect = moved_rect c.rect by; origin = moved c.origin by }

abbrev pub moved_call : DrawCall → Point → DrawCall
moved_call (Blt c) by = Blt (moved_blt c by)
moved_call (Copy c) by = Copy (moved_copy c by)
moved_call (Paint c) by = Paint (moved_paint c by)

-- a moved call gives each moved point what the call gave the point
abbrev pub CallsMove : Type 0
CallsMove = (c : DrawCall) (o : Operands) (by p : Point) (d : ℕ) → new_of_call (moved_call c by) o (moved p by) d ≡ new_of_call c o p d

-- whether any call reads its source, and the source's point for its rectangle's corner
abbrev pub reads_source : DrawCall → Bool
reads_source (Blt c) = source_needed c.rop.code
reads_source (Copy c) = true
reads_source (Paint c) = false

abbrev pub src_of : DrawCall → Point
src_of (Blt c) = c.src
src_of (Copy c) = c.src
src_of (Paint c) = record { x = pos 0; y = pos 0 }

-- the source's point for a point of the target
abbrev pub source_point : DrawCall → Point → Point
source_point c p = point_across (rect_of c) (src_of c) p

-- any call whose source is lent, and begins at a point of what was its source
abbrev pub lent_call : DrawCall → Point → DrawCall
lent_call (Blt c) at = Blt (record c { held = None; src = moved_back at c.src })
lent_call (Copy c) at = Copy (record c { held = None; src = moved_back at c.src })
lent_call (Paint c) at = Paint c

-- operands that are the same, but for sources that begin at points of their own
pub record SameButSource (call : DrawCall) (at : Point) (o lent : Operands) (p : Point) : Type 0 where
  pub source : IsTrue (reads_source call) → lent.source (moved_back at (source_point call p)) ≡ o.source (source_point call p)
  pub mask : lent.mask ≡ o.mask
  pub pattern : lent.pattern ≡ o.pattern
  pub format : lent.format ≡ o.format

-- a call whose source is lent gives a point what it gave it
abbrev pub CallsLend : Type 0
CallsLend = (c : DrawCall) (at : Point) (o lent : Operands) (p : Point) (d : ℕ) → SameButSource c at o lent p →
    new_of_call (lent_call c at) lent p d ≡ new_of_call c o p d

-- where a call reads its source, that has the point which belongs to a point
abbrev pub FindsSource : DrawCall → Operands → Point → Type 0
FindsSource c o p = IsTrue (reads_source c) → IsTrue (is_some (o.source (source_point c p)))

-- what a call gives a point whose source it finds is the same whatever the point had
abbrev pub IgnoresTarget : DrawCall → Type 0
IgnoresTarget c = (o : Operands) (p : Point) (d e : ℕ) → FindsSource c o p → value_after (new_of_call c o) p d ≡ value_after (new_of_call c o) p e

-- a call gives each point that has a source the source's value
abbrev pub CopiesSource : DrawCall → Type 0
CopiesSource c = (o : Operands) (p : Point) (d v : ℕ) → o.source (source_point c p) ≡ Some v → v < 2 ^ bits_of o.format → new_of_call c o p d ≡ Some v
