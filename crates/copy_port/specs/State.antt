-- What a driver shows, and what it counts and keeps beside that.
use Rattle.std.specs.Prelude.{◌≡◌, ℕ, ◌+◌, ◌-◌, ◌*◌, ◌%◌, ◌^◌, ◌≤◌, min, Bool, true, false, IsTrue, is_some, if◌then◌else◌, nat_eq, List, [], length, replicate}
use Rattle.std.specs.Prelude.{Option, Some, option_map, unwrap_or}
use Rattle.geom_base.specs.declared.size.Size.{Size}
use Rattle.geom_base.specs.declared.target.Target.{Target}
use Rattle.geom_base.specs.declared.target.Target.TheVariants.{Screen, Bitmap}
use Rattle.geom_base.specs.Points.{HasSides}
use Rattle.geom_base.specs.Step.{Area, Change}
use Rattle.pix_format.specs.declared.format.Format.{Format}
use Rattle.pix_format.specs.declared.format.Format.TheVariants.{B32}
use Rattle.pix_format.specs.declared.rgb.Rgb.{Rgb}
use Rattle.pix_format.specs.Value.{colours_of}
use Rattle.surf_obj.specs.Surface.{Surface, changed}
use Rattle.copy_port.specs.declared.classes.Class.{Class}
use Rattle.copy_port.specs.declared.hooks.Hook.{Hook}
use Rattle.copy_port.specs.declared.words.Kind.{Kind}
use Rattle.copy_port.specs.declared.words.Limit.{Limit}
use Rattle.copy_port.specs.declared.words.Mode.{Mode}
use Rattle.copy_port.specs.declared.words.TargetInfo.{TargetInfo}

-- what a driver shows, by target
abbrev pub Shown : Type 0
Shown = Target → Option Surface

abbrev pub same_target : Target → Target → Bool
same_target Screen Screen = true
same_target Screen (Bitmap n) = false
same_target (Bitmap m) Screen = false
same_target (Bitmap m) (Bitmap n) = nat_eq m n

-- one target drawn on, the others as before
abbrev pub drawn_on : Target → Change → Area → Shown → Shown
drawn_on target new area shown q = if same_target q target then option_map (changed new area) (shown q) else shown q

abbrev pub IsLive : Shown → Target → Type 0
IsLive shown target = IsTrue (is_some (shown target))

-- the surface of a live target
abbrev pub surface_of : Shown → Target → Surface
surface_of shown target = unwrap_or (shown target) (record { size = record { w = 0; h = 0 }; format = B32; table = []; values = [] })

abbrev pub info_of : Option Surface → Option TargetInfo
info_of = option_map (λ (s : Surface). record { size = s.size; format = s.format })

-- a surface has sides, a table of its format, and a value for each pixel
pub record IsSurface (s : Surface) : Type 0 where
  pub sides : HasSides s.size
  pub colours : length s.table ≡ colours_of s.format
  pub count : length s.values ≡ s.size.w * s.size.h

-- a surface whose values are all 0
abbrev pub blank : Size → Format → List Rgb → Surface
blank size format table = record { size = size; format = format; table = table; values = replicate (size.w * size.h) 0 }

-- what no call of a port or a realizer changes: what a driver is and does, the counts of its calls, in how many parts it may draw a rectangle,
-- and what else it must still know after a managed call on itself
pub record Rest : Type 0 where
  pub kind : Kind
  pub enabled : Bool
  pub hooks : Hook → Bool
  pub declines : Class → Bool
  pub mode_limit : Mode → Option Limit
  pub offered : ℕ
  pub offered_bitmaps : ℕ
  pub declined : ℕ
  pub asked : ℕ
  pub made : ℕ
  pub cuts : ℕ
  pub extra : List ℕ

-- what is shown, which is surfaces; how many calls of the device failed; how many rectangles were written; and the rest
pub record PortState : Type 0 where
  pub shown : Shown
  pub faults : ℕ
  pub written : ℕ
  pub rest : Rest
  pub sound : (target : Target) → IsLive shown target → IsSurface (surface_of shown target)

-- a count of 64 bits rose, or stands at its end
abbrev pub Rose : ℕ → ℕ → Type 0
Rose before now = min (before + 1) (2 ^ 64 - 1) ≤ now

-- the next value of a count that goes on from 0 at its end
abbrev pub next_count : ℕ → ℕ
next_count n = (n + 1) % (2 ^ 64)
