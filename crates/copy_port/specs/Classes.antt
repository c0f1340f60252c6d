-- Which hook a call has, and what it asks of a device.
use Rattle.std.specs.Prelude.{ℕ, Bool, Option, Some, None, if◌then◌else◌, ◌||◌, ◌==◌, not}
use Rattle.std.specs.Int.RustNames.{bit_and}
use Rattle.geom_base.specs.declared.target.Target.{Target}
use Rattle.rop_mix.specs.Needs.{source_needed, pattern_needed, mask_needed}
use Rattle.brush_obj.specs.declared.blt_call.BltCall.{BltCall}
use Rattle.brush_obj.specs.declared.draw_call.DrawCall.{DrawCall}
use Rattle.brush_obj.specs.declared.draw_call.DrawCall.TheVariants as calls
use Rattle.copy_port.specs.declared.classes.Class.{Class}
use Rattle.copy_port.specs.declared.classes.Class.TheVariants.{Mask, Fill, Pattern, Other, Shift, Copy, Stretch, Gradient, Line, Text}
use Rattle.copy_port.specs.declared.classes.Classes.{Classes}
use Rattle.copy_port.specs.declared.hooks.Hook.{Hook}
use Rattle.copy_port.specs.declared.hooks.Hook.TheVariants.{BitBlt, CopyBits, Paint, StretchBlt, TransparentBlt, GradientFill, LineTo, StrokePath, TextOut}
use Rattle.copy_port.specs.declared.hooks.Hooks.{Hooks}

-- the hook of a call
abbrev pub hook_of : DrawCall → Hook
hook_of (calls.Blt c) = BitBlt
hook_of (calls.Copy c) = CopyBits
hook_of (calls.Paint c) = Paint

-- the class of what is drawn without a source, by whether it is of one colour, and of what is drawn from a source alone, by where it is
abbrev pub class_of_fill : Bool → Class
class_of_fill solid = if solid then Fill else Pattern

abbrev pub class_of_source : Option Target → Class
class_of_source (Some t) = Shift
class_of_source None = Copy

-- the class of a call: the first that fits
abbrev pub class_of_blt : BltCall → Bool → Class
class_of_blt c solid =
    if mask_needed c.rop.code then Mask else
    if not (source_needed c.rop.code) then class_of_fill (not (pattern_needed c.rop.code) || solid) else
    if pattern_needed c.rop.code then Other else
    class_of_source c.held

abbrev pub class_of : DrawCall → Bool → Class
class_of (calls.Blt c) solid = class_of_blt c solid
class_of (calls.Copy c) solid = class_of_source c.held
class_of (calls.Paint c) solid = class_of_fill solid

-- the bit of a hook and of a class in a set of them
abbrev pub bit_of_hook : Hook → ℕ
bit_of_hook BitBlt = 1
bit_of_hook CopyBits = 2
bit_of_hook Paint = 4
bit_of_hook StretchBlt = 8
bit_of_hook TransparentBlt = 16
bit_of_hook GradientFill = 32
bit_of_hook LineTo = 64
bit_of_hook StrokePath = 128
bit_of_hook TextOut = 256

abbrev pub bit_of_class : Class → ℕ
bit_of_class Mask = 1
bit_of_class Fill = 2
bit_of_class Pattern = 4
bit_of_class Other = 8
bit_of_class Shift = 16
bit_of_class Copy = 32
bit_of_class Stretch = 64
bit_of_class Gradient = 128
bit_of_class Line = 256
bit_of_class Text = 512

-- a set has them
abbrev pub has_hook : Hooks → Hook → Bool
has_hook hooks hook = bit_and hooks.0 (bit_of_hook hook) == bit_of_hook hook

abbrev pub has_class : Classes → Class → Bool
has_class classes class = bit_and classes.0 (bit_of_class class) == bit_of_class class
