-- The slots of a brush that is handed to a hook.
use Rattle.std.specs.Prelude.{ℕ, IfSome}
use Rattle.brush_obj.specs.Brush.{IsRealised}
use Rattle.brush_obj.specs.Slots.{Brush, kept}
use Rattle.surf_obj.specs.Surface.{Surface}

-- whatever slot of a brush is realised holds the values that the brush has on a screen
abbrev pub AreRealised : Brush → Surface → Type 0
AreRealised brush screen = (owner : ℕ) → IfSome (kept brush owner) (IsRealised brush.face screen.format screen.table)
