-- Inner: in which order a drawing may go, where it reads the surface that it draws on.
use Rattle.std.specs.Prelude.{ℕ, Bool, true, false, ◌+◌, ◌-◌, ◌≡◌, ◌<ℤ◌, ◌≤ℤ◌, ◌⊎◌, Option, Some, None, if◌then◌else◌}
use Rattle.std.specs.Borrow.{Bor}
use Rattle.geom_base.specs.declared.rect.Rect.{Rect}
use Rattle.geom_base.specs.Points.{box_of}
use Rattle.surf_obj.specs.declared.view.LentView.{LentView}
use Rattle.blt_kernel.specs.declared.shift.Shift.{Shift}
use Rattle.blt_kernel.specs.declared.source.SourcePixels.{SourcePixels}

-- the source of a point is no point before it, in the order of rows from the top and of columns from the left, or in the order from the
-- bottom and from the right
abbrev pub IsAhead : Shift → Bool → Type 0
IsAhead shift true = (shift.rect.top <ℤ shift.at.y) ⊎ ((shift.rect.top ≡ shift.at.y) × (shift.rect.left ≤ℤ shift.at.x))
IsAhead shift false = (shift.at.y <ℤ shift.rect.top) ⊎ ((shift.at.y ≡ shift.rect.top) × (shift.at.x ≤ℤ shift.rect.left))

-- the same where no view is lent; a view has no point of the target
abbrev pub KeepsOwnSource : Option (Bor LentView) → Shift → Bool → Type 0
KeepsOwnSource (Some view) shift forward = Unit {0}
KeepsOwnSource None shift forward = IsAhead shift forward

-- an order reads each point of the target before it draws there; any order does where the target is no source
abbrev pub KeepsSource : Option SourcePixels → Bool → Type 0
KeepsSource (Some s) forward = KeepsOwnSource s.lent s.shift forward
KeepsSource None forward = Unit {0}

-- the first columns of a row in such an order
abbrev pub columns_done : Bool → ℕ → ℕ → ℕ → ℕ → Rect
columns_done forward left right y done = if forward then box_of left y (left + done) (y + 1) else box_of (right - done) y right (y + 1)

-- the first rows of a box
abbrev pub rows_done : Bool → ℕ → ℕ → ℕ → ℕ → ℕ → Rect
rows_done forward left top right bottom done = if forward then box_of left top right (top + done) else box_of left (bottom - done) right bottom
