-- What kernels are handed, as the operands of a call.
use Rattle.std.specs.Prelude.{◌≡◌, ℕ, Option, Some, None}
use Rattle.std.specs.Borrow.{Bor}
use Rattle.geom_base.specs.declared.point.Point.{Point}
use Rattle.geom_base.specs.declared.target.Target.{Target}
use Rattle.pix_format.specs.declared.format.Format.{Format}
use Rattle.pix_format.specs.Xlate.{Translation}
use Rattle.surf_obj.specs.View.{view_size, view_format, view_values}
use Rattle.surf_obj.specs.declared.view.LentView.{LentView}
use Rattle.brush_obj.specs.Calls.{not_there, shown}

-- the values of a view
abbrev pub viewed : Bor LentView → Point → Option ℕ
viewed view = shown (view_size view.now) (view_values view.now)

-- the source of a call: the view that is lent; else the target as it was, where the call holds it; else none
abbrev pub source_of : Option (Bor LentView) → Option Target → (Point → Option ℕ) → Point → Option ℕ
source_of (Some view) held target = viewed view
source_of None (Some t) target = target
source_of None None target = not_there

-- the mask of a call: the view that is lent, or none
abbrev pub mask_of : Option (Bor LentView) → Point → Option ℕ
mask_of (Some view) = viewed view
mask_of None = not_there

-- a translation from that source to a target of this format
abbrev pub TranslatesFrom : Option (Bor LentView) → Option Target → Format → Translation → Type 0
TranslatesFrom (Some view) held format xlate = xlate.from ≡ view_format view.now
TranslatesFrom None (Some t) format xlate = xlate.from ≡ format
TranslatesFrom None None format xlate = Unit {0}
