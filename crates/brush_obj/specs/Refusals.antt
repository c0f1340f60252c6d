-- Why there is no brush of a pattern.
use Rattle.std.specs.Prelude.{◌≡◌, ◌<◌, ◌≤◌, ◌⊎◌}
use Rattle.geom_base.specs.declared.size.Size.{Size}
use Rattle.brush_obj.specs.declared.refusal.BrushRefusal.{BrushRefusal}
use Rattle.brush_obj.specs.declared.refusal.BrushRefusal.TheVariants.{TooLarge, NoMemory}
use Rattle.brush_obj.specs.Image.{most_pattern_side}

-- a side of this very size is too long; or none is, and memory was wanting
abbrev pub Refuses : Size → BrushRefusal → Type 0
Refuses size (TooLarge named) = ((most_pattern_side < size.w) ⊎ (most_pattern_side < size.h)) × (named ≡ size)
Refuses size NoMemory = (size.w ≤ most_pattern_side) × (size.h ≤ most_pattern_side)
