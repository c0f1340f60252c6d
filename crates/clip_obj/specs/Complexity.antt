-- How much a clip leaves of its bounds.
use Rattle.std.specs.Prelude.{◌≡◌, length}
use Rattle.geom_base.specs.declared.point.Point.{Point}
use Rattle.geom_base.specs.Points.{is_in, is_in_some}
use Rattle.clip_obj.specs.Clip.{Clip}
use Rattle.clip_obj.specs.declared.complexity.Complexity.{Complexity}
use Rattle.clip_obj.specs.declared.complexity.Complexity.TheVariants.{Trivial, Rect, Complex}

-- the clip has all points of its bounds
abbrev pub IsWhole : Clip → Type 0
IsWhole c = (p : Point) → is_in_some p c.rects ≡ is_in p c.bounds

-- all of its bounds, or else one rectangle, or else anything
abbrev pub IsComplexity : Clip → Complexity → Type 0
IsComplexity c Trivial = IsWhole c
IsComplexity c Rect = (¬ IsWhole c) × (length c.rects ≡ 1)
IsComplexity c Complex = (¬ IsWhole c) × (¬ (length c.rects ≡ 1))
