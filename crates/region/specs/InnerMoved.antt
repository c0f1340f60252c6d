-- Inside the crate: bands moved.
use Rattle.std.specs.Prelude.{◌+ℤ◌, ℤ, map, List}
use Rattle.geom_base.specs.declared.point.Point.{Point}
use Rattle.region.specs.Steps.{Step}
use Rattle.region.specs.Columns.{Columns}
use Rattle.region.specs.Band.{Bands}

-- steps at other places, with other values
abbrev pub moved_steps : {V : Type 0} → (V → V) → ℤ → List (Step V) → List (Step V)
moved_steps value by steps = map (λ s. record { from = s.from +ℤ by; value = value s.value }) steps

-- columns moved
abbrev pub moved_columns : ℤ → Columns → Columns
moved_columns by columns = moved_steps (λ b. b) by columns

-- bands moved, with their columns
abbrev pub moved_bands : Point → Bands → Bands
moved_bands by bands = moved_steps (moved_columns by.x) by.y bands
