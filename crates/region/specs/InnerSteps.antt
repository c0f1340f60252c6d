-- Inside the crate: what loops over steps keep.
use Rattle.std.specs.Prelude.{ℤ, ◌<ℤ◌, ◌≤ℤ◌, List, [], ◌∷◌, FitsSigned}
use Rattle.std.specs.Int.{w32}
use Rattle.region.specs.Steps.{Step}
use Rattle.region.specs.Steps.{BeginsAfter}

-- the steps begin at a place or after it
abbrev pub BeginsFrom : {V : Type 0} → ℤ → List (Step V) → Type 0
BeginsFrom y [] = Unit {0}
BeginsFrom y (s ∷ steps) = y ≤ℤ s.from

-- all steps are before a place
abbrev pub EndsBefore : {V : Type 0} → ℤ → List (Step V) → Type 0
EndsBefore y [] = Unit {0}
EndsBefore y (s ∷ steps) = (s.from <ℤ y) × EndsBefore y steps

-- the steps are in order
abbrev pub IsOrdered : {V : Type 0} → List (Step V) → Type 0
IsOrdered [] = Unit {0}
IsOrdered (s ∷ steps) = BeginsAfter s.from steps × IsOrdered steps

-- each place is a number that code can hold
abbrev pub AllFit : {V : Type 0} → List (Step V) → Type 0
AllFit [] = Unit {0}
AllFit (s ∷ steps) = FitsSigned w32 s.from × AllFit steps
