-- Inside the crate: runs of places with a value, put one after another as steps.
use Rattle.std.specs.Prelude.{◌≡◌, ℤ, ◌+ℤ◌, pos, List, [], ◌∷◌, ◌++◌, Bool, false, ◌&&◌, ◌||◌, int_lt, int_le}
use Rattle.region.specs.Steps.{Step}
use Rattle.region.specs.Steps.{value_at, final_value, AllValid, IsReduced}
use Rattle.region.specs.InnerSteps.{EndsBefore, IsOrdered, AllFit}

-- the columns of each step
abbrev pub seen : {V : Type 0} → (V → ℤ → Bool) → List (Step V) → List (Step (ℤ → Bool))
seen holds [] = []
seen holds (s ∷ steps) = record { from = s.from; value = holds s.value } ∷ seen holds steps

-- a column is one of these
abbrev pub sees : (ℤ → Bool) → ℤ → Bool
sees columns x = columns x

-- no column
abbrev pub nowhere : ℤ → Bool
nowhere x = false

-- in order, and each changes the columns
pub record AreReduced {V : Type 0} (holds : V → ℤ → Bool) (valid : V → Type 0) (steps : List (Step V)) : Type 0 where
  pub reduced : IsReduced sees nowhere (seen holds steps)
  pub ordered : IsOrdered steps
  pub values : AllValid valid steps
  pub fits : AllFit steps

-- where the last run ends at a place, all of them are a set
pub record AreRuns {V : Type 0} (holds : V → ℤ → Bool) (valid : V → Type 0) (end : ℤ) (set : ℤ → ℤ → Bool) (steps : List (Step V)) : Type 0 where
  pub points : (x y : ℤ) → value_at nowhere (seen holds steps ++ record { from = end; value = nowhere } ∷ []) y x ≡ set y x
  pub steps_reduced : AreReduced holds valid steps
  pub ends : EndsBefore end steps

-- runs with the step that ends the last one, at a place or before it
pub record AreEnded {V : Type 0} (holds : V → ℤ → Bool) (valid : V → Type 0) (end : ℤ) (set : ℤ → ℤ → Bool) (steps : List (Step V)) : Type 0 where
  pub points : (x y : ℤ) → value_at nowhere (seen holds steps) y x ≡ set y x
  pub steps_reduced : AreReduced holds valid steps
  pub ends : EndsBefore (end +ℤ pos 1) steps
  pub final : final_value nowhere (seen holds steps) ≡ nowhere

-- a set with a run more
abbrev pub with_run : (ℤ → ℤ → Bool) → ℤ → ℤ → (ℤ → Bool) → ℤ → ℤ → Bool
with_run set from to columns y x = set y x || ((int_le from y && int_lt y to) && columns x)
