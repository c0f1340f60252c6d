-- Inside the crate: columns as code holds them.
use Rattle.std.specs.Prelude.{◌≡◌, List, [], ◌∷◌, Bool}
use Rattle.region.specs.Steps.{Step}
use Rattle.region.specs.Columns.{HasColumns}
use Rattle.region.specs.InnerSteps.{AllFit}

-- columns at places that code can hold
pub record IsColumns (steps : List (Step Bool)) : Type 0 where
  pub columns : HasColumns steps
  pub fits : AllFit steps

-- the steps are at the same places, and their values match
abbrev pub MatchSteps : {V : Type 0} → (V → V → Type 0) → List (Step V) → List (Step V) → Type 0
MatchSteps match [] [] = Unit {0}
MatchSteps match [] (t ∷ ys) = ⊥
MatchSteps match (s ∷ xs) [] = ⊥
MatchSteps match (s ∷ xs) (t ∷ ys) = (s.from ≡ t.from) × match s.value t.value × MatchSteps match xs ys
