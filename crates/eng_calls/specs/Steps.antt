-- Rectangles that are drawn one after the other, each from the values that it finds.
use Rattle.std.specs.Prelude.{ℕ, ◌≡◌, true, List, [], ◌∷◌}
use Rattle.std.specs.List.{AllPairs}
use Rattle.geom_base.specs.declared.point.Point.{Point}
use Rattle.geom_base.specs.declared.rect.Rect.{Rect}
use Rattle.geom_base.specs.declared.size.Size.{Size}
use Rattle.geom_base.specs.Points.{is_in, is_in_some, AreApart}
use Rattle.geom_base.specs.Step.{Change, redrawn}

-- the change that a call makes, given the values that it finds
abbrev pub Rule : Type 0
Rule = List ℕ → Change

-- one rectangle after the other
abbrev pub step_by_step : Size → Rule → List Rect → List ℕ → List ℕ
step_by_step size rule [] values = values
step_by_step size rule (r ∷ rects) values = step_by_step size rule rects (redrawn size values (λ p. is_in p r) (rule values))

-- whatever was drawn in a first rectangle, points of a second get what they got before
abbrev pub IsUnaffected : Size → Rule → Rect → Rect → Type 0
IsUnaffected size rule a b = (values : List ℕ) (new : Change) (p : Point) (d : ℕ) → is_in p b ≡ true →
    rule (redrawn size values (λ q. is_in q a) new) p d ≡ rule values p d

-- rectangles that are apart, each of which keeps what later ones get, are one step from the values before
abbrev pub StepsAreOne : Type 0
StepsAreOne = (size : Size) (rule : Rule) (rects : List Rect) (values : List ℕ) → AllPairs AreApart rects → AllPairs (IsUnaffected size rule) rects →
    step_by_step size rule rects values ≡ redrawn size values (λ p. is_in_some p rects) (rule values)
