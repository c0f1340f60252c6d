-- Drawn lists: rectangles that were drawn, and how many more are taken without memory.
use Rattle.std.specs.Prelude.{◌≡◌, ℕ, ℤ, Bool, false, ◌&&◌, ◌||◌, List, [], ◌∷◌, if◌then◌else◌}
use Rattle.std.specs.Ordering.{int_eq}
use Rattle.std.specs.Int.{int_max, int_min}
use Rattle.geom_base.specs.declared.rect.Rect.{Rect}

pub record Drawn : Type 0 where
  pub rects : List Rect
  pub spare : ℕ

-- a rectangle continues another: it has the same columns, and touches it below or above
abbrev pub continues : Rect → Rect → Bool
continues last r = int_eq last.left r.left && int_eq last.right r.right && (int_eq last.bottom r.top || int_eq r.bottom last.top)

-- both in one
abbrev pub joined : Rect → Rect → Rect
joined last r = record { left = last.left; top = int_min last.top r.top; right = last.right; bottom = int_max last.bottom r.bottom }

-- a rectangle continues the last of a list
abbrev pub continues_last : List Rect → Rect → Bool
continues_last [] r = false
continues_last (last ∷ []) r = continues last r
continues_last (s ∷ t ∷ rects) r = continues_last (t ∷ rects) r

-- a list with one rectangle more, which is joined to the last where it continues that
abbrev pub pushed : List Rect → Rect → List Rect
pushed [] r = r ∷ []
pushed (last ∷ []) r = if continues last r then joined last r ∷ [] else last ∷ r ∷ []
pushed (s ∷ t ∷ rects) r = s ∷ pushed (t ∷ rects) r
