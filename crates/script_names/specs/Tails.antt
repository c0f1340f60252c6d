-- The words of a line's end.
use Rattle.std.specs.Prelude.{ℕ, List, [], ◌∷◌, Result, Ok}
use Rattle.geom_base.specs.declared.rect.Rect.{Rect}
use Rattle.script_words.specs.declared.refusal.Refusal.{Refusal}
use Rattle.script_words.specs.Asking.{◌>>=◌}
use Rattle.script_words.specs.Places.{rect_in}

-- a rectangle for each four words
abbrev pub rects_from : List (List ℕ) → Result (List Rect) Refusal
rects_from [] = Ok []
rects_from (a ∷ []) = Ok []
rects_from (a ∷ b ∷ []) = Ok []
rects_from (a ∷ b ∷ c ∷ []) = Ok []
rects_from (a ∷ b ∷ c ∷ d ∷ words) = do
  rect ← rect_in (a ∷ b ∷ c ∷ d ∷ []) 0
  rects ← rects_from words
  Ok (rect ∷ rects)
