-- A rectangle put at the end of a drawn list.
use Rattle.std.proofs.Common.{◌≡◌, ◌∙◌, ℕ, zero, suc, ◌+◌, ◌-◌, ◌<◌, Bool, true, false, cond, ◌||◌, List, [], ◌∷◌, ◌++◌, length, get_or, set, refl, sym, ap, arith}
use Rattle.std.specs.List.{All}
use Rattle.std.proofs.lemmas.Int.{ints, clamps}
use Rattle.std.proofs.lemmas.List.Elements.{All-set}
use Rattle.geom_base.specs.declared.point.Point.{Point}
use Rattle.geom_base.specs.declared.rect.Rect.{Rect}
use Rattle.geom_base.specs.Points.{HasPoints, is_in, is_in_some}
use Rattle.geom_base.specs.Drawn.{continues, continues_last, joined, pushed}

-- the last place of a list
pub continues-at : (rects : List Rect) (place : ℕ) (r d : Rect) → length rects ≡ place + 1 → continues (get_or rects place d) r ≡ continues_last rects r
continues-at [] place r d h = absurd (omega arith)
continues-at (last ∷ []) zero r d h = refl
continues-at (last ∷ []) (suc place) r d h = absurd (omega arith)
continues-at (s ∷ t ∷ rects) zero r d h = absurd (omega arith)
continues-at (s ∷ t ∷ rects) (suc place) r d h = continues-at (t ∷ rects) place r d (omega arith)

pub pushed-joined : (rects : List Rect) (place : ℕ) (r d : Rect) → length rects ≡ place + 1 → continues_last rects r ≡ true →
    set rects place (joined (get_or rects place d) r) ≡ pushed rects r
pushed-joined [] place r d e h = absurd (omega arith)
pushed-joined (last ∷ []) zero r d e h = rw h refl
pushed-joined (last ∷ []) (suc place) r d e h = absurd (omega arith)
pushed-joined (s ∷ t ∷ rects) zero r d e h = absurd (omega arith)
pushed-joined (s ∷ t ∷ rects) (suc place) r d e h = ap (λ rs. s ∷ rs) (pushed-joined (t ∷ rects) place r d (omega arith) h)

pub pushed-apart : (rects : List Rect) (r : Rect) → continues_last rects r ≡ false → rects ++ r ∷ [] ≡ pushed rects r
pushed-apart [] r h = refl
pushed-apart (last ∷ []) r h = rw h refl
pushed-apart (s ∷ t ∷ rects) r h = ap (λ rs. s ∷ rs) (pushed-apart (t ∷ rects) r h)

-- the points of two rectangles in one
points-joined : (last r : Rect) (p : Point) → continues last r ≡ true → HasPoints last → HasPoints r → is_in p (joined last r) ≡ (is_in p last || is_in p r)
points-joined last r p h a b = grind (arith, ints, clamps)

pub points-pushed : (rects : List Rect) (r : Rect) (p : Point) → All HasPoints rects → HasPoints r → is_in_some p (pushed rects r) ≡ (is_in_some p rects || is_in p r)
points-pushed [] r p all h = one (is_in p r)
  where
    one : (x : Bool) → (x || false) ≡ x
    one true = refl
    one false = refl
points-pushed (last ∷ []) r p all h = either (continues last r) refl
  where
    none : (x y : Bool) → (x || (y || false)) ≡ ((x || false) || y)
    none true y = refl
    none false true = refl
    none false false = refl

    one : (x : Bool) → (x || false) ≡ x
    one true = refl
    one false = refl

    either : (b : Bool) → continues last r ≡ b → is_in_some p (cond b (joined last r ∷ []) (last ∷ r ∷ [])) ≡ ((is_in p last || false) || is_in p r)
    either true e = one (is_in p (joined last r)) ∙ points-joined last r p e (all 0 r (omega arith)) h ∙ ap (λ x. x || is_in p r) (sym (one (is_in p last)))
    either false e = none (is_in p last) (is_in p r)
points-pushed (s ∷ t ∷ rects) r p all h =
    ap (λ x. is_in p s || x) (points-pushed (t ∷ rects) r p (λ k d lt. all (suc k) d (omega arith)) h) ∙ assoc (is_in p s) (is_in_some p (t ∷ rects)) (is_in p r)
  where
    assoc : (x y z : Bool) → (x || (y || z)) ≡ ((x || y) || z)
    assoc true y z = refl
    assoc false y z = refl

-- and so has the one they make
has_points-joined : (last r : Rect) → continues last r ≡ true → HasPoints last → HasPoints r → HasPoints (joined last r)
has_points-joined last r h a b = record { across = omega (arith, ints, a.across); down = omega (arith, ints, clamps, a.down, b.down) }

-- each rectangle has points
pub all-joined : (rects : List Rect) (place : ℕ) (r d : Rect) → length rects ≡ place + 1 → continues_last rects r ≡ true → All HasPoints rects → HasPoints r →
    All HasPoints (set rects place (joined (get_or rects place d) r))
all-joined rects place r d e h all points =
    All-set HasPoints rects place (joined (get_or rects place d) r)
    (has_points-joined (get_or rects place d) r (continues-at rects place r d e ∙ h) (all place d (omega arith)) points) all

-- the last one of a list and another in its place
pub joined_at : (rects : List Rect) (place : ℕ) (r last new : Rect) → length rects ≡ place + 1 → last ≡ get_or rects place last → new ≡ joined last r →
    continues_last rects r ≡ true → All HasPoints rects → HasPoints r → (set rects place new ≡ pushed rects r) × All HasPoints (set rects place new)
joined_at rects place r last new e is made h all points =
    let here : new ≡ joined (get_or rects place last) r = made ∙ ap (λ (x : Rect). joined x r) is in
    rw here (pushed-joined rects place r last e h, all-joined rects place r last e h all points)

-- a list with a last rectangle has a last place
pub has_last : (rects : List Rect) (r : Rect) (len : ℕ) → continues_last rects r ≡ true → len ≡ length rects → length rects ≡ len - 1 + 1
has_last [] r len h e = cc
has_last (s ∷ rects) r len h e = omega (arith, e)
