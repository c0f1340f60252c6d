-- Inside the crate: what is left of a set along a sweep.
use Rattle.std.specs.Prelude.{◌≡◌, ◌≤◌, ◌-◌, ◌*◌, ℕ, ℤ, ◌<ℤ◌, ◌≤ℤ◌, List, [], ◌∷◌, Bool, false, ◌&&◌, if◌then◌else◌, int_le, int_lt, nat_eq}
use Rattle.std.specs.Prelude.{length, take, drop, Option, Some, None}
use Rattle.std.specs.List.{All, AllPairs, list_any}
use Rattle.geom_base.specs.declared.rect.Rect.{Rect}
use Rattle.region.specs.Order.{IsInOrder}

-- a column is in one of the rectangles, whatever the row
abbrev pub in_columns : ℤ → List Rect → Bool
in_columns x rects = list_any (λ r. int_le r.left x && int_lt x r.right) rects

-- rectangles of a band from left to right, which do not touch
pub record AreInBand (rects : List Rect) : Type 0 where
  pub order : AllPairs (λ a b. a.right <ℤ b.left) rects
  pub columns : All (λ r. r.left <ℤ r.right) rects

-- the rectangles of a region that are left in a row: none has ended, and so many have begun
pub record IsAtRow (y : ℤ) (rects : List Rect) (here : ℕ) : Type 0 where
  pub order : IsInOrder rects
  pub within : here ≤ length rects
  pub ahead : All (λ r. y <ℤ r.bottom) rects
  pub begun : All (λ r. r.top ≤ℤ y) (take here rects)
  pub later : All (λ r. y <ℤ r.top) (drop here rects)

-- the rectangles of a band that are left in a column: none has ended
pub record IsAtColumn (x : ℤ) (rects : List Rect) (inside : Bool) : Type 0 where
  pub band : AreInBand rects
  pub ahead : All (λ r. x <ℤ r.right) rects
  pub here : inside ≡ in_columns x rects

-- the next edge, where a sweep is between bands or in one; or in a band
abbrev pub row_next : List Rect → ℕ → Option ℤ
row_next [] here = None
row_next (r ∷ rects) here = Some (if nat_eq here 0 then r.top else r.bottom)

abbrev pub column_next : List Rect → Bool → Option ℤ
column_next [] inside = None
column_next (r ∷ rects) inside = Some (if inside then r.right else r.left)

-- how many edges are left at most
abbrev pub rows_left : List Rect → ℕ → ℕ
rows_left rects here = 2 * length rects - (if nat_eq here 0 then 0 else 1)

abbrev pub columns_left : List Rect → Bool → ℕ
columns_left rects inside = 2 * length rects - (if inside then 1 else 0)

-- a set stays as it is now until the next place where it may change; without one it has nothing
abbrev pub StaysUntil : (ℤ → ℤ → Bool) → (ℤ → Bool) → ℤ → Option ℤ → Type 0
StaysUntil set now place None = ((x : ℤ) → now x ≡ false) × ((z x : ℤ) → place ≤ℤ z → set z x ≡ false)
StaysUntil set now place (Some next) = (place <ℤ next) × ((z x : ℤ) → place ≤ℤ z → z <ℤ next → set z x ≡ now x)

-- before all places, where nothing is in the set
pub record Begins {C : Type 0} (set : C → ℤ → ℤ → Bool) (now : C → ℤ → Bool) (is_at : ℤ → C → Type 0) (c : C) : Type 0 where
  pub place : ℤ
  pub stands : (z : ℤ) → z ≤ℤ place → is_at z c
  pub nothing : (z x : ℤ) → z ≤ℤ place → set c z x ≡ false
  pub now_nothing : (x : ℤ) → now c x ≡ false
