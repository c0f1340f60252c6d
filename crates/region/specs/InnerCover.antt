-- Inside the crate: which columns of which rows are covered: a tree over the cells between neighbouring edges.
use Rattle.std.specs.Prelude.{◌≡◌, ◌+◌, ℕ, ℤ, ◌<ℤ◌, ◌≤ℤ◌, ◌⊎◌, List, ◌++◌, Bool, true, false, ◌&&◌, ◌||◌, if◌then◌else◌, int_lt, int_le}
use Rattle.geom_base.specs.declared.rect.Rect.{Rect}
use Rattle.region.specs.Steps.{Step}
use Rattle.region.specs.declared.row.Row.{Row}
use Rattle.region.specs.declared.strip.Strip.{Strip}
use Rattle.region.specs.declared.cover.Cover.{Cover}
use Rattle.region.specs.declared.cover.Cover.TheVariants.{Cell, Pair'}
use Rattle.region.specs.InnerStrip.{within}
use Rattle.region.specs.InnerBandList.{run_count}
use Rattle.region.specs.InnerSpanList.{change}

-- the columns of a cover, and what stands in its present row
abbrev pub strip_of : Cover → Strip
strip_of (Cell s) = s
strip_of (Pair' s p l q r) = s

-- a column of a row is covered
abbrev pub covers : Cover → ℤ → ℤ → Bool
covers (Cell s) y x = if int_lt y s.until then within s x else false
covers (Pair' s p l q r) y x = if int_lt y s.until then within s x else (covers l y x || covers r y x)

-- how many cells of a row are covered
abbrev pub filled_in : Cover → ℤ → ℕ
filled_in (Cell s) y = if int_lt y s.until then s.size else 0
filled_in (Pair' s p l q r) y = if int_lt y s.until then s.size else filled_in l y + filled_in r y

-- the first column of a row is covered
abbrev pub first_in : Cover → ℤ → Bool
first_in (Cell s) y = int_lt y s.until
first_in (Pair' s p l q r) y = if int_lt y s.until then true else first_in l y

-- the last column of a row is covered
abbrev pub last_in : Cover → ℤ → Bool
last_in (Cell s) y = int_lt y s.until
last_in (Pair' s p l q r) y = if int_lt y s.until then true else last_in r y

-- the steps of a row, given whether the column before is covered
abbrev pub steps_in : Cover → ℤ → Bool → List (Step Bool)
steps_in (Cell s) y before = change before (int_lt y s.until) s.from
steps_in (Pair' s p l q r) y before = if int_lt y s.until then change before true s.from else (steps_in l y before ++ steps_in r y (last_in l y))

-- the columns of a row
abbrev pub columns_in : Cover → ℤ → List (Step Bool)
columns_in t y = steps_in t y false ++ change (last_in t y) false (strip_of t).to

-- what is known of a row of a cover
pub record IsRowOf (t : Cover) (y : ℤ) (row : Row) : Type 0 where
  pub filled : row.filled ≡ filled_in t y
  pub runs : row.runs ≡ run_count (steps_in t y false)
  pub first : row.first ≡ first_in t y
  pub last : row.last ≡ last_in t y

-- from a row on, as long as it is said to last, the row is as it is said to be
abbrev pub IsTold : ℤ → Cover → Type 0
IsTold z t = (y : ℤ) → z ≤ℤ y → y ≤ℤ (strip_of t).steady → IsRowOf t y (strip_of t).row

-- so long the strip is covered as a whole, or its parts last
abbrev pub LastsWith : ℤ → Strip → Cover → Cover → Type 0
LastsWith z s l r = (y : ℤ) → z ≤ℤ y → y ≤ℤ s.steady → (y <ℤ s.until) ⊎ ((y ≤ℤ (strip_of l).steady) × (y ≤ℤ (strip_of r).steady))

-- the same of each part
abbrev pub IsSeen : ℤ → Cover → Type 0
IsSeen z (Cell s) = IsTold z (Cell s)
IsSeen z (Pair' s p l q r) = IsTold z (Pair' s p l q r) × LastsWith z s l r × IsSeen z l × IsSeen z r

-- the parts lie side by side
abbrev pub IsShaped : Cover → Type 0
IsShaped (Cell s) = (s.from <ℤ s.to) × (s.size ≡ 1)
IsShaped (Pair' s p l q r) = (s.from ≡ (strip_of l).from) × ((strip_of l).to ≡ (strip_of r).from) × (s.to ≡ (strip_of r).to)
    × (s.size ≡ (strip_of l).size + (strip_of r).size) × IsShaped l × IsShaped r

-- a cover that was seen at a row
pub record IsCover (z : ℤ) (t : Cover) : Type 0 where
  pub shaped : IsShaped t
  pub seen : IsSeen z t

-- no cell has an edge inside
abbrev pub Splits : ℤ → Cover → Type 0
Splits e (Cell s) = (e ≤ℤ s.from) ⊎ (s.to ≤ℤ e)
Splits e (Pair' s p l q r) = Splits e l × Splits e r

-- two strips have the same columns
abbrev pub SameStrip : Strip → Strip → Type 0
SameStrip s t = (s.from ≡ t.from) × (s.to ≡ t.to) × (s.size ≡ t.size)

-- two covers have the same cells
abbrev pub SameShape : Cover → Cover → Type 0
SameShape (Cell s) (Cell t) = SameStrip s t
SameShape (Cell s) (Pair' t p l q r) = ⊥
SameShape (Pair' s p l q r) (Cell t) = ⊥
SameShape (Pair' s p l q r) (Pair' t p2 l2 q2 r2) = SameStrip s t × SameShape l l2 × SameShape r r2

-- a rectangle covers a column of all rows before its lower edge
abbrev pub reaches : Rect → ℤ → ℤ → Bool
reaches rect y x = int_le rect.left x && int_lt x rect.right && int_lt y rect.bottom

-- a rectangle was added
pub record IsAdded (z : ℤ) (rect : Rect) (old new : Cover) : Type 0 where
  pub cover : IsCover z new
  pub shape : SameShape old new
  pub steady : z ≤ℤ (strip_of old).steady → z ≤ℤ (strip_of new).steady
  pub points : (y x : ℤ) → covers new y x ≡ (covers old y x || (within (strip_of old) x && reaches rect y x))

-- the same cover, seen at a row
pub record IsMoved (z : ℤ) (old new : Cover) : Type 0 where
  pub cover : IsCover z new
  pub shape : SameShape old new
  pub steady : z ≤ℤ (strip_of new).steady
  pub points : (y x : ℤ) → covers new y x ≡ covers old y x
