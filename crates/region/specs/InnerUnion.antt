-- Inside the crate: the union of two regions, rows after rows.
use Rattle.std.specs.Prelude.{◌≡◌, ◌<◌, ◌≤◌, ◌-◌, ◌*◌, ◌⊎◌, ℕ, ℤ, ◌<ℤ◌, ◌≤ℤ◌, pos, List, [], ◌∷◌, length, Bool, ◌&&◌, ◌||◌, if◌then◌else◌, int_le}
use Rattle.std.specs.Int.{int_max}
use Rattle.std.specs.List.{All}
use Rattle.geom_base.specs.declared.point.Point.{Point}
use Rattle.geom_base.specs.declared.rect.Rect.{Rect}
use Rattle.geom_base.specs.Points.{is_in_some}
use Rattle.region.specs.declared.builder.RegionBuilder.{RegionBuilder}
use Rattle.region.specs.Order.{IsInOrder}
use Rattle.region.specs.Builder.{HasRows}
use Rattle.region.specs.InnerCursor.{AreInBand, in_columns}

-- the first row that rectangles have, or the greatest coordinate
abbrev pub first_top : List Rect → ℤ
first_top [] = pos 2147483647
first_top (r ∷ rects) = r.top

-- the first row after one in which rectangles begin or end, or the greatest coordinate
abbrev pub next_edge : ℤ → List Rect → ℤ
next_edge row [] = pos 2147483647
next_edge row (r ∷ rects) = if int_le r.top row then r.bottom else r.top

-- rectangles of a region that reach below a row
pub record IsBelow (row : ℤ) (rects : List Rect) : Type 0 where
  pub order : IsInOrder rects
  pub ahead : All (λ r. row <ℤ r.bottom) rects

-- how many edges of rectangles are left below a row at most
abbrev pub edges_left : ℤ → List Rect → ℕ
edges_left row [] = 0
edges_left row (r ∷ rects) = 2 * length (r ∷ rects) - (if int_le r.top row then 1 else 0)

-- none of them begins or ends between two rows, and none has a row before these
pub record IsSteady (row top bottom : ℤ) (rects : List Rect) : Type 0 where
  pub left : IsBelow row rects
  pub from : row ≤ℤ top
  pub rows : top <ℤ bottom
  pub begins : top ≤ℤ int_max (first_top rects) row
  pub ends : bottom ≤ℤ next_edge top rects

-- the next rows in which two lists stay as they are, up to an edge of one of them
pub record AreNextRows (row : ℤ) (a b : List Rect) (top bottom : ℤ) : Type 0 where
  pub first : IsSteady row top bottom a
  pub second : IsSteady row top bottom b
  pub reached : ((1 ≤ length a) × (bottom ≡ next_edge top a)) ⊎ ((1 ≤ length b) × (bottom ≡ next_edge top b))

-- these of the rectangles have the rows from one to before another, and these are left below
pub record IsTurn (row top bottom : ℤ) (rects here rest : List Rect) : Type 0 where
  pub band : AreInBand here
  pub points : (p : Point) → row ≤ℤ p.y → p.y <ℤ bottom → is_in_some p rects ≡ (int_le top p.y && in_columns p.x here)
  pub below : IsBelow bottom rest
  pub later : (p : Point) → bottom ≤ℤ p.y → is_in_some p rest ≡ is_in_some p rects
  pub fewer : edges_left bottom rest ≤ edges_left row rects
  pub less : 1 ≤ length rects → bottom ≡ next_edge top rects → edges_left bottom rest < edges_left row rects

-- the points of a set were pushed to a builder
pub record HasPointsOf (set : Point → Bool) (builder : RegionBuilder) : Type 0 where
  pub pushed : List Rect
  pub end : ℤ
  pub rows : HasRows pushed end builder
  pub points : (p : Point) → is_in_some p pushed ≡ set p

-- the points of a set were pushed that lie in rows above one, and the others are those of what is left of two lists
pub record IsJoining (set : Point → Bool) (a b : List Rect) (row : ℤ) (builder : RegionBuilder) : Type 0 where
  pub pushed : List Rect
  pub rows : HasRows pushed row builder
  pub first : IsBelow row a
  pub second : IsBelow row b
  pub points : (p : Point) → (is_in_some p pushed || (int_le row p.y && (is_in_some p a || is_in_some p b))) ≡ set p
