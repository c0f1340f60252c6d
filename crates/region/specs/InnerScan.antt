-- Inside the crate: rectangles from top to bottom, and how far a scan over their rows has come.
use Rattle.std.specs.Prelude.{◌≡◌, ◌<◌, ℤ, ◌≤ℤ◌, ◌+ℤ◌, ◌⊎◌, pos, negsuc, length, List, [], ◌∷◌, Bool, true, false, ◌||◌, if◌then◌else◌, int_lt}
use Rattle.std.specs.Int.{int_max}
use Rattle.std.specs.List.{All, Contains}
use Rattle.geom_base.specs.declared.point.Point.{Point}
use Rattle.geom_base.specs.declared.rect.Rect.{Rect}
use Rattle.geom_base.specs.Points.{is_in_some, HasPoints}
use Rattle.region.specs.declared.cover.Cover.{Cover}
use Rattle.region.specs.Steps.{Step, final_value, AllValid, IsReduced}
use Rattle.region.specs.InnerSteps.{EndsBefore, AllFit}
use Rattle.region.specs.Limits.{most_rects}
use Rattle.region.specs.Columns.{has_column}
use Rattle.region.specs.InnerColumns.{IsColumns}
use Rattle.region.specs.Band.{Bands}
use Rattle.region.specs.declared.band_list.BandList.{BandList}
use Rattle.region.specs.InnerBandList.{IsCounted}
use Rattle.region.specs.InnerCover.{strip_of, covers, IsCover, Splits, SameShape}

-- a rectangle with points, of coordinates that code can hold
pub record IsSolid (r : Rect) : Type 0 where
  pub points : HasPoints r
  pub left : negsuc 2147483647 ≤ℤ r.left
  pub top : negsuc 2147483647 ≤ℤ r.top
  pub right : r.right ≤ℤ pos 2147483647
  pub bottom : r.bottom ≤ℤ pos 2147483647

-- each of the rectangles is so
abbrev pub AllRects : (Rect → Type 0) → List Rect → Type 0
AllRects P [] = Unit {0}
AllRects P (r ∷ rects) = P r × AllRects P rects

-- the first rectangle begins at a row or below it
abbrev pub BeginBelow : ℤ → List Rect → Type 0
BeginBelow y [] = Unit {0}
BeginBelow y (r ∷ rects) = y ≤ℤ r.top

-- the first rectangle begins in a row
abbrev pub BeginIn : ℤ → List Rect → Type 0
BeginIn y [] = ⊥
BeginIn y (r ∷ rects) = r.top ≡ y

-- the rectangles lie from top to bottom
abbrev pub AreDownward : List Rect → Type 0
AreDownward [] = Unit {0}
AreDownward (r ∷ rects) = BeginBelow r.top rects × AreDownward rects

-- the same points, by rectangles with points from top to bottom
pub record IsArranged (rects sorted : List Rect) : Type 0 where
  pub points : (p : Point) → is_in_some p sorted ≡ is_in_some p rects
  pub solid : All IsSolid sorted
  pub downward : AreDownward sorted

-- both edges of a rectangle are among these
pub record HasBothEdges (edges : List ℤ) (r : Rect) : Type 0 where
  pub left : Contains edges r.left
  pub right : Contains edges r.right

-- a rectangle lies in the columns of a cover and splits no cell
pub record HasEdgesIn (t : Cover) (r : Rect) : Type 0 where
  pub left : Splits r.left t
  pub right : Splits r.right t
  pub from : (strip_of t).from ≤ℤ r.left
  pub to : r.right ≤ℤ (strip_of t).to

-- rectangles that a scan can add
pub record AreReady (t : Cover) (rects : List Rect) : Type 0 where
  pub solid : AllRects IsSolid rects
  pub downward : AreDownward rects
  pub edges : AllRects (HasEdgesIn t) rects

-- the rectangles that begin in a row were added to a cover, at an earlier row or the same
pub record IsBegun (z p : ℤ) (rects : List Rect) (old : Cover) (rest : List Rect) (new : Cover) : Type 0 where
  pub cover : IsCover z new
  pub shape : SameShape old new
  pub steady : z ≤ℤ (strip_of old).steady → z ≤ℤ (strip_of new).steady
  pub points : (y x : ℤ) → p ≤ℤ y →
      (covers new y x || is_in_some (record { x = x; y = y }) rest) ≡ (covers old y x || is_in_some (record { x = x; y = y }) rects)
  pub more : (y x : ℤ) → covers old y x ≡ true → covers new y x ≡ true
  pub begun : (y x : ℤ) → covers new y x ≡ true → (covers old y x ≡ true) ⊎ (covers new p x ≡ true)
  pub ready : AreReady new rest
  pub below : BeginBelow p rest

-- and those that are left are fewer, or all
pub record AreBeginning (z p : ℤ) (rects : List Rect) (old : Cover) (rest : List Rect) (new : Cover) : Type 0 where
  pub begun : IsBegun z p rects old rest new
  pub fewer : (rest ≡ rects) ⊎ (length rest < length rects)

-- and none that begins there is left
pub record HaveBegun (z p : ℤ) (rects : List Rect) (old : Cover) (rest : List Rect) (new : Cover) : Type 0 where
  pub adding : AreBeginning z p rects old rest new
  pub later : BeginBelow (p +ℤ pos 1) rest

-- the next row where something changes: no change comes before it, and one comes there
pub record IsNextRow (steady : ℤ) (rects : List Rect) (p : ℤ) : Type 0 where
  pub steady_until : p ≤ℤ (steady +ℤ pos 1)
  pub below : BeginBelow p rects
  pub here : (p ≡ steady +ℤ pos 1) ⊎ BeginIn p rects
  pub last : p ≤ℤ pos 2147483647

-- where the steps hold, and from the last one on what others say
abbrev pub before_or : {V : Type 0} → (V → ℤ → Bool) → V → List (Step V) → (ℤ → ℤ → Bool) → ℤ → ℤ → Bool
before_or holds v [] rest y x = rest y x
before_or holds v (s ∷ steps) rest y x = if int_lt y s.from then holds v x else before_or holds s.value steps rest y x

-- what a cover and rectangles below hold: in the rows before one what stands in that row
abbrev pub ahead : ℤ → Cover → List Rect → ℤ → ℤ → Bool
ahead z t rest y x = covers t (int_max y z) x || is_in_some (record { x = x; y = y }) rest

-- the bands end before the first rectangle
abbrev pub EndsBeforeRects : Bands → List Rect → Type 0
EndsBeforeRects bands [] = Unit {0}
EndsBeforeRects bands (r ∷ rects) = EndsBefore r.top bands

-- all bands above the present row
pub record IsScanned (rects : List Rect) (z : ℤ) (t : Cover) (rest : List Rect) (bands : Bands) : Type 0 where
  pub points : (x y : ℤ) → before_or has_column [] bands (ahead z t rest) y x ≡ is_in_some (record { x = x; y = y }) rects
  pub now : (x : ℤ) → has_column (final_value [] bands) x ≡ covers t z x
  pub reduced : IsReduced has_column [] bands
  pub values : AllValid IsColumns bands
  pub fits : AllFit bands
  pub ends : EndsBefore (z +ℤ pos 1) bands
  pub before : EndsBeforeRects bands rest
  pub cover : IsCover z t
  pub steady : z ≤ℤ (strip_of t).steady
  pub ready : AreReady t rest
  pub below : BeginBelow z rest
  pub first : negsuc 2147483647 ≤ℤ z
  pub last : z ≤ℤ pos 2147483647
  pub ended : (y x : ℤ) → pos 2147483647 ≤ℤ y → covers t y x ≡ false
  pub from : negsuc 2147483647 ≤ℤ (strip_of t).from
  pub to : (strip_of t).to ≤ℤ pos 2147483647

-- the same, with the bands counted
pub record IsScannedInto (rects : List Rect) (z : ℤ) (t : Cover) (rest : List Rect) (list : BandList) : Type 0 where
  pub bands : Bands
  pub scanned : IsScanned rects z t rest bands
  pub counted : IsCounted list bands
  pub limit : list.most ≡ most_rects
