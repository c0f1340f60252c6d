-- Inside the crate: bands whose rectangles are counted, and kept while they are few.
use Rattle.std.specs.Prelude.{◌≡◌, ◌+◌, ◌≤◌, ℕ, ℤ, List, [], ◌∷◌, ◌++◌, length, take, drop, Bool, if◌then◌else◌}
use Rattle.geom_base.specs.declared.point.Point.{Point}
use Rattle.geom_base.specs.declared.rect.Rect.{Rect}
use Rattle.region.specs.Steps.{Step, final_value, AllValid}
use Rattle.region.specs.Columns.{Columns}
use Rattle.region.specs.InnerColumns.{IsColumns}
use Rattle.region.specs.Band.{Bands, IsCanonical, has_point, rects_of}
use Rattle.region.specs.Spans.{rects_of_spans}
use Rattle.region.specs.InnerSpanList.{span_steps}
use Rattle.region.specs.declared.span.Span.{Span}
use Rattle.region.specs.declared.band_list.BandList.{BandList}

-- the number of steps that begin columns of the set: of the runs of columns
abbrev pub run_count : List (Step Bool) → ℕ
run_count [] = 0
run_count (s ∷ steps) = (if s.value then 1 else 0) + run_count steps

-- the number of rectangles of bands
abbrev pub rect_count : Bands → ℕ
rect_count [] = 0
rect_count (b ∷ bands) = run_count b.value + rect_count bands

-- a rectangle that ends at a row
abbrev pub ended_at : ℤ → Rect → Rect
ended_at bottom r = record r { bottom = bottom }

-- the rectangles of the last band have these spans, and end where they begin; those before it are all others, where they are not too many
pub record IsKept (list : BandList) (bands : Bands) : Type 0 where
  pub row : List Span
  pub from : ℤ
  pub number : list.count ≡ rect_count bands
  pub within : list.ended ≤ length list.rects.items
  pub value : final_value [] bands ≡ span_steps row
  pub last : drop list.ended list.rects.items ≡ rects_of_spans from from row
  pub all : list.count ≤ list.most → (to : ℤ) (columns : Columns) →
      rects_of (bands ++ record { from = to; value = columns } ∷ []) ≡ take list.ended list.rects.items ++ rects_of_spans from to row

-- this is the number of the bands' rectangles, and they are kept where they are not too many
pub record IsCounted (list : BandList) (bands : Bands) : Type 0 where
  pub number : list.count ≡ rect_count bands
  pub within : list.ended ≤ length list.rects.items
  pub few : list.count ≤ list.most → IsKept list bands

-- canonical bands, at places that code can hold
pub record AreCanonical (bands : Bands) : Type 0 where
  pub canonical : IsCanonical bands
  pub values : AllValid IsColumns bands

-- the bands of a set, with so many rectangles at most
pub record IsBuilt (most : ℕ) (set : Point → Bool) (list : BandList) : Type 0 where
  pub bands : Bands
  pub counted : IsCounted list bands
  pub limit : list.most ≡ most
  pub canonical : AreCanonical bands
  pub points : (p : Point) → has_point bands p ≡ set p
