-- What was pushed to a builder of a region.
use Rattle.std.specs.Prelude.{◌≡◌, ℤ, ◌≤ℤ◌, negsuc, List}
use Rattle.geom_base.specs.declared.rect.Rect.{Rect}
use Rattle.geom_base.specs.Points.{is_in_some}
use Rattle.region.specs.declared.band_list.BandList.{BandList}
use Rattle.region.specs.declared.builder.RegionBuilder.{RegionBuilder}
use Rattle.region.specs.Columns.{has_column}
use Rattle.region.specs.Canonical.{point_from}
use Rattle.region.specs.Limits.{most_rects}
use Rattle.region.specs.Band.{Bands}
use Rattle.region.specs.InnerColumns.{IsColumns}
use Rattle.region.specs.InnerBandList.{IsKept}
use Rattle.region.specs.InnerRuns.{AreRuns}

-- the highest row
abbrev pub first_row : ℤ
first_row = negsuc 2147483647

-- bands of the points of these rectangles, the last of which ends at a row
pub record AreRows (pushed : List Rect) (bottom : ℤ) (list : BandList) : Type 0 where
  pub bands : Bands
  pub kept : IsKept list bands
  pub limit : list.most ≡ most_rects
  pub runs : AreRuns has_column IsColumns bottom (λ y x. is_in_some (point_from x y) pushed) bands

-- all points of these rectangles were pushed, in rows above one
pub record HasRows (pushed : List Rect) (end : ℤ) (builder : RegionBuilder) : Type 0 where
  pub rows : AreRows pushed builder.bottom builder.list
  pub above : builder.bottom ≤ℤ end
