-- A region's list, moved.
use Rattle.std.proofs.Common.{◌∙◌, sym, ap, map, [], ◌∷◌}
use Rattle.geom_base.specs.declared.point.Point.{Point}
use Rattle.geom_base.specs.Points.{moved_rect, moved_back}
use Rattle.region.specs.Steps.{AllValid}
use Rattle.region.specs.Columns.{HasColumns}
use Rattle.region.specs.Band.{Bands}
use Rattle.region.specs.Moved.{RegionMoves}
use Rattle.region.specs.InnerMoved.{moved_bands}
use Rattle.region.proofs.MoveLemmas.{moved_is_in_some}
use Rattle.region.proofs.BandMoveLemmas.{has_columns_moved, canonical_moved, rects_moved}

columns_move : (by : Point) (bands : Bands) → AllValid HasColumns bands → AllValid HasColumns (moved_bands by bands)
columns_move by [] h = tt
columns_move by (b ∷ bands) h = (has_columns_moved by.x b.value h.0, columns_move by bands h.1)

pub region_moves : RegionMoves
region_moves set rects by h =
    let own = h.canonical in
    record {
      canonical = record {
        bands = moved_bands by own.bands;
        canonical = canonical_moved by own.bands own.canonical (columns_move by own.bands own.canonical.values);
        listed = ap (map (λ r. moved_rect r by)) own.listed ∙ sym (rects_moved by own.bands);
      };
      points = λ p. moved_is_in_some p by rects ∙ h.points (moved_back by p);
    }
