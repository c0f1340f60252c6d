-- Rows pushed to a builder.
use Rattle.std.proofs.Common.{◌≡◌, ◌∙◌, ℤ, List, [], ◌++◌, Bool, refl, ap, sym, int_lt, int_le, ◌&&◌, ◌||◌, ◌<ℤ◌, ◌≤ℤ◌, FitsSigned, w32, arith}
use Rattle.std.proofs.lemmas.Int.{ints}
use Rattle.std.proofs.lemmas.List.Folds.{list_any-append}
use Rattle.geom_base.specs.declared.point.Point.{Point}
use Rattle.geom_base.specs.declared.rect.Rect.{Rect}
use Rattle.geom_base.specs.Points.{is_in, is_in_some}
use Rattle.region.specs.declared.span.Span.{Span}
use Rattle.region.specs.Steps.{final_value}
use Rattle.region.specs.Columns.{Columns, has_column, HasColumns}
use Rattle.region.specs.InnerColumns.{IsColumns}
use Rattle.region.specs.Band.{Bands, has_point}
use Rattle.region.specs.Limits.{most_rects}
use Rattle.region.specs.InnerSweep.{CanTake, IsPut}
use Rattle.region.specs.InnerSpanList.{span_steps}
use Rattle.region.specs.InnerBandList.{IsKept, IsBuilt, AreCanonical}
use Rattle.region.specs.declared.band_list.BandList.{BandList}
use Rattle.region.specs.declared.builder.RegionBuilder.{RegionBuilder}
use Rattle.region.specs.Builder.{AreRows, HasRows}
use Rattle.region.specs.Canonical.{point_from}
use Rattle.region.specs.InnerRuns.{AreRuns, AreEnded, with_run}
use Rattle.region.specs.Spans.{in_spans, rects_of_spans}
use Rattle.region.proofs.StepLemmas.{final_is_valid}
use Rattle.region.proofs.UniqueLemmas.{same_columns}
use Rattle.region.proofs.RegionLemmas.{no_columns, values_of}
use Rattle.region.proofs.KeptLemmas.{kept_is_counted}
use Rattle.region.proofs.RunLemmas.{runs_take, put_end, put_run, runs_until, runs_same, final_of_seen, value_of_seen, reduced_of_seen}
use Rattle.region.proofs.SpanLemmas.{span_rects_points}

-- ended runs are canonical bands
ended_canonical : (end : ℤ) (set : ℤ → ℤ → Bool) (bands : Bands) → AreEnded has_column IsColumns end set bands → AreCanonical bands
ended_canonical end set bands h =
    let values = values_of bands h.steps_reduced.values in
    record {
      canonical = record {
        reduced = reduced_of_seen has_column [] bands h.steps_reduced.reduced;
        values = values;
        ends = same_columns (final_value [] bands) [] (final_is_valid HasColumns [] bands no_columns values) no_columns
            (λ x. ap (λ f. f x) (sym (final_of_seen has_column [] bands) ∙ h.final));
      };
      values = h.steps_reduced.values;
    }

ended_points : (end : ℤ) (set : ℤ → ℤ → Bool) (bands : Bands) → AreEnded has_column IsColumns end set bands → (p : Point) →
    has_point bands p ≡ set p.y p.x
ended_points end set bands h p = ap (λ f. f p.x) (sym (value_of_seen has_column [] bands p.y)) ∙ h.points p.x p.y

-- the points of the rectangles so far and of one more row
row_more : (pushed : List Rect) (top bottom : ℤ) (columns : Columns) (spans : List Span) → ((x : ℤ) → has_column columns x ≡ in_spans x spans) → (y x : ℤ) →
    with_run (λ y x. is_in_some (point_from x y) pushed) top bottom (has_column columns) y x ≡
    is_in_some (point_from x y) (pushed ++ rects_of_spans top bottom spans)
row_more pushed top bottom columns spans each y x =
    ap (λ b. is_in_some (point_from x y) pushed || ((int_le top y && int_lt y bottom) && b)) (each x)
    ∙ ap (λ b. is_in_some (point_from x y) pushed || b) (sym (span_rects_points x y top bottom spans))
    ∙ sym (list_any-append (λ r. is_in (point_from x y) r) pushed (rects_of_spans top bottom spans))

row_runs : (pushed : List Rect) (top bottom : ℤ) (columns : Columns) (spans : List Span) (bands : Bands) →
    ((x : ℤ) → has_column columns x ≡ in_spans x spans) →
    AreRuns has_column IsColumns bottom (with_run (λ y x. is_in_some (point_from x y) pushed) top bottom (has_column columns)) bands →
    AreRuns has_column IsColumns bottom (λ y x. is_in_some (point_from x y) (pushed ++ rects_of_spans top bottom spans)) bands
row_runs pushed top bottom columns spans bands each h =
    runs_same has_column IsColumns bottom _ _ bands (row_more pushed top bottom columns spans each) h

-- what a list that takes a row gives
abbrev Puts : BandList → BandList → ℤ → List Span → Type 0
Puts list next place spans = (bands : Bands) → IsKept list bands → CanTake IsColumns place bands →
    (more : Bands) × IsKept next more × IsPut has_column IsColumns [] (has_column (span_steps spans)) place bands more

-- rows above one are above a later one
pub rows_above : (pushed : List Rect) (end top : ℤ) (builder : RegionBuilder) → HasRows pushed end builder → end ≤ℤ top → HasRows pushed top builder
rows_above pushed end top builder h k = record { rows = h.rows; above = omega (arith, ints, h.above, k) }

-- a row can be put where the last one ends
pub rows_take : (pushed : List Rect) (bottom : ℤ) (list : BandList) → AreRows pushed bottom list →
    (bands : Bands) × IsKept list bands × CanTake IsColumns bottom bands
rows_take pushed bottom list h = (h.bands, h.kept, runs_take has_column IsColumns bottom _ h.bands h.runs)

rows_end : (pushed : List Rect) (bottom : ℤ) (list next : BandList) → AreRows pushed bottom list → FitsSigned w32 bottom → Puts list next bottom [] →
    (more : Bands) × IsKept next more × AreEnded has_column IsColumns bottom (λ y x. is_in_some (point_from x y) pushed) more
rows_end pushed bottom list next h fits puts =
    let p = puts h.bands h.kept (runs_take has_column IsColumns bottom _ h.bands h.runs) in
    (p.0, p.1, put_end has_column IsColumns [] (has_column []) bottom _ h.bands p.0 h.runs fits (λ x. refl) (λ x. refl) p.2)

-- no columns until a later row
pub rows_until : (pushed : List Rect) (bottom top : ℤ) (list next : BandList) → AreRows pushed bottom list → bottom <ℤ top → FitsSigned w32 bottom →
    Puts list next bottom [] → next.most ≡ list.most → AreRows pushed top next
rows_until pushed bottom top list next h later fits puts most =
    let e = rows_end pushed bottom list next h fits puts in
    record { bands = e.0; kept = e.1; limit = most ∙ h.limit; runs = runs_until has_column IsColumns bottom top _ e.0 e.2 later }

-- a row more
pub rows_more : (pushed : List Rect) (top bottom : ℤ) (row spans : List Span) (list next : BandList) → AreRows pushed top list → top <ℤ bottom →
    FitsSigned w32 top → ((x : ℤ) → has_column (span_steps row) x ≡ in_spans x spans) → Puts list next top row → next.most ≡ list.most →
    AreRows (pushed ++ rects_of_spans top bottom spans) bottom next
rows_more pushed top bottom row spans list next h wide fits each puts most =
    let p = puts h.bands h.kept (runs_take has_column IsColumns top _ h.bands h.runs) in
    record {
      bands = p.0;
      kept = p.1;
      limit = most ∙ h.limit;
      runs = row_runs pushed top bottom (span_steps row) spans p.0 each
          (put_run has_column IsColumns [] (has_column (span_steps row)) top bottom _ h.bands p.0 h.runs wide fits (λ x. refl) p.2);
    }

-- the last row is ended
pub rows_built : (pushed : List Rect) (bottom : ℤ) (list next : BandList) → AreRows pushed bottom list → FitsSigned w32 bottom → Puts list next bottom [] →
    next.most ≡ list.most → IsBuilt most_rects (λ p. is_in_some p pushed) next
rows_built pushed bottom list next h fits puts most =
    let e = rows_end pushed bottom list next h fits puts in
    record {
      bands = e.0;
      counted = kept_is_counted next e.0 e.1;
      limit = most ∙ h.limit;
      canonical = ended_canonical bottom _ e.0 e.2;
      points = ended_points bottom (λ y x. is_in_some (point_from x y) pushed) e.0 e.2;
    }
