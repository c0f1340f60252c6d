-- The columns of spans.
use Rattle.std.proofs.Common.{◌≡◌, ◌∙◌, ℕ, ℤ, ◌+◌, ◌<◌, ◌≤ℤ◌, pos, List, [], ◌∷◌, ◌++◌, length, get_or, take, add-one, Bool, true}
use Rattle.std.proofs.Common.{◌<ℤ◌}
use Rattle.std.proofs.Common.{false, refl, ap, sym, subst, arith, int_lt, int_le, ◌&&◌, ◌||◌, FitsSigned, w32}
use Rattle.std.specs.List.{All}
use Rattle.std.proofs.Math.Seq.{take-suc}
use Rattle.std.proofs.lemmas.List.{get_or-take, get_or_default, length-take-le}
use Rattle.std.proofs.lemmas.List.Elements.{All-head}
use Rattle.std.proofs.lemmas.List.Folds.{list_any-append}
use Rattle.geom_base.specs.Points.{is_in_some}
use Rattle.region.specs.Steps.{Step}
use Rattle.region.specs.declared.span.Span.{Span}
use Rattle.region.specs.declared.span_list.SpanList.{SpanList}
use Rattle.region.specs.Columns.{column, has_column}
use Rattle.region.specs.InnerSpanList.{change, steps_of}
use Rattle.region.specs.InnerColumns.{IsColumns}
use Rattle.region.specs.Canonical.{point_from}
use Rattle.region.specs.InnerRuns.{AreRuns, AreEnded, with_run}
use Rattle.region.specs.Spans.{in_spans, AreSpans, rects_of_spans}
use Rattle.region.specs.InnerSpans.{AreSpanRuns}
use Rattle.region.proofs.BandMoveLemmas.{All-right}
use Rattle.region.proofs.SpanListLemmas.{turn_is_put}
use Rattle.region.proofs.RunLemmas.{put_end, put_run, runs_same, final_of_seen, value_of_seen, reduced_of_seen}

-- the next span begins where the last one ends, or after it
pub span_is_later : (spans : List Span) (k : ℕ) (d : Span) (end : ℤ) (steps : List (Step Bool)) → k < length spans → AreSpans spans →
    FitsSigned w32 (get_or spans k d).left → AreSpanRuns (take k spans) end steps → end ≤ℤ (get_or spans k d).left
span_is_later spans k d end steps lt h fits r = r.below (get_or spans k d).left fits
    (λ i e below.
    let early : i < k = subst (λ n. i < n) (length-take-le k spans (omega (arith, lt))) below in
    let one : get_or (take k spans) i e ≡ get_or spans i d = get_or-take k spans i e early ∙ get_or_default spans i e d (omega (arith, early, lt)) in
    subst (λ s. s.right ≤ℤ (get_or spans k d).left) (sym one) (h.order i k d early lt))

last_test : (b l r : Bool) → (b || ((l && r) || false)) ≡ (b || (l && r && true))
last_test true l r = refl
last_test false true true = refl
last_test false true false = refl
last_test false false r = refl

-- one more span
pub span_runs_more : (spans : List Span) (k : ℕ) (d : Span) (left right : ℤ) (steps : List (Step Bool)) → k < length spans →
    left ≡ (get_or spans k d).left → right ≡ (get_or spans k d).right →
    AreRuns column (λ b. Unit {0}) right (with_run (λ y x. in_spans y (take k spans)) left right (column true)) steps →
    AreSpanRuns (take (k + 1) spans) right steps
span_runs_more spans k d left right steps lt f e r =
    let more : take (k + 1) spans ≡ take k spans ++ get_or spans k d ∷ [] = ap (λ n. take n spans) (add-one k) ∙ take-suc spans k d lt in
    record {
      runs = runs_same column (λ b. Unit {0}) right _ (λ y x. in_spans y (take (k + 1) spans)) steps
          (λ y x. ap (λ a. in_spans y (take k spans) || (int_le a y && int_lt y right && true)) f
          ∙ ap (λ b. in_spans y (take k spans) || (int_le (get_or spans k d).left y && int_lt y b && true)) e
          ∙ sym (last_test (in_spans y (take k spans)) (int_le (get_or spans k d).left y) (int_lt y (get_or spans k d).right))
          ∙ sym (list_any-append (λ s. int_le s.left y && int_lt y s.right) (take k spans) (get_or spans k d ∷ []))
          ∙ ap (in_spans y) (sym more)) r;
      below = λ y fits all. subst (λ x. x ≤ℤ y) (sym e) (All-head (λ s. s.right ≤ℤ y) (get_or spans k d) []
          (All-right (λ s. s.right ≤ℤ y) (take k spans) (get_or spans k d ∷ []) (subst (All (λ s. s.right ≤ℤ y)) more all)));
    }

-- ended runs of columns are columns
pub span_columns : (set : ℤ → ℤ → Bool) (end : ℤ) (steps : List (Step Bool)) → AreEnded column (λ b. Unit {0}) end set steps → IsColumns steps
span_columns set end steps h = record {
  columns = record {
    reduced = reduced_of_seen column false steps h.steps_reduced.reduced;
    ends = ap (λ f. f (pos 0)) (sym (final_of_seen column false steps) ∙ h.final);
  };
  fits = h.steps_reduced.fits;
}

pub span_points : (set : ℤ → ℤ → Bool) (end : ℤ) (steps : List (Step Bool)) → AreEnded column (λ b. Unit {0}) end set steps → (x : ℤ) →
    has_column steps x ≡ set x (pos 0)
span_points set end steps h x = ap (λ f. f (pos 0)) (sym (value_of_seen column false steps x)) ∙ h.points (pos 0) x

-- code turns off where the last span ends, and on where the next one begins

pub span_ends : (set : ℤ → ℤ → Bool) (end : ℤ) (old new : SpanList) → AreRuns column (λ b. Unit {0}) end set (steps_of old) → FitsSigned w32 end →
    steps_of new ≡ steps_of old ++ change old.inside false end → AreEnded column (λ b. Unit {0}) end set (steps_of new)
span_ends set end old new r fits e = put_end column (λ b. Unit {0}) false (column false) end set (steps_of old) (steps_of new) r fits (λ x. refl) (λ x. refl)
    (turn_is_put old new false end e)

pub span_begins : (set : ℤ → ℤ → Bool) (from to : ℤ) (old new : SpanList) → AreRuns column (λ b. Unit {0}) from set (steps_of old) → from <ℤ to →
    FitsSigned w32 from → steps_of new ≡ steps_of old ++ change old.inside true from →
    AreRuns column (λ b. Unit {0}) to (with_run set from to (column true)) (steps_of new)
span_begins set from to old new r wide fits e = put_run column (λ b. Unit {0}) false (column true) from to set (steps_of old) (steps_of new) r wide fits
    (λ x. refl) (turn_is_put old new true from e)

-- the points of a row's rectangles
row_test : (l r t b rest : Bool) → ((l && r && t && b) || ((t && b) && rest)) ≡ ((t && b) && ((l && r) || rest))
row_test true true true true rest = refl
row_test true false true true rest = refl
row_test false r true true rest = refl
row_test true true true false rest = refl
row_test true false true false rest = refl
row_test false r true false rest = refl
row_test true true false b rest = refl
row_test true false false b rest = refl
row_test false r false b rest = refl

none_there : (c : Bool) → false ≡ (c && false)
none_there true = refl
none_there false = refl

pub span_rects_points : (x y top bottom : ℤ) (spans : List Span) →
    is_in_some (point_from x y) (rects_of_spans top bottom spans) ≡ ((int_le top y && int_lt y bottom) && in_spans x spans)
span_rects_points x y top bottom [] = none_there (int_le top y && int_lt y bottom)
span_rects_points x y top bottom (s ∷ spans) =
    ap (λ u. (int_le s.left x && int_lt x s.right && int_le top y && int_lt y bottom) || u) (span_rects_points x y top bottom spans)
    ∙ row_test (int_le s.left x) (int_lt x s.right) (int_le top y) (int_lt y bottom) (in_spans x spans)
