-- The spans of a row as steps.
use Rattle.std.proofs.Common.{◌≡◌, ◌∙◌, ℤ, pos, List, [], ◌∷◌, ◌++◌, Bool, true, false, refl, ap, sym, subst, inl, inr, append-nil, append_assoc}
use Rattle.std.specs.Bool.{beq}
use Rattle.std.proofs.Common.{◌<ℤ◌, ℕ, ◌<◌, ◌+◌, map, take, length, get_or, arith, cond, int_lt, int_le, ◌&&◌, ◌||◌, FitsSigned, w32}
use Rattle.std.specs.List.{All}
use Rattle.std.proofs.lemmas.Bool.{false≢true}
use Rattle.std.proofs.lemmas.Int.{ints}
use Rattle.std.proofs.lemmas.List.{map-append, take_more}
use Rattle.std.proofs.lemmas.List.Elements.{All-head, All-weaker}
use Rattle.geom_base.specs.declared.rect.Rect.{Rect}
use Rattle.region.specs.InnerSteps.{AllFit}
use Rattle.region.specs.InnerCursor.{AreInBand, in_columns}
use Rattle.region.proofs.SearchLemmas.{pairs_head}
use Rattle.region.proofs.CursorLemmas.{in_band_drop, none_left}
use Rattle.region.specs.declared.span.Span.{Span}
use Rattle.region.specs.declared.span_list.SpanList.{SpanList}
use Rattle.region.specs.Steps.{Step, final_value, BeginsAfter, IsReduced}
use Rattle.region.specs.Columns.{Columns, column, has_column, HasColumns}
use Rattle.region.specs.InnerColumns.{IsColumns}
use Rattle.region.specs.InnerSweep.{AreStepsOf, IsPut}
use Rattle.region.specs.InnerSpanList.{span_of, span_steps, begun_step, steps_of, change}

pub span_steps-push : (spans : List Span) (s : Span) →
    span_steps (spans ++ s ∷ []) ≡ span_steps spans ++ record { from = s.left; value = true } ∷ record { from = s.right; value = false } ∷ []
span_steps-push [] s = refl
span_steps-push (t ∷ spans) s = ap (λ u. record { from = t.left; value = true } ∷ record { from = t.right; value = false } ∷ u) (span_steps-push spans s)

-- a span begins
pub turned_on : (spans : List Span) (left place : ℤ) (was inside : Bool) → inside ≡ true → beq inside was ≡ false →
    span_steps spans ++ begun_step inside place ≡ (span_steps spans ++ begun_step was left) ++ change was inside place
turned_on spans left place was false e d = absurd (false≢true e)
turned_on spans left place true true e d = absurd (false≢true (sym d))
turned_on spans left place false true e d = ap (λ u. u ++ record { from = place; value = true } ∷ []) (sym (append-nil (span_steps spans)))

-- a span ends
pub turned_off : (spans more : List Span) (left place : ℤ) (was inside : Bool) → inside ≡ false → beq inside was ≡ false →
    more ≡ spans ++ record { left = left; right = place } ∷ [] →
    span_steps more ++ begun_step inside left ≡ (span_steps spans ++ begun_step was left) ++ change was inside place
turned_off spans more left place was true e d m = absurd (false≢true (sym e))
turned_off spans more left place false false e d m = absurd (false≢true (sym d))
turned_off spans more left place true false e d m =
    append-nil (span_steps more) ∙ ap span_steps m ∙ span_steps-push spans (record { left = left; right = place })
    ∙ sym (append_assoc (span_steps spans) (record { from = left; value = true } ∷ []) (record { from = place; value = false } ∷ []))

final_begun : (spans : List Span) (inside : Bool) (left : ℤ) → final_value false (span_steps spans ++ begun_step inside left) ≡ inside
final_begun [] true left = refl
final_begun [] false left = refl
final_begun (s ∷ spans) inside left = final_begun spans inside left

pub final_inside : (list : SpanList) → final_value false (steps_of list) ≡ list.inside
final_inside list = final_begun list.spans.items list.inside list.left

put_change : (steps more : Columns) (was value : Bool) (place : ℤ) → final_value false steps ≡ was → more ≡ steps ++ change was value place →
    IsPut column (λ b. Unit {0}) false (λ x. value) place steps more
put_change steps more true true place f m = record {
  value = true;
  is_valid = tt;
  holds_columns = λ x. refl;
  put = inl ((λ x. sym f), m ∙ append-nil steps);
}
put_change steps more false false place f m = record {
  value = false;
  is_valid = tt;
  holds_columns = λ x. refl;
  put = inl ((λ x. sym f), m ∙ append-nil steps);
}
put_change steps more true false place f m = record {
  value = false;
  is_valid = tt;
  holds_columns = λ x. refl;
  put = inr ((λ same. false≢true (same (pos 0) ∙ f)), m);
}
put_change steps more false true place f m = record {
  value = true;
  is_valid = tt;
  holds_columns = λ x. refl;
  put = inr ((λ same. false≢true (sym f ∙ sym (same (pos 0)))), m);
}

-- a turn puts a step where the value changes
pub turn_is_put : (old new : SpanList) (value : Bool) (place : ℤ) → steps_of new ≡ steps_of old ++ change old.inside value place →
    IsPut column (λ b. Unit {0}) false (λ x. value) place (steps_of old) (steps_of new)
turn_is_put old new value place e = put_change (steps_of old) (steps_of new) old.inside value place (final_inside old) e

-- with no span begun
pub all_ended : (list : SpanList) → list.inside ≡ false → steps_of list ≡ span_steps list.spans.items
all_ended list e = ap (λ b. span_steps list.spans.items ++ begun_step b list.left) e ∙ append-nil (span_steps list.spans.items)

-- the spans of a whole row are columns
pub row_is_ended : (list : SpanList) (set : ℤ → ℤ → Bool) → AreStepsOf column (λ b. Unit {0}) false set (steps_of list) →
    steps_of list ≡ span_steps list.spans.items
row_is_ended list set h = all_ended list (sym (final_inside list) ∙ h.final (pos 0))

pub row_has_columns : (list : SpanList) (set : ℤ → ℤ → Bool) → AreStepsOf column (λ b. Unit {0}) false set (steps_of list) →
    IsColumns (span_steps list.spans.items)
row_has_columns list set h = subst IsColumns (row_is_ended list set h)
    (record { columns = record { reduced = h.reduced; ends = h.final (pos 0) }; fits = h.fits })

pub row_points : (list : SpanList) (set : ℤ → ℤ → Bool) → AreStepsOf column (λ b. Unit {0}) false set (steps_of list) → (x : ℤ) →
    has_column (span_steps list.spans.items) x ≡ set x (pos 0)
row_points list set h x = ap (λ l. has_column l x) (sym (row_is_ended list set h)) ∙ h.points (pos 0) x

-- columns put are equal columns put
pub put_alike : {V : Type 0} (holds : V → ℤ → Bool) (valid : V → Type 0) (empty : V) (f g : ℤ → Bool) (place : ℤ) (steps more : List (Step V)) →
    ((x : ℤ) → f x ≡ g x) → IsPut holds valid empty f place steps more → IsPut holds valid empty g place steps more
put_alike holds valid empty f g place steps more same p = record {
  value = p.value;
  is_valid = p.is_valid;
  holds_columns = λ x. p.holds_columns x ∙ same x;
  put = p.put;
}

-- the spans of a band

begins_later : (z : ℤ) (rects : List Rect) → All (λ r. z <ℤ r.left) rects → BeginsAfter z (span_steps (map span_of rects))
begins_later z [] h = tt
begins_later z (r ∷ rects) h = All-head (λ q. z <ℤ q.left) r rects h

band_reduced : (rects : List Rect) → AreInBand rects → IsReduced column false (span_steps (map span_of rects))
band_reduced [] h = tt
band_reduced (r ∷ rects) h = (
  (λ same. false≢true (sym (same (pos 0)))),
  All-head (λ q. q.left <ℤ q.right) r rects h.columns,
  (
    (λ same. false≢true (same (pos 0))),
    begins_later r.right rects (pairs_head (λ a b. a.right <ℤ b.left) r rects h.order),
    band_reduced rects (in_band_drop 1 (r ∷ rects) h),
  ),
)

band_ends : (rects : List Rect) → final_value false (span_steps (map span_of rects)) ≡ false
band_ends [] = refl
band_ends (r ∷ rects) = band_ends rects

column_test : (x left right : ℤ) (rest : Bool) → (x <ℤ left → rest ≡ false) → left <ℤ right →
    cond (int_lt x left) false (cond (int_lt x right) true rest) ≡ ((int_le left x && int_lt x right) || rest)
column_test x left right true none h = grind (arith, ints, none)
column_test x left right false none h = grind (arith, ints)

band_points : (rects : List Rect) → AreInBand rects → (x : ℤ) → has_column (span_steps (map span_of rects)) x ≡ in_columns x rects
band_points [] h x = refl
band_points (r ∷ rects) h x =
    let across : r.left <ℤ r.right = All-head (λ q. q.left <ℤ q.right) r rects h.columns in
    let later = pairs_head (λ a b. a.right <ℤ b.left) r rects h.order in
    ap (λ b. cond (int_lt x r.left) false (cond (int_lt x r.right) true b)) (band_points rects (in_band_drop 1 (r ∷ rects) h) x)
    ∙ column_test x r.left r.right (in_columns x rects)
    (λ lt. none_left x rects (All-weaker (λ q. r.right <ℤ q.left) (λ q. x <ℤ q.left) (λ q k. omega (arith, ints, k, lt, across)) rects later)) across

pub band_is_columns : (rects : List Rect) (spans : List Span) → AreInBand rects → AllFit (span_steps spans) → spans ≡ map span_of rects →
    IsColumns (span_steps spans) × ((x : ℤ) → has_column (span_steps spans) x ≡ in_columns x rects)
band_is_columns rects spans h fits e = (
  record {
    columns = subst (λ l. HasColumns (span_steps l)) (sym e) (record { reduced = band_reduced rects h; ends = band_ends rects });
    fits = fits;
  },
  λ x. ap (λ l. has_column (span_steps l) x) e ∙ band_points rects h x,
)

-- a span more
pub spans_next : (rects : List Rect) (spans more : List Span) (k : ℕ) (d : Rect) → k < length rects → spans ≡ map span_of (take k rects) →
    more ≡ spans ++ span_of (get_or rects k d) ∷ [] → AllFit (span_steps spans) → FitsSigned w32 (get_or rects k d).left →
    FitsSigned w32 (get_or rects k d).right → (more ≡ map span_of (take (k + 1) rects)) × AllFit (span_steps more)
spans_next rects spans more k d lt e m fits left right = (
  m ∙ ap (λ l. l ++ span_of (get_or rects k d) ∷ []) e ∙ sym (map-append span_of (take k rects) (get_or rects k d ∷ []))
      ∙ ap (map span_of) (sym (take_more rects k d lt)),
  subst AllFit (sym (ap span_steps m ∙ span_steps-push spans (span_of (get_or rects k d)))) (fit_both (span_steps spans) _ _ fits left right),
)
  where
    fit_both : (steps : Columns) (s t : Step Bool) → AllFit steps → FitsSigned w32 s.from → FitsSigned w32 t.from → AllFit (steps ++ s ∷ t ∷ [])
    fit_both [] s t h a b = (a, (b, tt))
    fit_both (u ∷ steps) s t h a b = (h.0, fit_both steps s t h.1 a b)
