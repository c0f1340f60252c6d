-- Bands moved are the bands of the moved rectangles.
use Rattle.std.proofs.Common.{◌≡◌, ◌∙◌, ℤ, ◌+ℤ◌, ◌-ℤ◌, List, [], ◌∷◌, ◌++◌, map, Bool, true, false, refl, ap, sym, arith, int_lt, cond}
use Rattle.std.specs.List.{All}
use Rattle.std.proofs.lemmas.Int.{ints}
use Rattle.std.proofs.lemmas.List.{map-append}
use Rattle.std.proofs.lemmas.List.Elements.{All-tail}
use Rattle.geom_base.specs.declared.point.Point.{Point}
use Rattle.geom_base.specs.Points.{moved_rect}
use Rattle.region.specs.Steps.{Step, value_at, final_value, BeginsAfter, AllValid, Same, IsReduced}
use Rattle.region.specs.Columns.{Columns, column, has_column, HasColumns}
use Rattle.region.specs.Band.{Bands, IsCanonical, span_rects, row_rects, rects_of}
use Rattle.region.specs.InnerMoved.{moved_steps, moved_columns, moved_bands}
use Rattle.region.proofs.MoveLemmas.{moved_lt}

pub All-right : {X : Type 0} (P : X → Type 0) (xs ys : List X) → All P (xs ++ ys) → All P ys
All-right P [] ys all = all
All-right P (x ∷ xs) ys all = All-right P xs ys (All-tail P x (xs ++ ys) all)

-- moved steps are reduced as they were

begins_moved : {V : Type 0} (value : V → V) (y by : ℤ) (steps : List (Step V)) → BeginsAfter y steps → BeginsAfter (y +ℤ by) (moved_steps value by steps)
begins_moved value y by [] h = tt
begins_moved value y by (s ∷ steps) h = omega (arith, ints, h)

reduced_moved : {V : Type 0} (holds : V → ℤ → Bool) (value : V → V) (by : ℤ) → ((a b : V) → Same holds (value a) (value b) → Same holds a b) → (v : V)
    (steps : List (Step V)) → IsReduced holds v steps → IsReduced holds (value v) (moved_steps value by steps)
reduced_moved holds value by back v [] h = tt
reduced_moved holds value by back v (s ∷ steps) h =
    ((λ same. h.0 (back s.value v same)), begins_moved value s.from by steps h.1, reduced_moved holds value by back s.value steps h.2)

final_moved : {V : Type 0} (value : V → V) (by : ℤ) (v : V) (steps : List (Step V)) →
    final_value (value v) (moved_steps value by steps) ≡ value (final_value v steps)
final_moved value by v [] = refl
final_moved value by v (s ∷ steps) = final_moved value by s.value steps

value_moved : (by : ℤ) (v : Bool) (columns : Columns) (x : ℤ) → value_at v (moved_columns by columns) x ≡ value_at v columns (x -ℤ by)
value_moved by v [] x = refl
value_moved by v (s ∷ steps) x = ap (λ t. cond t v (value_at s.value (moved_columns by steps) x)) (moved_lt s.from x by)
    ∙ ap (λ u. cond (int_lt (x -ℤ by) s.from) v u) (value_moved by s.value steps x)

and_away : (x by : ℤ) → x ≡ (x +ℤ by) -ℤ by
and_away x by = omega (arith, ints)

columns_back : (by : ℤ) (a b : Columns) → Same has_column (moved_columns by a) (moved_columns by b) → Same has_column a b
columns_back by a b same x = ap (value_at false a) (and_away x by) ∙ sym (value_moved by false a (x +ℤ by)) ∙ same (x +ℤ by)
    ∙ value_moved by false b (x +ℤ by) ∙ ap (value_at false b) (sym (and_away x by))

pub has_columns_moved : (by : ℤ) (columns : Columns) → HasColumns columns → HasColumns (moved_columns by columns)
has_columns_moved by columns h = record {
  reduced = reduced_moved column (λ b. b) by (λ a b same. same) false columns h.reduced;
  ends = final_moved (λ b. b) by false columns ∙ h.ends;
}

pub canonical_moved : (by : Point) (bands : Bands) → IsCanonical bands → AllValid HasColumns (moved_bands by bands) → IsCanonical (moved_bands by bands)
canonical_moved by bands h values = record {
  reduced = reduced_moved has_column (moved_columns by.x) by.y (columns_back by.x) [] bands h.reduced;
  values = values;
  ends = final_moved (moved_columns by.x) by.y [] bands ∙ ap (moved_columns by.x) h.ends;
}

-- the rectangles of moved bands

span_moved : (by : Point) (top bottom : ℤ) (s t : Step Bool) (v : Bool) → s.value ≡ v →
    span_rects (top +ℤ by.y) (bottom +ℤ by.y) (record { from = s.from +ℤ by.x; value = s.value }) (record { from = t.from +ℤ by.x; value = t.value }) ≡
    map (λ r. moved_rect r by) (span_rects top bottom s t)
span_moved by top bottom s t true e = rw e refl
span_moved by top bottom s t false e = rw e refl

row_moved : (by : Point) (top bottom : ℤ) (columns : Columns) →
    row_rects (top +ℤ by.y) (bottom +ℤ by.y) (moved_columns by.x columns) ≡ map (λ r. moved_rect r by) (row_rects top bottom columns)
row_moved by top bottom [] = refl
row_moved by top bottom (s ∷ []) = refl
row_moved by top bottom (s ∷ t ∷ steps) =
    ap (λ u. u ++ row_rects (top +ℤ by.y) (bottom +ℤ by.y) (moved_columns by.x (t ∷ steps))) (span_moved by top bottom s t s.value refl)
    ∙ ap (λ u. map (λ r. moved_rect r by) (span_rects top bottom s t) ++ u) (row_moved by top bottom (t ∷ steps))
    ∙ sym (map-append (λ r. moved_rect r by) (span_rects top bottom s t) (row_rects top bottom (t ∷ steps)))

pub rects_moved : (by : Point) (bands : Bands) → rects_of (moved_bands by bands) ≡ map (λ r. moved_rect r by) (rects_of bands)
rects_moved by [] = refl
rects_moved by (b ∷ []) = refl
rects_moved by (b ∷ c ∷ bands) =
    ap (λ u. u ++ rects_of (moved_bands by (c ∷ bands))) (row_moved by b.from c.from b.value)
    ∙ ap (λ u. map (λ r. moved_rect r by) (row_rects b.from c.from b.value) ++ u) (rects_moved by (c ∷ bands))
    ∙ sym (map-append (λ r. moved_rect r by) (row_rects b.from c.from b.value) (rects_of (c ∷ bands)))
