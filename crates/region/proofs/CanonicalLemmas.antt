use Rattle.std.proofs.Common.{◌≡◌, ◌∙◌, ℕ, ℤ, ◌+ℤ◌, ◌-ℤ◌, ◌<ℤ◌, ◌≤ℤ◌, pos, List, [], ◌∷◌, Bool, true, false}
use Rattle.std.proofs.Common.{◌||◌, refl, ap, sym, subst, arith, inl, inr, zero, suc}
use Rattle.std.specs.List.{list_any}
use Rattle.std.proofs.lemmas.Bool.{false≢true}
use Rattle.std.proofs.lemmas.Int.{ints}
use Rattle.std.proofs.lemmas.List.Elements.{All-nil, All-cons, All-append, All-head, All-tail}
use Rattle.std.proofs.lemmas.Bool.{or_cases, or_parts, false_from_ne_true}
use Rattle.geom_base.specs.declared.point.Point.{Point}
use Rattle.geom_base.specs.declared.rect.Rect.{Rect}
use Rattle.geom_base.specs.Points.{IsIn, is_in, is_in_some}
use Rattle.geom_base.specs.PointLaws.{is_in-IsIn}
use Rattle.region.specs.Steps.{Step}
use Rattle.region.specs.Steps.{value_at, AllValid, Same}
use Rattle.region.specs.Columns.{column, HasColumns, has_column}
use Rattle.region.specs.Band.{Bands, has_point, IsCanonical, span_rects, row_rects, rects_of}
use Rattle.region.specs.Window.{window, IsWithinWindow, IsEdge, HasEdges, Within, places_from, edges}
use Rattle.region.specs.Canonical.{point_from, differ, steps_where, columns_of_row, row_changes, bands_of_set}
use Rattle.region.proofs.StepLemmas.{at_or_before}
use Rattle.region.proofs.UniqueLemmas.{same_columns}
use Rattle.region.proofs.RegionLemmas.{no_columns}
use Rattle.region.proofs.WalkLemmas.{Changes, EndsAs, walk, walk_reduced, walk_valid, walk_final, walk_values}

-- the coordinates of edges are so many places
pub edges_counted : (n : ℕ) × (edges ≡ places_from window.left n) × (pos n ≡ pos 65536)
unfolding edges
edges_counted = (65536, refl, refl)

abbrev count : ℕ
count = edges_counted.0

edges_are : edges ≡ places_from window.left count
edges_are = edges_counted.1

count_is : pos count ≡ pos 65536
count_is = edges_counted.2

same_if : (a b : Bool) → differ a b ≡ false → b ≡ a
same_if true true e = refl
same_if true false e = sym e
same_if false true e = e
same_if false false e = refl

other_if : (a b : Bool) → differ a b ≡ true → ¬ (b ≡ a)
other_if true true e s = false≢true e
other_if true false e s = false≢true s
other_if false true e s = false≢true (sym s)
other_if false false e s = false≢true e

outside : (set : Point → Bool) → IsWithinWindow set → (p : Point) → (IsIn p window → ⊥) → set p ≡ false
outside set h p o = false_from_ne_true (set p) (λ e. o (h p e))

last_place : (y : ℤ) → (window.left +ℤ pos count) ≤ℤ (y +ℤ pos 1) → window.right ≤ℤ y
last_place y h = omega (arith, ints, count_is)

before_last : (y : ℤ) → y <ℤ window.right → y <ℤ (window.left +ℤ pos count)
before_last y h = omega (arith, ints, count_is)

left_of : (p : Point) → p.x <ℤ window.left → IsIn p window → ⊥
left_of p h i = omega (arith, ints, i.from_left)

right_of : (p : Point) → window.right ≤ℤ p.x → IsIn p window → ⊥
right_of p h i = omega (arith, ints, i.to_right)

above : (p : Point) → p.y <ℤ window.top → IsIn p window → ⊥
above p h i = omega (arith, ints, i.from_top)

below : (p : Point) → window.bottom ≤ℤ p.y → IsIn p window → ⊥
below p h i = omega (arith, ints, i.to_bottom)

-- the columns of a row

abbrev column_changes : (Point → Bool) → ℤ → ℤ → Bool
column_changes set y x = differ (set (point_from (x -ℤ pos 1) y)) (set (point_from x y))

abbrev row : (Point → Bool) → ℤ → ℤ → Bool
row set y x = set (point_from x y)

row_walk : (set : Point → Bool) (y : ℤ) → Changes column (column_changes set y) (row set y)
row_walk set y = record {
  stays = λ x e. same_if (row set y (x -ℤ pos 1)) (row set y x) e;
  turns = λ x e same. other_if (row set y (x -ℤ pos 1)) (row set y x) e (same (pos 0));
}

row_begins : (set : Point → Bool) → IsWithinWindow set → (y x : ℤ) → x <ℤ window.left → row set y x ≡ false
row_begins set h y x o = outside set h (point_from x y) (left_of (point_from x y) o)

row_ends : (set : Point → Bool) → IsWithinWindow set → (y : ℤ) → EndsAs (row set y) false window.left count
row_ends set h y x o = outside set h (point_from x y) (right_of (point_from x y) (last_place x o))

before_first : (z : ℤ) → (z -ℤ pos 1) <ℤ z
before_first z = omega (arith, ints)

row_columns : (set : Point → Bool) → IsWithinWindow set → (y : ℤ) → HasColumns (columns_of_row set y)
row_columns set h y =
    let walked : HasColumns (walk (column_changes set y) (row set y) window.left count) = record {
      reduced = walk_reduced column (column_changes set y) (row set y) (row_walk set y) false window.left count
          (sym (row_begins set h y (window.left -ℤ pos 1) (before_first window.left)));
      ends = walk_final column (column_changes set y) (row set y) (row_walk set y) false false window.left count
          (sym (row_begins set h y (window.left -ℤ pos 1) (before_first window.left))) (row_ends set h y);
    } in
    subst (λ places. HasColumns (steps_where (column_changes set y) (row set y) places)) (sym edges_are) walked

-- a row has the points of the set
row_values : (set : Point → Bool) → IsWithinWindow set → (y x : ℤ) → has_column (columns_of_row set y) x ≡ set (point_from x y)
row_values set h y x = subst (λ places. has_column (steps_where (column_changes set y) (row set y) places) x ≡ set (point_from x y)) (sym edges_are)
    (walk_values column (column_changes set y) (row set y) (row_walk set y) false window.left count (row_begins set h y) (row_ends set h y) x)

row_none : (set : Point → Bool) → IsWithinWindow set → (y : ℤ) → ((x : ℤ) → set (point_from x y) ≡ false) → columns_of_row set y ≡ []
row_none set h y none = same_columns (columns_of_row set y) [] (row_columns set h y) no_columns (λ x. row_values set h y x ∙ none x)

-- the bands

none_of : (test : ℤ → Bool) (z : ℤ) (n : ℕ) → list_any test (places_from z n) ≡ false → (x : ℤ) → z ≤ℤ x → x <ℤ (z +ℤ pos n) → test x ≡ false
none_of test z zero none x h k = absurd (omega (arith, ints))
none_of test z (suc n) none x h k = elim (at_or_before z x) [
  | inl later ↦ none_of test (z +ℤ pos 1) n (or_parts (test z) (list_any test (places_from (z +ℤ pos 1) n)) none).1 x (omega (arith, ints))
      (omega (arith, ints))
  | inr first ↦ let one : z ≡ x = omega (arith, ints) in subst (λ u. test u ≡ false) one (or_parts (test z) (list_any test (places_from (z +ℤ pos 1) n)) none).0
]

one_of_first : (test : ℤ → Bool) (z : ℤ) (rest : Bool) (b : Bool) → test z ≡ b → (b || rest) ≡ true → (rest ≡ true → (x : ℤ) × (test x ≡ true)) →
    (x : ℤ) × (test x ≡ true)
one_of_first test z rest true e some more = (z, e)
one_of_first test z rest false e some more = more some

one_of : (test : ℤ → Bool) (places : List ℤ) → list_any test places ≡ true → (x : ℤ) × (test x ≡ true)
one_of test [] some = absurd (false≢true some)
one_of test (z ∷ places) some = one_of_first test z (list_any test places) (test z) refl some (λ more. one_of test places more)

-- a point of a row that doesn't change is as the one above it
same_above : (set : Point → Bool) → IsWithinWindow set → (y : ℤ) → row_changes set y ≡ false → (x : ℤ) → set (point_from x y) ≡ set (point_from x (y -ℤ pos 1))
same_above set h y e x = elim (at_or_before x window.left) [
  | inl before ↦ row_begins set h y x before ∙ sym (row_begins set h (y -ℤ pos 1) x before)
  | inr from ↦ elim (at_or_before x window.right) [
    | inr after ↦ outside set h (point_from x y) (right_of (point_from x y) after)
        ∙ sym (outside set h (point_from x (y -ℤ pos 1)) (right_of (point_from x (y -ℤ pos 1)) after))
    | inl inside ↦ same_if (set (point_from x (y -ℤ pos 1))) (set (point_from x y))
        (none_of (λ x. differ (set (point_from x (y -ℤ pos 1))) (set (point_from x y))) window.left count
        (ap (λ places. list_any (λ x. differ (set (point_from x (y -ℤ pos 1))) (set (point_from x y))) places) (sym edges_are) ∙ e) x from
        (before_last x inside))
  ]
]

bands_walk : (set : Point → Bool) → IsWithinWindow set → Changes has_column (row_changes set) (columns_of_row set)
bands_walk set h = record {
  stays = λ y e. same_columns (columns_of_row set y) (columns_of_row set (y -ℤ pos 1)) (row_columns set h y) (row_columns set h (y -ℤ pos 1))
      (λ x. row_values set h y x ∙ same_above set h y e x ∙ sym (row_values set h (y -ℤ pos 1) x));
  turns = λ y e same. turn y (one_of (λ x. differ (set (point_from x (y -ℤ pos 1))) (set (point_from x y))) edges e) same;
} where
  turn : (y : ℤ) → (x : ℤ) × (differ (set (point_from x (y -ℤ pos 1))) (set (point_from x y)) ≡ true) →
      ¬ Same has_column (columns_of_row set y) (columns_of_row set (y -ℤ pos 1))
  turn y (x, e) same = other_if (set (point_from x (y -ℤ pos 1))) (set (point_from x y)) e
      (sym (row_values set h y x) ∙ same x ∙ row_values set h (y -ℤ pos 1) x)

bands_begin : (set : Point → Bool) → IsWithinWindow set → (y : ℤ) → y <ℤ window.left → columns_of_row set y ≡ []
bands_begin set h y o = row_none set h y (λ x. outside set h (point_from x y) (above (point_from x y) o))

bands_end : (set : Point → Bool) → IsWithinWindow set → EndsAs (columns_of_row set) [] window.left count
bands_end set h y o = row_none set h y (λ x. outside set h (point_from x y) (below (point_from x y) (last_place y o)))

-- the bands of a set are canonical
pub bands_are_canonical : (set : Point → Bool) → IsWithinWindow set → IsCanonical (bands_of_set set)
bands_are_canonical set h =
    let before : [] ≡ columns_of_row set (window.left -ℤ pos 1) = sym (bands_begin set h (window.left -ℤ pos 1) (before_first window.left)) in
    let walked : IsCanonical (walk (row_changes set) (columns_of_row set) window.left count) = record {
      reduced = walk_reduced has_column (row_changes set) (columns_of_row set) (bands_walk set h) [] window.left count before;
      values = walk_valid HasColumns (row_changes set) (columns_of_row set) (row_columns set h) window.left count;
      ends = walk_final has_column (row_changes set) (columns_of_row set) (bands_walk set h) [] [] window.left count before (bands_end set h);
    } in
    subst (λ places. IsCanonical (steps_where (row_changes set) (columns_of_row set) places)) (sym edges_are) walked

-- and have its points
pub bands_have_points : (set : Point → Bool) → IsWithinWindow set → (p : Point) → has_point (bands_of_set set) p ≡ set p
bands_have_points set h p =
    let rows : value_at [] (bands_of_set set) p.y ≡
    columns_of_row set p.y = subst (λ places. value_at [] (steps_where (row_changes set) (columns_of_row set) places) p.y ≡ columns_of_row set p.y)
    (sym edges_are)
    (walk_values has_column (row_changes set) (columns_of_row set) (bands_walk set h) [] window.left count (bands_begin set h) (bands_end set h) p.y) in
    ap (λ columns. has_column columns p.x) rows ∙ row_values set h p.y p.x

-- the edges of its rectangles

abbrev AllPlaces : {V : Type 0} → (ℤ → Type 0) → List (Step V) → Type 0
AllPlaces P [] = Unit {0}
AllPlaces P (s ∷ steps) = P s.from × AllPlaces P steps

places_here : {V : Type 0} (P : ℤ → Type 0) (changes : ℤ → Bool) (value : ℤ → V) (z : ℤ) (n : ℕ) (b : Bool) → changes z ≡ b → P z →
    AllPlaces P (walk changes value (z +ℤ pos 1) n) → AllPlaces P (walk changes value z (suc n))
places_here P changes value z n true e here rest = rw e (here, rest)
places_here P changes value z n false e here rest = rw e rest

walk_places : {V : Type 0} (P : ℤ → Type 0) (changes : ℤ → Bool) (value : ℤ → V) (z : ℤ) (n : ℕ) → ((y : ℤ) → z ≤ℤ y → y <ℤ (z +ℤ pos n) → P y) →
    AllPlaces P (walk changes value z n)
walk_places P changes value z zero all = tt
walk_places P changes value z (suc n) all = places_here P changes value z n (changes z) refl (all z (omega (arith, ints)) (omega (arith, ints)))
    (walk_places P changes value (z +ℤ pos 1) n (λ y h k. all y (omega (arith, ints)) (omega (arith, ints))))

place_is_edge : (y : ℤ) → window.left ≤ℤ y → y <ℤ (window.left +ℤ pos count) → IsEdge y
place_is_edge y h k = record { least = h; greatest = omega (arith, ints, count_is) }

steps_at_edges : {V : Type 0} (changes : ℤ → Bool) (value : ℤ → V) → AllPlaces IsEdge (steps_where changes value edges)
steps_at_edges changes value = subst (λ places. AllPlaces IsEdge (steps_where changes value places)) (sym edges_are)
    (walk_places IsEdge changes value window.left count place_is_edge)

span_within : (top bottom : ℤ) (s t : Step Bool) (b : Bool) → s.value ≡ b → IsEdge top → IsEdge bottom → IsEdge s.from → IsEdge t.from →
    Within (span_rects top bottom s t)
span_within top bottom s t true e y z u v = rw e (All-cons HasEdges _ [] (record { left = u; top = y; right = v; bottom = z }) (All-nil HasEdges))
span_within top bottom s t false e y z u v = rw e (All-nil HasEdges)

row_within : (top bottom : ℤ) (steps : List (Step Bool)) → IsEdge top → IsEdge bottom → AllPlaces IsEdge steps → Within (row_rects top bottom steps)
row_within top bottom [] y z h = All-nil HasEdges
row_within top bottom (s ∷ []) y z h = All-nil HasEdges
row_within top bottom (s ∷ t ∷ steps) y z h =
    All-append HasEdges (span_rects top bottom s t) (row_rects top bottom (t ∷ steps)) (span_within top bottom s t s.value refl y z h.0 h.1.0)
    (row_within top bottom (t ∷ steps) y z h.1)

bands_within : (bands : Bands) → AllPlaces IsEdge bands → AllValid (AllPlaces IsEdge) bands → Within (rects_of bands)
bands_within [] h k = All-nil HasEdges
bands_within (b ∷ []) h k = All-nil HasEdges
bands_within (b ∷ c ∷ bands) h k =
    All-append HasEdges (row_rects b.from c.from b.value) (rects_of (c ∷ bands)) (row_within b.from c.from b.value h.0 h.1.0 k.0)
    (bands_within (c ∷ bands) h.1 k.1)

-- all edges of the rectangles are coordinates of edges
pub bands_lie_within : (set : Point → Bool) → Within (rects_of (bands_of_set set))
bands_lie_within set =
    let columns : (y : ℤ) → AllPlaces IsEdge (columns_of_row set y) = λ y. steps_at_edges (column_changes set y) (row set y) in
    let rows : AllValid (AllPlaces IsEdge) (bands_of_set set) = subst
    (λ places. AllValid (AllPlaces IsEdge) (steps_where (row_changes set) (columns_of_row set) places)) (sym edges_are)
    (walk_valid (AllPlaces IsEdge) (row_changes set) (columns_of_row set) columns window.left count) in
    bands_within (bands_of_set set) (steps_at_edges (row_changes set) (columns_of_row set)) rows

-- sets within

is_in_all : (p : Point) (r : Rect) → HasEdges r → is_in p r ≡ true → IsIn p window
is_in_all p r h e =
    let i : IsIn p r = (is_in-IsIn p r).0 e in
    record {
      from_left = omega (arith, ints, i.from_left, h.left.least);
      to_right = omega (arith, ints, i.to_right, h.right.greatest);
      from_top = omega (arith, ints, i.from_top, h.top.least);
      to_bottom = omega (arith, ints, i.to_bottom, h.bottom.greatest);
    }

pub one_of_two : {P : Type 0} (a b : Bool) → differ a b ≡ true → (a ≡ true → P) → (b ≡ true → P) → P
one_of_two true b e left right = left refl
one_of_two false b e left right = right e

pub some_within : (rects : List Rect) → Within rects → (p : Point) → is_in_some p rects ≡ true → IsIn p window
some_within [] h p e = absurd (false≢true e)
some_within (r ∷ rects) h p e = elim (or_cases (is_in p r) (is_in_some p rects) e) [
  | inl first ↦ is_in_all p r (All-head HasEdges r rects h) first
  | inr later ↦ some_within rects (All-tail HasEdges r rects h) p later
]
