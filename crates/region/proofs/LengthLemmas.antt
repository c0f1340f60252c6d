-- A set changes only at the edges of the rectangles that it is made of, so its bands and their columns are few.
use Rattle.std.proofs.Common.{◌≡◌, ◌≢◌, ◌∙◌, ℕ, ℤ, ◌+◌, ◌-◌, ◌*◌, ◌<◌, ◌≤◌, ◌-ℤ◌, ◌<ℤ◌, ◌≤ℤ◌, pos, List, [], ◌∷◌, length, Bool, true, false, ◌&&◌}
use Rattle.std.proofs.Common.{◌||◌, not, refl, ap, sym, subst, arith, int_lt, int_le, ◌⊎◌, inl, inr, if◌then◌else◌}
use Rattle.std.specs.List.{All}
use Rattle.std.proofs.lemmas.Int.{ints}
use Rattle.std.proofs.lemmas.List.Elements.{All-nil, All-cons, All-head, All-tail}
use Rattle.geom_base.specs.declared.point.Point.{Point}
use Rattle.geom_base.specs.declared.rect.Rect.{Rect}
use Rattle.geom_base.specs.Points.{is_in, is_in_some}
use Rattle.region.specs.Steps.{Step}
use Rattle.region.specs.Steps.{value_at, final_value, BeginsAfter, AllValid, Same, IsReduced}
use Rattle.region.specs.InnerSteps.{IsOrdered}
use Rattle.region.specs.Columns.{Columns, column, has_column, HasColumns}
use Rattle.region.specs.Band.{Bands, has_point, IsCanonical}
use Rattle.region.specs.InnerBandList.{run_count, rect_count}
use Rattle.region.specs.Canonical.{point_from}
use Rattle.region.specs.Lengths.{IsMadeOf, MadeOfIsFew, DifferenceIsFew}
use Rattle.region.proofs.StepLemmas.{lt_is, ge_is, order, at_or_before, value_at-before, reduced_is_ordered}
use Rattle.region.proofs.UniqueLemmas.{value_at-first, earlier}
use Rattle.region.proofs.CountLemmas.{half_are_runs, rects_are_counted}
use Rattle.region.proofs.RegionLemmas.{no_columns, canonical_points}

-- a place is one of some places
abbrev Among : ℤ → List ℤ → Type 0
Among z [] = ⊥
Among z (e ∷ edges) = (z ≡ e) ⊎ Among z edges

abbrev NotAmong : ℤ → List ℤ → Type 0
NotAmong z [] = Unit {0}
NotAmong z (e ∷ edges) = (z ≢ e) × NotAmong z edges

among_or_not : (z : ℤ) (edges : List ℤ) → Among z edges ⊎ NotAmong z edges
among_or_not z [] = inr tt
among_or_not z (e ∷ edges) = elim (among_or_not z edges) [
  | inl rest ↦ inl (inr rest)
  | inr none ↦ elim (order z e) [
    | inl below ↦ inr ((λ same. absurd (omega (arith, ints, below, same))), none)
    | inr from ↦ elim from [ inl here ↦ inl (inl here) | inr above ↦ inr ((λ same. absurd (omega (arith, ints, above, same))), none) ]
  ]
]

-- how many places are past one
abbrev past : ℤ → List ℤ → ℕ
past z [] = 0
past z (e ∷ edges) = (if int_lt z e then 1 else 0) + past z edges

past_one : (z w e : ℤ) → z <ℤ w → (if int_lt w e then 1 else 0) ≤ (if int_lt z e then 1 else 0)
past_one z w e h = grind (arith, ints)

past_less : (z w : ℤ) (edges : List ℤ) → z <ℤ w → past w edges ≤ past z edges
past_less z w [] h = omega arith
past_less z w (e ∷ edges) h = omega (arith, past_one z w e h, past_less z w edges h)

past_here : (z w e : ℤ) → z <ℤ w → w ≡ e → (if int_lt w e then 1 else 0) < (if int_lt z e then 1 else 0)
past_here z w e h same = rw (ge_is w e (omega (arith, ints, same)), lt_is z e (omega (arith, ints, h, same))) (omega arith)

past_fewer : (z w : ℤ) (edges : List ℤ) → z <ℤ w → Among w edges → past w edges < past z edges
past_fewer z w [] h a = absurd a
past_fewer z w (e ∷ edges) h (inl same) = omega (arith, past_here z w e h same, past_less z w edges h)
past_fewer z w (e ∷ edges) h (inr rest) = omega (arith, past_one z w e h, past_fewer z w edges h rest)

past_one_most : (z e : ℤ) → (if int_lt z e then 1 else 0) ≤ 1
past_one_most z e = grind (arith, ints)

past_most : (z : ℤ) (edges : List ℤ) → past z edges ≤ length edges
past_most z [] = omega arith
past_most z (e ∷ edges) = omega (arith, past_one_most z e, past_most z edges)

-- each step is at one of some places
abbrev AllAmong : {V : Type 0} → List ℤ → List (Step V) → Type 0
AllAmong edges [] = Unit {0}
AllAmong edges (s ∷ steps) = Among s.from edges × AllAmong edges steps

-- steps in order at these places are no more than they
few_after : {V : Type 0} (z : ℤ) (edges : List ℤ) (steps : List (Step V)) → BeginsAfter z steps → IsOrdered steps → AllAmong edges steps →
    length steps ≤ past z edges
few_after z edges [] b o a = omega arith
few_after z edges (s ∷ steps) b o a = omega (arith, past_fewer z s.from edges b a.0, few_after s.from edges steps o.0 o.1 a.1)

few_steps : {V : Type 0} (edges : List ℤ) (steps : List (Step V)) → IsOrdered steps → AllAmong edges steps → length steps ≤ length edges
few_steps edges [] o a = omega arith
few_steps edges (s ∷ steps) o a =
    let more = few_after (s.from -ℤ pos 1) edges (s ∷ steps) (omega (arith, ints)) o a in omega (arith, more, past_most (s.from -ℤ pos 1) edges)

-- what a value is after the first step
value_later : {V : Type 0} (v : V) (s : Step V) (steps : List (Step V)) (y : ℤ) → s.from ≤ℤ y → value_at v (s ∷ steps) y ≡ value_at s.value steps y
value_later v s steps y h = rw (ge_is y s.from h) refl

-- what only changes at some places has its steps there
abbrev StaysOff : {V : Type 0} → (V → ℤ → Bool) → List ℤ → V → List (Step V) → Type 0
StaysOff holds edges v steps = (z : ℤ) → NotAmong z edges → Same holds (value_at v steps z) (value_at v steps (z -ℤ pos 1))

stays_later : {V : Type 0} (holds : V → ℤ → Bool) (edges : List ℤ) (v : V) (s : Step V) (steps : List (Step V)) → BeginsAfter s.from steps →
    StaysOff holds edges v (s ∷ steps) → StaysOff holds edges s.value steps
stays_later holds edges v s steps b h z none x = elim (at_or_before s.from z) [
  | inl below ↦ ap (λ u. holds u x) (sym (value_later v s steps z (omega (arith, ints, below)))) ∙ h z none x
      ∙ ap (λ u. holds u x) (value_later v s steps (z -ℤ pos 1) (omega (arith, ints, below)))
  | inr from ↦ ap (λ u. holds u x) (early z from ∙ sym (early (z -ℤ pos 1) (omega (arith, ints, from))))
]
  where
    early : (y : ℤ) → y ≤ℤ s.from → value_at s.value steps y ≡ s.value
    early y k = elim (order y s.from) [
      | inl before ↦ value_at-before s.value steps y (earlier y s.from steps before b)
      | inr rest ↦ elim rest [
        | inl here ↦ value_at-before s.value steps y (subst (λ z. BeginsAfter z steps) (sym here) b)
        | inr after ↦ absurd (omega (arith, ints, after, k))
      ]
    ]

among_edges : {V : Type 0} (holds : V → ℤ → Bool) (edges : List ℤ) (v : V) (steps : List (Step V)) → IsReduced holds v steps →
    StaysOff holds edges v steps → AllAmong edges steps
among_edges holds edges v [] r h = tt
among_edges holds edges v (s ∷ steps) r h = (
  elim (among_or_not s.from edges) [
    | inl here ↦ here
    | inr none ↦ absurd (r.0 (λ x. ap (λ u. holds u x) (sym (value_at-first v s steps r.1)) ∙ h s.from none x
        ∙ ap (λ u. holds u x) (value_at-before v (s ∷ steps) (s.from -ℤ pos 1) (omega (arith, ints)))))
  ],
  among_edges holds edges s.value steps r.2 (stays_later holds edges v s steps r.1 h),
)

-- the edges of rectangles

abbrev column_edges : List Rect → List ℤ
column_edges [] = []
column_edges (r ∷ rects) = r.left ∷ r.right ∷ column_edges rects

abbrev row_edges : List Rect → List ℤ
row_edges [] = []
row_edges (r ∷ rects) = r.top ∷ r.bottom ∷ row_edges rects

column_edges_twice : (rects : List Rect) → length (column_edges rects) ≡ 2 * length rects
column_edges_twice [] = omega arith
column_edges_twice (r ∷ rects) = omega (arith, column_edges_twice rects)

row_edges_twice : (rects : List Rect) → length (row_edges rects) ≡ 2 * length rects
row_edges_twice [] = omega arith
row_edges_twice (r ∷ rects) = omega (arith, row_edges_twice rects)

from_before : (edge z : ℤ) → z ≢ edge → int_le edge z ≡ int_le edge (z -ℤ pos 1)
from_before edge z h = grind (arith, ints)

to_before : (edge z : ℤ) → z ≢ edge → int_lt z edge ≡ int_lt (z -ℤ pos 1) edge
to_before edge z h = grind (arith, ints)

same_column : (parts : List Rect) (x y : ℤ) → NotAmong x (column_edges parts) →
    All (λ r. is_in (point_from x y) r ≡ is_in (point_from (x -ℤ pos 1) y) r) parts
same_column [] x y h = All-nil (λ r. is_in (point_from x y) r ≡ is_in (point_from (x -ℤ pos 1) y) r)
same_column (r ∷ parts) x y h = All-cons (λ r. is_in (point_from x y) r ≡ is_in (point_from (x -ℤ pos 1) y) r) r parts
    (rw (from_before r.left x h.0, to_before r.right x h.1.0) refl) (same_column parts x y h.1.1)

same_row : (parts : List Rect) (x y : ℤ) → NotAmong y (row_edges parts) →
    All (λ r. is_in (point_from x y) r ≡ is_in (point_from x (y -ℤ pos 1)) r) parts
same_row [] x y h = All-nil (λ r. is_in (point_from x y) r ≡ is_in (point_from x (y -ℤ pos 1)) r)
same_row (r ∷ parts) x y h = All-cons (λ r. is_in (point_from x y) r ≡ is_in (point_from x (y -ℤ pos 1)) r) r parts
    (rw (from_before r.top y h.0, to_before r.bottom y h.1.0) refl) (same_row parts x y h.1.1)

-- the values of steps in order are those at their places
value_is_valid : {V : Type 0} (valid : V → Type 0) (v : V) (steps : List (Step V)) (y : ℤ) → valid v → AllValid valid steps → valid (value_at v steps y)
value_is_valid valid v [] y h k = h
value_is_valid valid v (s ∷ steps) y h k = elim (int_lt y s.from) as (λ t. valid (if t then v else value_at s.value steps y)) [
  | true ↦ h
  | false ↦ value_is_valid valid s.value steps y k.0 k.1
]

values_of_places : {V : Type 0} (valid : V → Type 0) (v : V) (steps : List (Step V)) → IsOrdered steps → ((y : ℤ) → valid (value_at v steps y)) →
    AllValid valid steps
values_of_places valid v [] o h = tt
values_of_places valid v (s ∷ steps) o h =
    let first : valid s.value = subst valid (value_at-first v s steps o.0) (h s.from) in (
      first,
      values_of_places valid s.value steps o.1 (λ y. elim (at_or_before y s.from) [
        | inl below ↦ subst valid (sym (value_at-before s.value steps y (earlier y s.from steps below o.0))) first
        | inr from ↦ subst valid (value_later v s steps y from) (h y)
      ]),
    )

-- so many rectangles
abbrev HasFew : ℕ → Columns → Type 0
HasFew n columns = run_count columns ≤ n

count_few : (n : ℕ) (b : Step Columns) (bands : Bands) → AllValid (HasFew n) (b ∷ bands) → final_value b.value bands ≡ [] →
    rect_count (b ∷ bands) ≤ length bands * n
count_few n b [] h e = rw e (omega arith)
count_few n b (c ∷ bands) h e = let rest = count_few n c bands h.1 e in grind (arith, h.0, rest)

one_less : (k m n : ℕ) → k + 1 ≤ 2 * m → k * n ≤ n * (2 * m - 1)
one_less k m n h = grind arith

bands_few : (n m : ℕ) (bands : Bands) → AllValid (HasFew n) bands → final_value [] bands ≡ [] → length bands ≤ 2 * m →
    rect_count bands ≤ n * (2 * m - 1)
bands_few n m [] h e l = omega arith
bands_few n m (b ∷ bands) h e l =
    let first = count_few n b bands h e in let second = one_less (length bands) m n (omega (arith, l)) in omega (arith, first, second)

half_few : (k n : ℕ) → 2 * k ≤ 2 * n → k ≤ n
half_few k n h = omega (arith, h)

-- the columns of a row
columns_few : (parts : List Rect) (set : Point → Bool) (y : ℤ) (columns : Columns) → IsMadeOf parts set → HasColumns columns →
    ((x : ℤ) → has_column columns x ≡ set (point_from x y)) → HasFew (length parts) columns
columns_few parts set y columns made h points =
    let few = few_steps (column_edges parts) columns (reduced_is_ordered column false columns h.reduced)
    (among_edges column (column_edges parts) false columns h.reduced
    (λ z none x. points z ∙ made (point_from z y) (point_from (z -ℤ pos 1) y) (same_column parts z y none) ∙ sym (points (z -ℤ pos 1)))) in
    half_few (run_count columns) (length parts) (omega (arith, few, half_are_runs columns h, column_edges_twice parts))

canonical_few : (parts : List Rect) (set : Point → Bool) (bands : Bands) → IsMadeOf parts set → IsCanonical bands →
    ((p : Point) → has_point bands p ≡ set p) → rect_count bands ≤ length parts * (2 * length parts - 1)
canonical_few parts set bands made h points =
    let o = reduced_is_ordered has_column [] bands h.reduced in
    let rows = few_steps (row_edges parts) bands o (among_edges has_column (row_edges parts) [] bands h.reduced
    (λ z none x. points (point_from x z) ∙ made (point_from x z) (point_from x (z -ℤ pos 1)) (same_row parts x z none)
    ∙ sym (points (point_from x (z -ℤ pos 1))))) in
    let each = values_of_places (HasFew (length parts)) [] bands o
    (λ y. columns_few parts set y (value_at [] bands y) made (value_is_valid HasColumns [] bands y no_columns h.values) (λ x. points (point_from x y))) in
    bands_few (length parts) (length parts) bands each h.ends (omega (arith, rows, row_edges_twice parts))

pub made_of_is_few : MadeOfIsFew
made_of_is_few parts rects set made h =
    let own = h.canonical in
    subst (λ n. n ≤ length parts * (2 * length parts - 1)) (sym (ap length own.listed ∙ rects_are_counted own.bands own.canonical))
    (canonical_few parts set own.bands made own.canonical
    (λ p. sym (ap (is_in_some p) own.listed ∙ canonical_points own.bands own.canonical p) ∙ h.points p))

-- a rectangle less others

same_some : (p q : Point) (rects : List Rect) → All (λ r. is_in p r ≡ is_in q r) rects → is_in_some p rects ≡ is_in_some q rects
same_some p q [] all = refl
same_some p q (r ∷ rects) all =
    ap (λ u. u || is_in_some p rects) (All-head (λ r. is_in p r ≡ is_in q r) r rects all)
    ∙ ap (λ u. is_in q r || u) (same_some p q rects (All-tail (λ r. is_in p r ≡ is_in q r) r rects all))

difference_is_made : (r : Rect) (others : List Rect) → IsMadeOf (r ∷ others) (λ p. is_in p r && not (is_in_some p others))
difference_is_made r others p q all =
    ap (λ u. u && not (is_in_some p others)) (All-head (λ r. is_in p r ≡ is_in q r) r others all)
    ∙ ap (λ u. is_in q r && not u) (same_some p q others (All-tail (λ r. is_in p r ≡ is_in q r) r others all))

with_one_more : (n : ℕ) → (n + 1) * (2 * (n + 1) - 1) ≡ (n + 1) * (2 * n + 1)
with_one_more n = ap (λ k. (n + 1) * k) (omega arith)

pub difference_is_few : DifferenceIsFew
difference_is_few r others rects h =
    subst (λ k. length rects ≤ k) (with_one_more (length others))
    (subst (λ n. length rects ≤ n * (2 * n - 1)) (omega arith)
    (made_of_is_few (r ∷ others) rects (λ p. is_in p r && not (is_in_some p others)) (difference_is_made r others) h))
