use Rattle.std.proofs.Common.{◌≡◌, ◌∙◌, ℤ, ◌<ℤ◌, List, [], ◌∷◌, ◌++◌, Bool, true, false, refl, ap, sym}
use Rattle.std.proofs.Common.{arith, int_lt, int_le, cond, ◌&&◌, ◌||◌, if◌then◌else◌}
use Rattle.std.specs.List.{All, AllPairs}
use Rattle.std.proofs.lemmas.Bool.{false≢true}
use Rattle.std.proofs.lemmas.List.Kept.{AllPairs-cons}
use Rattle.std.proofs.lemmas.List.Elements.{All-nil, All-cons}
use Rattle.std.proofs.lemmas.Int.{ints}
use Rattle.std.proofs.lemmas.List.Folds.{list_any-append}
use Rattle.geom_base.specs.declared.point.Point.{Point}
use Rattle.geom_base.specs.declared.rect.Rect.{Rect}
use Rattle.geom_base.specs.Points.{is_in, is_in_some, AreApart}
use Rattle.region.specs.Steps.{Step}
use Rattle.region.specs.Steps.{value_at, final_value, AllValid}
use Rattle.region.specs.InnerSteps.{IsOrdered}
use Rattle.region.specs.Columns.{column, HasColumns}
use Rattle.region.specs.Band.{Bands, row_rects, rects_of}
use Rattle.region.specs.Columns.{Columns}
use Rattle.region.proofs.StepLemmas.{reduced_is_ordered}

-- a row lies in a band
abbrev pub in_rows : ℤ → ℤ → ℤ → Bool
in_rows top bottom y = int_le top y && int_lt y bottom

-- one rectangle and those from its right edge on
one_more : (x y left right top bottom : ℤ) (v rest : Bool) → left <ℤ right →
    ((int_le left x && int_lt x right && int_le top y && int_lt y bottom) || (in_rows top bottom y && (if int_lt x right then false else rest)))
    ≡ (in_rows top bottom y && (if int_lt x left then false else (if int_lt x right then true else rest)))
one_more x y left right top bottom v rest h = grind (arith, ints)

none_more : (x y left right top bottom : ℤ) (rest : Bool) → left <ℤ right →
    (in_rows top bottom y && (if int_lt x right then false else rest)) ≡
    (in_rows top bottom y && (if int_lt x left then false else (if int_lt x right then false else rest)))
none_more x y left right top bottom rest h = grind (arith, ints)

none_left : (b c : Bool) → false ≡ (b && cond c false false)
none_left true true = refl
none_left true false = refl
none_left false c = refl

row_step : (top bottom : ℤ) (s t : Step Bool) (steps : List (Step Bool)) (p : Point) (v : Bool) → s.value ≡ v → s.from <ℤ t.from →
    is_in_some p (row_rects top bottom (t ∷ steps)) ≡ (in_rows top bottom p.y && value_at false (t ∷ steps) p.x) →
    is_in_some p (row_rects top bottom (s ∷ t ∷ steps)) ≡ (in_rows top bottom p.y && value_at false (s ∷ t ∷ steps) p.x)
row_step top bottom s t steps p true e h r =
    rw e (ap (λ u. is_in p (record { left = s.from; top = top; right = t.from; bottom = bottom }) || u) r
    ∙ one_more p.x p.y s.from t.from top bottom true (value_at t.value steps p.x) h)
row_step top bottom s t steps p false e h r = rw e (r ∙ none_more p.x p.y s.from t.from top bottom (value_at t.value steps p.x) h)

row_from : (top bottom : ℤ) (s : Step Bool) (steps : List (Step Bool)) (p : Point) → IsOrdered (s ∷ steps) → final_value s.value steps ≡ false →
    is_in_some p (row_rects top bottom (s ∷ steps)) ≡ (in_rows top bottom p.y && value_at false (s ∷ steps) p.x)
row_from top bottom s [] p o e = rw e (none_left (in_rows top bottom p.y) (int_lt p.x s.from))
row_from top bottom s (t ∷ steps) p o e = row_step top bottom s t steps p s.value refl o.0 (row_from top bottom t steps p o.1 e)

-- the rectangles of a band have its columns in its rows
pub row_points : (top bottom : ℤ) (steps : List (Step Bool)) (p : Point) → HasColumns steps →
    is_in_some p (row_rects top bottom steps) ≡ (in_rows top bottom p.y && value_at false steps p.x)
row_points top bottom [] p h = none_left (in_rows top bottom p.y) true
row_points top bottom (s ∷ steps) p h = row_from top bottom s steps p (reduced_is_ordered column false (s ∷ steps) h.reduced) h.ends

one_band : (y top bottom : ℤ) (here rest : Bool) → top <ℤ bottom →
    ((in_rows top bottom y && here) || (if int_lt y bottom then false else rest)) ≡ (if int_lt y top then false else (if int_lt y bottom then here else rest))
one_band y top bottom here rest h = grind (arith, ints)

cond_inside : {V : Type 0} (f : V → Bool) (c : Bool) (u v : V) → cond c (f u) (f v) ≡ f (cond c u v)
cond_inside f true u v = refl
cond_inside f false u v = refl

none_after : (c : Bool) → false ≡ cond c false false
none_after true = refl
none_after false = refl

bands_from : (b : Step Columns) (bands : Bands) (p : Point) → IsOrdered (b ∷ bands) →
    AllValid HasColumns (b ∷ bands) →
    ((x : ℤ) → value_at false (final_value b.value bands) x ≡ false) →
    is_in_some p (rects_of (b ∷ bands)) ≡ (if int_lt p.y b.from then false else value_at false (value_at b.value bands p.y) p.x)
bands_from b [] p o valid none = rw (none p.x) (none_after (int_lt p.y b.from))
bands_from b (c ∷ bands) p o valid none =
    list_any-append (λ r. is_in p r) (row_rects b.from c.from b.value) (rects_of (c ∷ bands))
    ∙ ap (λ u. u || is_in_some p (rects_of (c ∷ bands))) (row_points b.from c.from b.value p valid.0)
    ∙ ap (λ u. (in_rows b.from c.from p.y && value_at false b.value p.x) || u) (bands_from c bands p o.1 valid.1 none)
    ∙ one_band p.y b.from c.from (value_at false b.value p.x) (value_at false (value_at c.value bands p.y) p.x) o.0
    ∙ ap (λ u. cond (int_lt p.y b.from) false u) (cond_inside (λ v. value_at false v p.x) (int_lt p.y c.from) b.value (value_at c.value bands p.y))

-- a point is in one of the rectangles where it is in the set
pub rects_points : (bands : Bands) (p : Point) → IsOrdered bands →
    AllValid HasColumns bands →
    ((x : ℤ) → value_at false (final_value [] bands) x ≡ false) →
    is_in_some p (rects_of bands) ≡ value_at false (value_at [] bands p.y) p.x
rects_points [] p o valid none = refl
rects_points (b ∷ bands) p o valid none = bands_from b bands p o valid none
    ∙ cond_inside (λ v. value_at false v p.x) (int_lt p.y b.from) [] (value_at b.value bands p.y)

-- no two share a point
abbrev pub AllApart : List Rect → Type 0
AllApart [] = Unit {0}
AllApart (r ∷ rects) = ((p : Point) → (is_in p r && is_in_some p rects) ≡ false) × AllApart rects

apart_more : (a b c : Bool) → (a && b) ≡ false → (a && c) ≡ false → (a && (b || c)) ≡ false
apart_more true true c h k = absurd (false≢true (sym h))
apart_more true false c h k = k
apart_more false b c h k = refl

apart_first : (a b c : Bool) → ((a || b) && c) ≡ false → (a && c) ≡ false
apart_first true b c h = h
apart_first false b c h = refl

apart_second : (a b c : Bool) → ((a || b) && c) ≡ false → (b && c) ≡ false
apart_second true b true h = absurd (false≢true (sym h))
apart_second true true false h = refl
apart_second true false false h = refl
apart_second false b c h = h

AllApart-append : (xs ys : List Rect) → AllApart xs → AllApart ys → ((p : Point) → (is_in_some p xs && is_in_some p ys) ≡ false) → AllApart (xs ++ ys)
AllApart-append [] ys h k apart = k
AllApart-append (x ∷ xs) ys h k apart = (
  λ p. ap (λ u. is_in p x && u) (list_any-append (λ r. is_in p r) xs ys)
      ∙ apart_more (is_in p x) (is_in_some p xs) (is_in_some p ys) (h.0 p) (apart_first (is_in p x) (is_in_some p xs) (is_in_some p ys) (apart p)),
  AllApart-append xs ys h.1 k (λ p. apart_second (is_in p x) (is_in_some p xs) (is_in_some p ys) (apart p)),
)

past_edge : (x y left right top bottom : ℤ) (c rest : Bool) →
    ((int_le left x && int_lt x right && int_le top y && int_lt y bottom) && (c && (if int_lt x right then false else rest))) ≡ false
past_edge x y left right top bottom c rest = grind (arith, ints)

past_band : (y top bottom : ℤ) (here rest : Bool) → ((in_rows top bottom y && here) && (if int_lt y bottom then false else rest)) ≡ false
past_band y top bottom here rest = grind (arith, ints)

row_apart_step : (top bottom : ℤ) (s t : Step Bool) (steps : List (Step Bool)) (v : Bool) → s.value ≡ v →
    ((p : Point) → is_in_some p (row_rects top bottom (t ∷ steps)) ≡ (in_rows top bottom p.y && value_at false (t ∷ steps) p.x)) →
    AllApart (row_rects top bottom (t ∷ steps)) → AllApart (row_rects top bottom (s ∷ t ∷ steps))
row_apart_step top bottom s t steps true e r a =
    rw e (
      λ p. ap (λ u. is_in p (record { left = s.from; top = top; right = t.from; bottom = bottom }) && u) (r p)
          ∙ past_edge p.x p.y s.from t.from top bottom (in_rows top bottom p.y) (value_at t.value steps p.x),
      a,
    )
row_apart_step top bottom s t steps false e r a = rw e a

row_apart : (top bottom : ℤ) (s : Step Bool) (steps : List (Step Bool)) → IsOrdered (s ∷ steps) → final_value s.value steps ≡ false →
    AllApart (row_rects top bottom (s ∷ steps))
row_apart top bottom s [] o e = tt
row_apart top bottom s (t ∷ steps) o e = row_apart_step top bottom s t steps s.value refl (λ p. row_from top bottom t steps p o.1 e)
    (row_apart top bottom t steps o.1 e)

row_is_apart : (top bottom : ℤ) (steps : List (Step Bool)) → HasColumns steps → AllApart (row_rects top bottom steps)
row_is_apart top bottom [] h = tt
row_is_apart top bottom (s ∷ steps) h = row_apart top bottom s steps (reduced_is_ordered column false (s ∷ steps) h.reduced) h.ends

pub rects_apart : (bands : Bands) → IsOrdered bands → AllValid HasColumns bands →
    ((e : Columns) (x : ℤ) → value_at false (final_value e bands) x ≡ false) → AllApart (rects_of bands)
rects_apart [] o valid none = tt
rects_apart (b ∷ []) o valid none = tt
rects_apart (b ∷ c ∷ bands) o valid none = AllApart-append (row_rects b.from c.from b.value) (rects_of (c ∷ bands))
    (row_is_apart b.from c.from b.value valid.0) (rects_apart (c ∷ bands) o.1 valid.1 (λ e. none b.value))
    (λ p. ap (λ w. w && is_in_some p (rects_of (c ∷ bands))) (row_points b.from c.from b.value p valid.0)
    ∙ ap (λ w. (in_rows b.from c.from p.y && value_at false b.value p.x) && w) (bands_from c bands p o.1 valid.1 (none b.value))
    ∙ past_band p.y b.from c.from (value_at false b.value p.x) (value_at false (value_at c.value bands p.y) p.x))

shared_first : (a b c : Bool) → (a && (b || c)) ≡ false → (a && b) ≡ false
shared_first true true c h = h
shared_first true false c h = refl
shared_first false b c h = refl

shared_rest : (a b c : Bool) → (a && (b || c)) ≡ false → (a && c) ≡ false
shared_rest true true c h = absurd (false≢true (sym h))
shared_rest true false c h = h
shared_rest false b c h = refl

none_shared : (r : Rect) (xs : List Rect) → ((p : Point) → (is_in p r && is_in_some p xs) ≡ false) → All (AreApart r) xs
none_shared r [] h = All-nil (AreApart r)
none_shared r (x ∷ xs) h = All-cons (AreApart r) x xs (λ p. shared_first (is_in p r) (is_in p x) (is_in_some p xs) (h p))
    (none_shared r xs (λ p. shared_rest (is_in p r) (is_in p x) (is_in_some p xs) (h p)))

pub all_pairs_apart : (xs : List Rect) → AllApart xs → AllPairs AreApart xs
all_pairs_apart [] h = λ i j d a b. absurd (omega arith)
all_pairs_apart (x ∷ xs) h = AllPairs-cons AreApart x xs (none_shared x xs h.0) (all_pairs_apart xs h.1)
