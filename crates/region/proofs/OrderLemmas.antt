use Rattle.std.proofs.Common.{◌≡◌, ℤ, ◌<ℤ◌, ◌≤ℤ◌, List, [], ◌∷◌, ◌++◌, Bool, true, false, refl, sym, subst, arith, inl, inr}
use Rattle.std.specs.List.{All, AllPairs}
use Rattle.std.proofs.lemmas.Int.{ints}
use Rattle.std.proofs.lemmas.List.Kept.{AllPairs-cons}
use Rattle.std.proofs.lemmas.List.Elements.{All-nil, All-cons, All-append, All-weaker, All-head, All-tail}
use Rattle.geom_base.specs.declared.rect.Rect.{Rect}
use Rattle.region.specs.Steps.{Step}
use Rattle.region.specs.Steps.{BeginsAfter, AllValid, Same, IsReduced}
use Rattle.region.specs.InnerSteps.{IsOrdered}
use Rattle.region.specs.Columns.{column, HasColumns}
use Rattle.region.specs.Band.{span_rects, row_rects, rects_of, Bands, IsCanonical}
use Rattle.geom_base.specs.Points.{HasPoints}
use Rattle.region.specs.Order.{ComesFirst, IsInOrder, RegionIsInOrder}
use Rattle.region.proofs.StepLemmas.{reduced_is_ordered}
use Rattle.region.proofs.RegionLemmas.{canonical_is_ordered}

-- in a band, from a column on
abbrev InRow : ℤ → ℤ → ℤ → Rect → Type 0
InRow top bottom from r = (r.top ≡ top) × (r.bottom ≡ bottom) × (from ≤ℤ r.left) × HasPoints r

-- in a band, after a column
abbrev LaterInRow : ℤ → ℤ → ℤ → Rect → Type 0
LaterInRow top bottom from r = (r.top ≡ top) × (r.bottom ≡ bottom) × (from <ℤ r.left)

-- each comes before all later ones
abbrev InOrder : List Rect → Type 0
InOrder [] = Unit {0}
InOrder (r ∷ rects) = All (ComesFirst r) rects × InOrder rects

span_in_row : (top bottom : ℤ) (s t : Step Bool) (v : Bool) → s.value ≡ v → s.from <ℤ t.from → top <ℤ bottom →
    All (InRow top bottom s.from) (span_rects top bottom s t)
span_in_row top bottom s t true e h k = rw e
    (All-cons (InRow top bottom s.from) _ [] (refl, refl, omega (arith, ints), record { across = h; down = k }) (All-nil (InRow top bottom s.from)))
span_in_row top bottom s t false e h k = rw e (All-nil (InRow top bottom s.from))

row_begins : (top bottom : ℤ) (s : Step Bool) (steps : List (Step Bool)) → top <ℤ bottom → IsOrdered (s ∷ steps) →
    All (InRow top bottom s.from) (row_rects top bottom (s ∷ steps))
row_begins top bottom s [] k o = All-nil (InRow top bottom s.from)
row_begins top bottom s (t ∷ steps) k o = All-append (InRow top bottom s.from) (span_rects top bottom s t) (row_rects top bottom (t ∷ steps))
    (span_in_row top bottom s t s.value refl o.0 k)
    (All-weaker (InRow top bottom t.from) (InRow top bottom s.from) (λ r h. (h.0, h.1, omega (arith, ints, h.2, o.0), h.3)) (row_rects top bottom (t ∷ steps))
    (row_begins top bottom t steps k o.1))

row_later : (top bottom : ℤ) (t : Step Bool) (steps : List (Step Bool)) → top <ℤ bottom → IsOrdered (t ∷ steps) → t.value ≡ false →
    All (LaterInRow top bottom t.from) (row_rects top bottom (t ∷ steps))
row_later top bottom t [] k o e = All-nil (LaterInRow top bottom t.from)
row_later top bottom t (u ∷ steps) k o e =
    rw e (All-weaker (InRow top bottom u.from) (LaterInRow top bottom t.from) (λ r h. (h.0, h.1, omega (arith, ints, h.2, o.0)))
    (row_rects top bottom (u ∷ steps)) (row_begins top bottom u steps k o.1))

not_again : (v w : Bool) → (¬ Same column w v) → v ≡ true → w ≡ false
not_again v true d e = absurd (d (λ x. sym e))
not_again v false d e = refl

put_first : (top bottom : ℤ) (s t : Step Bool) (steps : List (Step Bool)) (v : Bool) → s.value ≡ v → top <ℤ bottom → IsReduced column s.value (t ∷ steps) →
    InOrder (row_rects top bottom (t ∷ steps)) → InOrder (row_rects top bottom (s ∷ t ∷ steps))
put_first top bottom s t steps true e k h rest =
    let o : IsOrdered (t ∷ steps) = reduced_is_ordered column s.value (t ∷ steps) h in
    rw e (
      All-weaker (LaterInRow top bottom t.from) (ComesFirst (record { left = s.from; top = top; right = t.from; bottom = bottom }))
          (λ r g. inl (sym g.0, sym g.1, g.2)) (row_rects top bottom (t ∷ steps))
          (row_later top bottom t steps k o (not_again s.value t.value h.0 e)),
      rest,
    )
put_first top bottom s t steps false e k h rest = rw e rest

row_in_order : (top bottom : ℤ) (s : Step Bool) (steps : List (Step Bool)) → top <ℤ bottom → BeginsAfter s.from steps → IsReduced column s.value steps →
    InOrder (row_rects top bottom (s ∷ steps))
row_in_order top bottom s [] k b h = tt
row_in_order top bottom s (t ∷ steps) k b h = put_first top bottom s t steps s.value refl k h (row_in_order top bottom t steps k h.1 h.2)

InOrder-append : (xs ys : List Rect) → InOrder xs → InOrder ys → All (λ x. All (ComesFirst x) ys) xs → InOrder (xs ++ ys)
InOrder-append [] ys h k between = k
InOrder-append (x ∷ xs) ys h k between = (
  All-append (ComesFirst x) xs ys h.0 (All-head (λ x. All (ComesFirst x) ys) x xs between),
  InOrder-append xs ys h.1 k (All-tail (λ x. All (ComesFirst x) ys) x xs between),
)

in_order_pairs : (xs : List Rect) → InOrder xs → AllPairs ComesFirst xs
in_order_pairs [] h = λ i j d a b. absurd (omega arith)
in_order_pairs (x ∷ xs) h = AllPairs-cons ComesFirst x xs h.0 (in_order_pairs xs h.1)

-- a band's rectangles
row_all : (top bottom : ℤ) (steps : List (Step Bool)) → top <ℤ bottom → HasColumns steps →
    All (λ r. (r.top ≡ top) × (r.bottom ≡ bottom) × HasPoints r) (row_rects top bottom steps)
row_all top bottom [] k h = All-nil (λ r. (r.top ≡ top) × (r.bottom ≡ bottom) × HasPoints r)
row_all top bottom (s ∷ steps) k h = All-weaker (InRow top bottom s.from) (λ r. (r.top ≡ top) × (r.bottom ≡ bottom) × HasPoints r) (λ r g. (g.0, g.1, g.3))
    (row_rects top bottom (s ∷ steps)) (row_begins top bottom s steps k (reduced_is_ordered column false (s ∷ steps) h.reduced))

row_order : (top bottom : ℤ) (steps : List (Step Bool)) → top <ℤ bottom → HasColumns steps → InOrder (row_rects top bottom steps)
row_order top bottom [] k h = tt
row_order top bottom (s ∷ steps) k h = row_in_order top bottom s steps k h.reduced.1 h.reduced.2

-- those of bands from a row on
abbrev Below : ℤ → Rect → Type 0
Below y r = (y ≤ℤ r.top) × HasPoints r

bands_begin : (b : Step (List (Step Bool))) (bands : Bands) → IsOrdered (b ∷ bands) → AllValid HasColumns (b ∷ bands) →
    All (Below b.from) (rects_of (b ∷ bands))
bands_begin b [] o v = All-nil (Below b.from)
bands_begin b (c ∷ bands) o v = All-append (Below b.from) (row_rects b.from c.from b.value) (rects_of (c ∷ bands))
    (All-weaker (λ r. (r.top ≡ b.from) × (r.bottom ≡ c.from) × HasPoints r) (Below b.from) (λ r g. (omega (arith, ints, g.0), g.2))
    (row_rects b.from c.from b.value) (row_all b.from c.from b.value o.0 v.0))
    (All-weaker (Below c.from) (Below b.from) (λ r g. (omega (arith, ints, g.0, o.0), g.1)) (rects_of (c ∷ bands)) (bands_begin c bands o.1 v.1))

bands_in_order : (b : Step (List (Step Bool))) (bands : Bands) → IsOrdered (b ∷ bands) → AllValid HasColumns (b ∷ bands) →
    InOrder (rects_of (b ∷ bands))
bands_in_order b [] o v = tt
bands_in_order b (c ∷ bands) o v =
    let later = rects_of (c ∷ bands) in
    InOrder-append (row_rects b.from c.from b.value) later (row_order b.from c.from b.value o.0 v.0) (bands_in_order c bands o.1 v.1)
    (All-weaker (λ r. (r.top ≡ b.from) × (r.bottom ≡ c.from) × HasPoints r) (λ r. All (ComesFirst r) later)
    (λ r g. All-weaker (Below c.from) (ComesFirst r) (λ q below. inr (omega (arith, ints, below.0, g.1))) later (bands_begin c bands o.1 v.1))
    (row_rects b.from c.from b.value) (row_all b.from c.from b.value o.0 v.0))

canonical_in_order : (bands : Bands) → IsCanonical bands → IsInOrder (rects_of bands)
canonical_in_order [] h = record { order = in_order_pairs [] tt; points = All-nil HasPoints }
canonical_in_order (b ∷ bands) h =
    let o = canonical_is_ordered (b ∷ bands) h in
    record {
      order = in_order_pairs _ (bands_in_order b bands o h.values);
      points = All-weaker (Below b.from) HasPoints (λ r g. g.1) (rects_of (b ∷ bands)) (bands_begin b bands o h.values);
    }

pub region_in_order : RegionIsInOrder
region_in_order rects h = subst IsInOrder (sym h.listed) (canonical_in_order h.bands h.canonical)
