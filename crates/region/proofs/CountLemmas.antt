use Rattle.std.proofs.Common.{◌≡◌, ◌∙◌, ℕ, ℤ, ◌+◌, ◌*◌, ◌^◌, ◌≤◌, ◌≤ℤ◌, ◌-ℤ◌, pos, List, [], ◌∷◌, ◌++◌, length, Bool}
use Rattle.std.proofs.Common.{true, false, refl, ap, arith, if◌then◌else◌, length-append, suc}
use Rattle.std.proofs.lemmas.Int.{ints}
use Rattle.region.specs.Steps.{Step}
use Rattle.region.specs.Steps.{final_value, AllValid, IsReduced}
use Rattle.region.specs.InnerSteps.{IsOrdered, AllFit}
use Rattle.region.specs.Columns.{column, HasColumns, Columns}
use Rattle.region.specs.InnerColumns.{IsColumns}
use Rattle.region.specs.Band.{span_rects, row_rects, rects_of, Bands, IsCanonical}
use Rattle.region.specs.InnerBandList.{run_count, rect_count}
use Rattle.region.proofs.StepLemmas.{reduced_is_ordered}

abbrev pub flag : Bool → ℕ
flag b = if b then 1 else 0

-- places that fit and are in order are few
places_up : {V : Type 0} (s : Step V) (steps : List (Step V)) → IsOrdered (s ∷ steps) → AllFit (s ∷ steps) →
    pos (length (s ∷ steps)) ≤ℤ (pos (2 ^ 31) -ℤ s.from)
places_up s [] o f = omega (arith, ints, f.0)
places_up s (t ∷ steps) o f =
    let rest : pos (length (t ∷ steps)) ≤ℤ (pos (2 ^ 31) -ℤ t.from) = places_up t steps o.1 f.1 in
    omega (arith, ints, rest, o.0)

pub few_places : {V : Type 0} (steps : List (Step V)) → IsOrdered steps → AllFit steps → length steps ≤ 2 ^ 32
few_places [] o f = omega arith
few_places (s ∷ steps) o f = let up : pos (length (s ∷ steps)) ≤ℤ (pos (2 ^ 31) -ℤ s.from) = places_up s steps o f in omega (arith, ints, up, f.0)

one_turn : (v w : Bool) (n last runs : ℕ) → ¬ (w ≡ v) → n + last ≡ 2 * runs + flag w → suc n + last ≡ 2 * (flag w + runs) + flag v
one_turn true true n last runs d e = absurd (d refl)
one_turn true false n last runs d e = omega (arith, e)
one_turn false true n last runs d e = omega (arith, e)
one_turn false false n last runs d e = absurd (d refl)

-- steps that change each time go up and down in turns
turns : (v : Bool) (steps : List (Step Bool)) → IsReduced column v steps → length steps + flag (final_value v steps) ≡ 2 * run_count steps + flag v
turns v [] h = refl
turns v (s ∷ steps) h = one_turn v s.value (length steps) (flag (final_value s.value steps)) (run_count steps) (λ e. h.0 (λ x. e)) (turns s.value steps h.2)

-- the runs of columns are half of the steps
pub half_are_runs : (steps : List (Step Bool)) → HasColumns steps → length steps ≡ 2 * run_count steps
half_are_runs steps h = let e = turns false steps h.reduced in let f : flag (final_value false steps) ≡ 0 = rw h.ends refl in omega (arith, e, f)

pub few_runs : (steps : List (Step Bool)) → IsColumns steps → run_count steps ≤ 2 ^ 31
few_runs steps h = let n = half_are_runs steps h.columns in let m = few_places steps (reduced_is_ordered column false steps h.columns.reduced) h.fits in
    omega (arith, n, m)

span_count : (top bottom : ℤ) (s t : Step Bool) (v : Bool) → s.value ≡ v → length (span_rects top bottom s t) ≡ flag s.value
span_count top bottom s t true e = rw e refl
span_count top bottom s t false e = rw e refl

row_count : (top bottom : ℤ) (v : Bool) (steps : List (Step Bool)) → final_value v steps ≡ false → length (row_rects top bottom steps) ≡ run_count steps
row_count top bottom v [] e = refl
row_count top bottom v (s ∷ []) e = rw e refl
row_count top bottom v (s ∷ t ∷ steps) e =
    let rest = row_count top bottom s.value (t ∷ steps) e in
    length-append (span_rects top bottom s t) (row_rects top bottom (t ∷ steps))
    ∙ ap (λ n. n + length (row_rects top bottom (t ∷ steps))) (span_count top bottom s t s.value refl) ∙ ap (λ n. flag s.value + n) rest

rects_from : (b : Step Columns) (bands : Bands) → AllValid HasColumns (b ∷ bands) → run_count (final_value b.value bands) ≡ 0 →
    length (rects_of (b ∷ bands)) ≡ rect_count (b ∷ bands)
rects_from b [] h e = rw e refl
rects_from b (c ∷ bands) h e =
    length-append (row_rects b.from c.from b.value) (rects_of (c ∷ bands))
    ∙ ap (λ n. n + length (rects_of (c ∷ bands))) (row_count b.from c.from false b.value h.0.ends)
    ∙ ap (λ n. run_count b.value + n) (rects_from c bands h.1 e)

ends_from : (b : Step Columns) (bands : Bands) → final_value [] (b ∷ bands) ≡ [] → final_value b.value bands ≡ []
ends_from b bands e = e

-- the rectangles of bands are as many as the runs of their columns
pub rects_are_counted : (bands : Bands) → IsCanonical bands → length (rects_of bands) ≡ rect_count bands
rects_are_counted [] h = refl
rects_are_counted (b ∷ bands) h = rects_from b bands h.values (rw (ends_from b bands h.ends) refl)

count_bound : (bands : Bands) → AllValid IsColumns bands → rect_count bands ≤ length bands * 2 ^ 31
count_bound [] h = omega arith
count_bound (b ∷ bands) h = let first = few_runs b.value h.0 in let rest = count_bound bands h.1 in omega (arith, first, rest)

pub rect_count-push : (bands : Bands) (b : Step Columns) → rect_count (bands ++ b ∷ []) ≡ rect_count bands + run_count b.value
rect_count-push [] b = omega arith
rect_count-push (c ∷ bands) b = ap (λ n. run_count c.value + n) (rect_count-push bands b) ∙ omega arith

-- however many they are, a number of 64 bits holds their count
pub count_fits : (bands : Bands) → IsOrdered bands → AllFit bands → AllValid IsColumns bands → rect_count bands ≤ 2 ^ 63
count_fits bands o f v = let n = few_places bands o f in let m = count_bound bands v in omega (arith, n, m)
