use Rattle.std.proofs.Common.{◌≡◌, ◌∙◌, ℕ, ℤ, ◌+ℤ◌, ◌-ℤ◌, ◌<ℤ◌, ◌≤ℤ◌, pos, List, [], ◌∷◌, Bool, true, false, refl, ap, sym, subst, arith, inl, inr, zero, suc}
use Rattle.std.proofs.lemmas.Int.{ints}
use Rattle.region.specs.Steps.{Step}
use Rattle.region.specs.Steps.{value_at, final_value, BeginsAfter, AllValid, Same, IsReduced}
use Rattle.region.specs.InnerSteps.{BeginsFrom}
use Rattle.region.specs.Window.{places_from}
use Rattle.region.specs.Canonical.{steps_where}
use Rattle.region.proofs.StepLemmas.{ge_is, at_or_before, value_at-before, BeginsAfter-earlier}

-- the places where a function changes
pub record Changes {V : Type 0} (holds : V → ℤ → Bool) (changes : ℤ → Bool) (value : ℤ → V) : Type 0 where
  pub stays : (z : ℤ) → changes z ≡ false → value z ≡ value (z -ℤ pos 1)
  pub turns : (z : ℤ) → changes z ≡ true → ¬ Same holds (value z) (value (z -ℤ pos 1))

-- the steps of a walk over so many places
abbrev pub walk : {V : Type 0} → (ℤ → Bool) → (ℤ → V) → ℤ → ℕ → List (Step V)
walk changes value z n = steps_where changes value (places_from z n)

and_back : (z : ℤ) → z ≡ (z +ℤ pos 1) -ℤ pos 1
and_back z = omega (arith, ints)

BeginsFrom-earlier : {V : Type 0} (y z : ℤ) (steps : List (Step V)) → y ≤ℤ z → BeginsFrom z steps → BeginsFrom y steps
BeginsFrom-earlier y z [] h b = tt
BeginsFrom-earlier y z (s ∷ steps) h b = omega (arith, ints, h, b)

begins_here : {V : Type 0} (changes : ℤ → Bool) (value : ℤ → V) (z : ℤ) (n : ℕ) (b : Bool) → changes z ≡ b →
    BeginsFrom (z +ℤ pos 1) (walk changes value (z +ℤ pos 1) n) → BeginsFrom z (walk changes value z (suc n))
begins_here changes value z n true e rest = rw e (omega (arith, ints))
begins_here changes value z n false e rest = rw e (BeginsFrom-earlier z (z +ℤ pos 1) (walk changes value (z +ℤ pos 1) n) (omega (arith, ints)) rest)

walk_begins : {V : Type 0} (changes : ℤ → Bool) (value : ℤ → V) (z : ℤ) (n : ℕ) → BeginsFrom z (walk changes value z n)
walk_begins changes value z zero = tt
walk_begins changes value z (suc n) = begins_here changes value z n (changes z) refl (walk_begins changes value (z +ℤ pos 1) n)

walk_after : {V : Type 0} (changes : ℤ → Bool) (value : ℤ → V) (y z : ℤ) (n : ℕ) → y <ℤ z → BeginsAfter y (walk changes value z n)
walk_after changes value y z n h = BeginsAfter-earlier y z (walk changes value z n) h (walk_begins changes value z n)

-- the steps of a walk change each time
reduced_here : {V : Type 0} (holds : V → ℤ → Bool) (changes : ℤ → Bool) (value : ℤ → V) → Changes holds changes value → (v : V) (z : ℤ) (n : ℕ) (b : Bool) →
    changes z ≡ b → v ≡ value (z -ℤ pos 1) →
    ((w : V) → w ≡ value z → IsReduced holds w (walk changes value (z +ℤ pos 1) n)) → IsReduced holds v (walk changes value z (suc n))
reduced_here holds changes value c v z n true e before rest =
    let turn : ¬ Same holds (value z) v = subst (λ u. ¬ Same holds (value z) u) (sym before) (c.turns z e) in
    rw e (turn, walk_after changes value z (z +ℤ pos 1) n (omega (arith, ints)), rest (value z) refl)
reduced_here holds changes value c v z n false e before rest = rw e (rest v (before ∙ sym (c.stays z e)))

pub walk_reduced : {V : Type 0} (holds : V → ℤ → Bool) (changes : ℤ → Bool) (value : ℤ → V) → Changes holds changes value → (v : V) (z : ℤ) (n : ℕ) →
    v ≡ value (z -ℤ pos 1) → IsReduced holds v (walk changes value z n)
walk_reduced holds changes value c v z zero before = tt
walk_reduced holds changes value c v z (suc n) before = reduced_here holds changes value c v z n (changes z) refl before
    (λ w e. walk_reduced holds changes value c w (z +ℤ pos 1) n (e ∙ ap value (and_back z)))

-- each value of a walk is one of the function's
valid_here : {V : Type 0} (valid : V → Type 0) (changes : ℤ → Bool) (value : ℤ → V) (z : ℤ) (n : ℕ) (b : Bool) → changes z ≡ b → valid (value z) →
    AllValid valid (walk changes value (z +ℤ pos 1) n) → AllValid valid (walk changes value z (suc n))
valid_here valid changes value z n true e here rest = rw e (here, rest)
valid_here valid changes value z n false e here rest = rw e rest

pub walk_valid : {V : Type 0} (valid : V → Type 0) (changes : ℤ → Bool) (value : ℤ → V) → ((z : ℤ) → valid (value z)) → (z : ℤ) (n : ℕ) →
    AllValid valid (walk changes value z n)
walk_valid valid changes value all z zero = tt
walk_valid valid changes value all z (suc n) = valid_here valid changes value z n (changes z) refl (all z) (walk_valid valid changes value all (z +ℤ pos 1) n)

-- from the last place of a walk on the function has one value
abbrev pub EndsAs : {V : Type 0} → (ℤ → V) → V → ℤ → ℕ → Type 0
EndsAs value last z n = (y : ℤ) → (z +ℤ pos n) ≤ℤ (y +ℤ pos 1) → value y ≡ last

ends_later : {V : Type 0} (value : ℤ → V) (last : V) (z : ℤ) (n : ℕ) → EndsAs value last z (suc n) → EndsAs value last (z +ℤ pos 1) n
ends_later value last z n ends y h = ends y (omega (arith, ints))

-- the value after a walk
final_here : {V : Type 0} (changes : ℤ → Bool) (value : ℤ → V) (last v : V) (z : ℤ) (n : ℕ) (b : Bool) → changes z ≡ b → (changes z ≡ false → v ≡ value z) →
    ((w : V) → w ≡ value z → final_value w (walk changes value (z +ℤ pos 1) n) ≡ last) → final_value v (walk changes value z (suc n)) ≡ last
final_here changes value last v z n true e same rest = rw e (rest (value z) refl)
final_here changes value last v z n false e same rest = rw e (rest v (same e))

pub walk_final : {V : Type 0} (holds : V → ℤ → Bool) (changes : ℤ → Bool) (value : ℤ → V) → Changes holds changes value → (last v : V) (z : ℤ) (n : ℕ) →
    v ≡ value (z -ℤ pos 1) → EndsAs value last z n → final_value v (walk changes value z n) ≡ last
walk_final holds changes value c last v z zero before ends = before ∙ ends (z -ℤ pos 1) (omega (arith, ints))
walk_final holds changes value c last v z (suc n) before ends = final_here changes value last v z n (changes z) refl (λ e. before ∙ sym (c.stays z e))
    (λ w e. walk_final holds changes value c last w (z +ℤ pos 1) n (e ∙ ap value (and_back z)) (ends_later value last z n ends))

-- the value at each place
just_before : (y z : ℤ) → y <ℤ z → z ≤ℤ (y +ℤ pos 1) → z -ℤ pos 1 ≡ y
just_before y z h k = omega (arith, ints)

value_here : {V : Type 0} (changes : ℤ → Bool) (value : ℤ → V) (v : V) (y z : ℤ) (n : ℕ) (b : Bool) → changes z ≡ b → (changes z ≡ false → v ≡ value z) →
    z ≤ℤ y →
    ((w : V) → w ≡ value z → value_at w (walk changes value (z +ℤ pos 1) n) y ≡ value y) → value_at v (walk changes value z (suc n)) y ≡ value y
value_here changes value v y z n true e same h rest = rw (e, ge_is y z h) (rest (value z) refl)
value_here changes value v y z n false e same h rest = rw e (rest v (same e))

walk_value : {V : Type 0} (holds : V → ℤ → Bool) (changes : ℤ → Bool) (value : ℤ → V) → Changes holds changes value → (last v : V) (y z : ℤ) (n : ℕ) →
    v ≡ value (z -ℤ pos 1) → EndsAs value last z n → z ≤ℤ (y +ℤ pos 1) →
    value_at v (walk changes value z n) y ≡ value y
walk_value holds changes value c last v y z zero before ends h = before ∙ ends (z -ℤ pos 1) (omega (arith, ints)) ∙ sym (ends y (omega (arith, ints)))
walk_value holds changes value c last v y z (suc n) before ends h = elim (at_or_before y z) [
  | inl below ↦ value_at-before v (walk changes value z (suc n)) y (walk_after changes value y z (suc n) below) ∙ before ∙ ap value (just_before y z below h)
  | inr from ↦ value_here changes value v y z n (changes z) refl (λ e. before ∙ sym (c.stays z e)) from
      (λ w e. walk_value holds changes value c last w y (z +ℤ pos 1) n (e ∙ ap value (and_back z)) (ends_later value last z n ends) (omega (arith, ints)))
]

-- where the function has one value before the walk and from its last place on
pub walk_values : {V : Type 0} (holds : V → ℤ → Bool) (changes : ℤ → Bool) (value : ℤ → V) → Changes holds changes value → (v : V) (z : ℤ) (n : ℕ) →
    ((y : ℤ) → y <ℤ z → value y ≡ v) → EndsAs value v z n → (y : ℤ) → value_at v (walk changes value z n) y ≡ value y
walk_values holds changes value c v z n begins ends y = elim (at_or_before y z) [
  | inl below ↦ value_at-before v (walk changes value z n) y (walk_after changes value y z n below) ∙ sym (begins y below)
  | inr from ↦ walk_value holds changes value c v v y z n (sym (begins (z -ℤ pos 1) (omega (arith, ints)))) ends (omega (arith, ints))
]
