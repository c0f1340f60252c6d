-- Runs put one after another.
use Rattle.std.proofs.Common.{◌≡◌, ◌∙◌, ℤ, ◌+ℤ◌, ◌<ℤ◌, ◌≤ℤ◌, pos, List, [], ◌∷◌, ◌++◌, Bool, true, false, refl, ap, sym}
use Rattle.std.proofs.Common.{subst, arith, int_lt, int_le, cond, ◌&&◌, ◌||◌, inl, inr, FitsSigned, w32}
use Rattle.std.proofs.lemmas.Int.{ints}
use Rattle.std.proofs.Math.Path.{fun_ext}
use Rattle.region.specs.Steps.{Step}
use Rattle.region.specs.Steps.{value_at, final_value, BeginsAfter, Same, IsReduced}
use Rattle.region.specs.InnerSteps.{EndsBefore}
use Rattle.region.specs.InnerSweep.{CanTake, IsPut}
use Rattle.region.specs.InnerRuns.{seen, sees, nowhere, AreReduced, AreRuns, AreEnded, with_run}
use Rattle.region.proofs.StepLemmas.{lt_is, ge_is, at_or_before, final_value-push, EndsBefore-push, EndsBefore-later}
use Rattle.region.proofs.StepLemmas.{AllValid-push, AllFit-push, IsReduced-push, IsOrdered-push}
use Rattle.region.proofs.RectLemmas.{in_rows}

-- a step more at the end
pub value_at-push : {V : Type 0} (v : V) (steps : List (Step V)) (from : ℤ) (value : V) (y : ℤ) → EndsBefore from steps →
    value_at v (steps ++ record { from = from; value = value } ∷ []) y ≡ cond (int_lt y from) (value_at v steps y) value
value_at-push v [] from value y h = refl
value_at-push v (t ∷ steps) from value y h = elim (at_or_before y t.from) [
  | inl below ↦ rw (lt_is y t.from below, lt_is y from (omega (arith, ints, below, h.0))) refl
  | inr after ↦ rw (ge_is y t.from after) (value_at-push t.value steps from value y h.1)
]

-- after the last step
pub value_at-after : {V : Type 0} (v : V) (steps : List (Step V)) (place y : ℤ) → EndsBefore place steps → place ≤ℤ y → value_at v steps y ≡ final_value v steps
value_at-after v [] place y h k = refl
value_at-after v (t ∷ steps) place y h k = rw (ge_is y t.from (omega (arith, ints, h.0, k))) (value_at-after t.value steps place y h.1 k)

-- the columns of steps

seen-push : {V : Type 0} (holds : V → ℤ → Bool) (steps : List (Step V)) (from : ℤ) (value : V) →
    seen holds (steps ++ record { from = from; value = value } ∷ []) ≡ seen holds steps ++ record { from = from; value = holds value } ∷ []
seen-push holds [] from value = refl
seen-push holds (t ∷ steps) from value = ap (λ u. record { from = t.from; value = holds t.value } ∷ u) (seen-push holds steps from value)

seen-ends : {V : Type 0} (holds : V → ℤ → Bool) (place : ℤ) (steps : List (Step V)) → EndsBefore place steps → EndsBefore place (seen holds steps)
seen-ends holds place [] h = tt
seen-ends holds place (t ∷ steps) h = (h.0, seen-ends holds place steps h.1)

pub final_of_seen : {V : Type 0} (holds : V → ℤ → Bool) (v : V) (steps : List (Step V)) → final_value (holds v) (seen holds steps) ≡ holds (final_value v steps)
final_of_seen holds v [] = refl
final_of_seen holds v (t ∷ steps) = final_of_seen holds t.value steps

pub final_of_runs : {V : Type 0} (holds : V → ℤ → Bool) (nothing : V) (steps : List (Step V)) → ((x : ℤ) → holds nothing x ≡ false) →
    final_value nowhere (seen holds steps) ≡ holds (final_value nothing steps)
final_of_runs holds nothing steps none =
    ap (λ f. final_value f (seen holds steps)) (sym (fun_ext {f = holds nothing} {g = nowhere} none)) ∙ final_of_seen holds nothing steps

-- no steps
pub no_runs : {V : Type 0} (holds : V → ℤ → Bool) (valid : V → Type 0) (end : ℤ) (set : ℤ → ℤ → Bool) → ((x y : ℤ) → false ≡ set y x) →
    AreRuns holds valid end set []
no_runs holds valid end set none = record {
  points = λ x y. ap (λ f. f x) (value_at-push nowhere [] end nowhere y tt) ∙ either (int_lt y end) x ∙ none x y;
  steps_reduced = record { reduced = tt; ordered = tt; values = tt; fits = tt };
  ends = tt;
}
  where
    either : (c : Bool) (x : ℤ) → cond c nowhere nowhere x ≡ false
    either true x = refl
    either false x = refl

-- a step can be put where the last run ends
pub runs_take : {V : Type 0} (holds : V → ℤ → Bool) (valid : V → Type 0) (end : ℤ) (set : ℤ → ℤ → Bool) (steps : List (Step V)) →
    AreRuns holds valid end set steps → CanTake valid end steps
runs_take holds valid end set steps h = record {
  ordered = h.steps_reduced.ordered;
  values = h.steps_reduced.values;
  fits = h.steps_reduced.fits;
  before = h.ends;
}

pushed_reduced : {V : Type 0} (holds : V → ℤ → Bool) (valid : V → Type 0) (end : ℤ) (set : ℤ → ℤ → Bool) (steps : List (Step V)) (nothing value : V) →
    AreRuns holds valid end set steps → FitsSigned w32 end → valid value → ((x : ℤ) → holds nothing x ≡ false) →
    (¬ Same holds value (final_value nothing steps)) → AreReduced holds valid (steps ++ record { from = end; value = value } ∷ [])
pushed_reduced holds valid end set steps nothing value h fits v none turn =
    record {
      reduced = subst (IsReduced sees nowhere) (sym (seen-push holds steps end value))
          (IsReduced-push sees nowhere (seen holds steps) (record { from = end; value = holds value }) h.steps_reduced.reduced
          (seen-ends holds end steps h.ends) (λ same. turn (λ x. same x ∙ ap (λ f. f x) (final_of_runs holds nothing steps none))));
      ordered = IsOrdered-push steps (record { from = end; value = value }) h.steps_reduced.ordered h.ends;
      values = AllValid-push valid steps (record { from = end; value = value }) h.steps_reduced.values v;
      fits = AllFit-push steps (record { from = end; value = value }) h.steps_reduced.fits fits;
    }

-- the last run was ended already
ended_before : {V : Type 0} (holds : V → ℤ → Bool) (valid : V → Type 0) (end : ℤ) (set : ℤ → ℤ → Bool) (steps : List (Step V)) (nothing : V) →
    AreRuns holds valid end set steps → ((x : ℤ) → holds nothing x ≡ false) → Same holds nothing (final_value nothing steps) →
    AreEnded holds valid end set steps
ended_before holds valid end set steps nothing h none same =
    let final : final_value nowhere (seen holds steps) ≡ nowhere = final_of_runs holds nothing steps none
    ∙ fun_ext {f = holds (final_value nothing steps)} {g = nowhere} (λ x. sym (same x) ∙ none x) in
    record {
      points = λ x y. ap (λ f. f x) (idle y final) ∙ h.points x y;
      steps_reduced = h.steps_reduced;
      ends = EndsBefore-later end (end +ℤ pos 1) steps h.ends (omega (arith, ints));
      final = final;
    }
  where
    idle : (y : ℤ) → final_value nowhere (seen holds steps) ≡ nowhere →
        value_at nowhere (seen holds steps) y ≡ value_at nowhere (seen holds steps ++ record { from = end; value = nowhere } ∷ []) y
    idle y final = elim (at_or_before y end) [
      | inl below ↦ sym (value_at-push nowhere (seen holds steps) end nowhere y (seen-ends holds end steps h.ends) ∙ rw (lt_is y end below) refl)
      | inr after ↦ value_at-after nowhere (seen holds steps) end y (seen-ends holds end steps h.ends) after ∙ final
          ∙ sym (value_at-push nowhere (seen holds steps) end nowhere y (seen-ends holds end steps h.ends) ∙ rw (ge_is y end after) refl)
    ]

-- the last run is ended
ended_here : {V : Type 0} (holds : V → ℤ → Bool) (valid : V → Type 0) (end : ℤ) (set : ℤ → ℤ → Bool) (steps : List (Step V)) (nothing value : V) →
    AreRuns holds valid end set steps → FitsSigned w32 end → valid value → ((x : ℤ) → holds nothing x ≡ false) → ((x : ℤ) → holds value x ≡ false) →
    (¬ Same holds value (final_value nothing steps)) → AreEnded holds valid end set (steps ++ record { from = end; value = value } ∷ [])
ended_here holds valid end set steps nothing value h fits v none bare turn =
    let same : holds value ≡ nowhere = fun_ext {f = holds value} {g = nowhere} bare in
    let last : seen holds (steps ++ record { from = end; value = value } ∷ []) ≡ seen holds steps ++ record { from = end; value = nowhere } ∷ [] =
    seen-push holds steps end value ∙ ap (λ f. seen holds steps ++ record { from = end; value = f } ∷ []) same in
    record {
      points = λ x y. ap (λ l. value_at nowhere l y x) last ∙ h.points x y;
      steps_reduced = pushed_reduced holds valid end set steps nothing value h fits v none turn;
      ends = EndsBefore-push (end +ℤ pos 1) steps (record { from = end; value = value })
          (EndsBefore-later end (end +ℤ pos 1) steps h.ends (omega (arith, ints))) (omega (arith, ints));
      final = ap (final_value nowhere) last ∙ final_value-push nowhere (seen holds steps) (record { from = end; value = nowhere });
    }

-- no columns were put where the last run ends
pub put_end : {V : Type 0} (holds : V → ℤ → Bool) (valid : V → Type 0) (nothing : V) (columns : ℤ → Bool) (end : ℤ) (set : ℤ → ℤ → Bool)
    (steps more : List (Step V)) → AreRuns holds valid end set steps → FitsSigned w32 end → ((x : ℤ) → holds nothing x ≡ false) →
    ((x : ℤ) → columns x ≡ false) → IsPut holds valid nothing columns end steps more → AreEnded holds valid end set more
put_end holds valid nothing columns end set steps more h fits none bare p = elim p.put [
  | inl kept ↦ subst (AreEnded holds valid end set) (sym kept.1) (ended_before holds valid end set steps nothing h none
      (λ x. none x ∙ sym (p.holds_columns x ∙ bare x) ∙ kept.0 x))
  | inr added ↦ subst (AreEnded holds valid end set) (sym added.1) (ended_here holds valid end set steps nothing p.value h fits p.is_valid none
      (λ x. p.holds_columns x ∙ bare x) added.0)
]

-- ended runs are runs until any later place
pub runs_until : {V : Type 0} (holds : V → ℤ → Bool) (valid : V → Type 0) (end next : ℤ) (set : ℤ → ℤ → Bool) (steps : List (Step V)) →
    AreEnded holds valid end set steps → end <ℤ next → AreRuns holds valid next set steps
runs_until holds valid end next set steps h later = record {
  points = λ x y. ap (λ f. f x) (idle y) ∙ h.points x y;
  steps_reduced = h.steps_reduced;
  ends = ends;
}
  where
    ends : EndsBefore next steps
    ends = EndsBefore-later (end +ℤ pos 1) next steps h.ends (omega (arith, ints, later))

    idle : (y : ℤ) → value_at nowhere (seen holds steps ++ record { from = next; value = nowhere } ∷ []) y ≡ value_at nowhere (seen holds steps) y
    idle y = elim (at_or_before y next) [
      | inl below ↦ value_at-push nowhere (seen holds steps) next nowhere y (seen-ends holds next steps ends) ∙ rw (lt_is y next below) refl
      | inr after ↦ value_at-push nowhere (seen holds steps) next nowhere y (seen-ends holds next steps ends) ∙ rw (ge_is y next after) refl
          ∙ sym (value_at-after nowhere (seen holds steps) next y (seen-ends holds next steps ends) after ∙ h.final)
    ]

run_test : (y from to : ℤ) (old value : Bool) → from <ℤ to →
    cond (int_lt y to) (cond (int_lt y from) old value) false ≡ (cond (int_lt y from) old false || (in_rows from to y && value))
run_test y from to old value h = grind (arith, ints)

cond_at : (c : Bool) (f g : ℤ → Bool) (x : ℤ) → cond c f g x ≡ cond c (f x) (g x)
cond_at true f g x = refl
cond_at false f g x = refl

run_points : {V : Type 0} (holds : V → ℤ → Bool) (valid : V → Type 0) (from to : ℤ) (set : ℤ → ℤ → Bool) (steps more : List (Step V)) (value : V) →
    AreRuns holds valid from set steps → from <ℤ to → EndsBefore to more →
    ((y : ℤ) → value_at nowhere (seen holds more) y ≡ cond (int_lt y from) (value_at nowhere (seen holds steps) y) (holds value)) → (x y : ℤ) →
    value_at nowhere (seen holds more ++ record { from = to; value = nowhere } ∷ []) y x ≡ with_run set from to (holds value) y x
run_points holds valid from to set steps more value h wide ends values x y =
    let before : set y x ≡ cond (int_lt y from) (value_at nowhere (seen holds steps) y x) false =
    sym (h.points x y) ∙ ap (λ f. f x) (value_at-push nowhere (seen holds steps) from nowhere y (seen-ends holds from steps h.ends))
    ∙ cond_at (int_lt y from) (value_at nowhere (seen holds steps) y) nowhere x in
    ap (λ f. f x) (value_at-push nowhere (seen holds more) to nowhere y (seen-ends holds to more ends))
    ∙ cond_at (int_lt y to) (value_at nowhere (seen holds more) y) nowhere x
    ∙ ap (λ b. cond (int_lt y to) b false) (ap (λ f. f x) (values y) ∙ cond_at (int_lt y from) (value_at nowhere (seen holds steps) y) (holds value) x)
    ∙ run_test y from to (value_at nowhere (seen holds steps) y x) (holds value x) wide
    ∙ ap (λ b. b || (in_rows from to y && holds value x)) (sym before)

-- a run with the columns of the last one goes on
run_goes_on : {V : Type 0} (holds : V → ℤ → Bool) (valid : V → Type 0) (from to : ℤ) (set : ℤ → ℤ → Bool) (steps : List (Step V)) (nothing value : V) →
    AreRuns holds valid from set steps → from <ℤ to → ((x : ℤ) → holds nothing x ≡ false) → Same holds value (final_value nothing steps) →
    AreRuns holds valid to (with_run set from to (holds value)) steps
run_goes_on holds valid from to set steps nothing value h wide none same = record {
  points = run_points holds valid from to set steps steps value h wide ends values;
  steps_reduced = h.steps_reduced;
  ends = ends;
}
  where
    ends : EndsBefore to steps
    ends = EndsBefore-later from to steps h.ends (omega (arith, ints, wide))

    values : (y : ℤ) → value_at nowhere (seen holds steps) y ≡ cond (int_lt y from) (value_at nowhere (seen holds steps) y) (holds value)
    values y = elim (at_or_before y from) [
      | inl below ↦ rw (lt_is y from below) refl
      | inr after ↦ value_at-after nowhere (seen holds steps) from y (seen-ends holds from steps h.ends) after ∙ final_of_runs holds nothing steps none
          ∙ sym (fun_ext {f = holds value} {g = holds (final_value nothing steps)} same) ∙ rw (ge_is y from after) refl
    ]

-- a run with other columns begins
run_begins : {V : Type 0} (holds : V → ℤ → Bool) (valid : V → Type 0) (from to : ℤ) (set : ℤ → ℤ → Bool) (steps : List (Step V)) (nothing value : V) →
    AreRuns holds valid from set steps → from <ℤ to → FitsSigned w32 from → valid value → ((x : ℤ) → holds nothing x ≡ false) →
    (¬ Same holds value (final_value nothing steps)) →
    AreRuns holds valid to (with_run set from to (holds value)) (steps ++ record { from = from; value = value } ∷ [])
run_begins holds valid from to set steps nothing value h wide fits v none turn = record {
  points = run_points holds valid from to set steps (steps ++ record { from = from; value = value } ∷ []) value h wide ends
      (λ y. ap (λ l. value_at nowhere l y) (seen-push holds steps from value)
      ∙ value_at-push nowhere (seen holds steps) from (holds value) y (seen-ends holds from steps h.ends));
  steps_reduced = pushed_reduced holds valid from set steps nothing value h fits v none turn;
  ends = ends;
}
  where
    ends : EndsBefore to (steps ++ record { from = from; value = value } ∷ [])
    ends = EndsBefore-push to steps (record { from = from; value = value }) (EndsBefore-later from to steps h.ends (omega (arith, ints, wide))) wide

-- runs of one set are runs of an equal one
pub runs_same : {V : Type 0} (holds : V → ℤ → Bool) (valid : V → Type 0) (end : ℤ) (f g : ℤ → ℤ → Bool) (steps : List (Step V)) →
    ((y x : ℤ) → f y x ≡ g y x) → AreRuns holds valid end f steps → AreRuns holds valid end g steps
runs_same holds valid end f g steps same h = record { points = λ x y. h.points x y ∙ same y x; steps_reduced = h.steps_reduced; ends = h.ends }

-- columns were put where the last run ends
pub put_run : {V : Type 0} (holds : V → ℤ → Bool) (valid : V → Type 0) (nothing : V) (columns : ℤ → Bool) (from to : ℤ) (set : ℤ → ℤ → Bool)
    (steps more : List (Step V)) → AreRuns holds valid from set steps → from <ℤ to → FitsSigned w32 from → ((x : ℤ) → holds nothing x ≡ false) →
    IsPut holds valid nothing columns from steps more → AreRuns holds valid to (with_run set from to columns) more
put_run holds valid nothing columns from to set steps more h wide fits none p =
    runs_same holds valid to (with_run set from to (holds p.value)) (with_run set from to columns) more
    (λ y x. ap (λ b. set y x || ((int_le from y && int_lt y to) && b)) (p.holds_columns x)) (elim p.put [
      | inl kept ↦ subst (AreRuns holds valid to (with_run set from to (holds p.value))) (sym kept.1)
          (run_goes_on holds valid from to set steps nothing p.value h wide none kept.0)
      | inr added ↦ subst (AreRuns holds valid to (with_run set from to (holds p.value))) (sym added.1)
          (run_begins holds valid from to set steps nothing p.value h wide fits p.is_valid none added.0)
    ])

-- what is seen of steps is what they are

pub value_of_seen : {V : Type 0} (holds : V → ℤ → Bool) (v : V) (steps : List (Step V)) (y : ℤ) →
    value_at (holds v) (seen holds steps) y ≡ holds (value_at v steps y)
value_of_seen holds v [] y = refl
value_of_seen holds v (s ∷ steps) y =
    elim (int_lt y s.from) as (λ t. cond t (holds v) (value_at (holds s.value) (seen holds steps) y) ≡ holds (cond t v (value_at s.value steps y))) [
      | true ↦ refl
      | false ↦ value_of_seen holds s.value steps y
    ]

begins_of_seen : {V : Type 0} (holds : V → ℤ → Bool) (y : ℤ) (steps : List (Step V)) → BeginsAfter y (seen holds steps) → BeginsAfter y steps
begins_of_seen holds y [] h = tt
begins_of_seen holds y (s ∷ steps) h = h

pub reduced_of_seen : {V : Type 0} (holds : V → ℤ → Bool) (v : V) (steps : List (Step V)) → IsReduced sees (holds v) (seen holds steps) →
    IsReduced holds v steps
reduced_of_seen holds v [] h = tt
reduced_of_seen holds v (s ∷ steps) h = (h.0, begins_of_seen holds s.from steps h.1, reduced_of_seen holds s.value steps h.2)
