-- A step made of steps on apart areas.
use Rattle.std.proofs.Common.{◌≡◌, ℕ, ◌+◌, ◌-◌, ◌*◌, ◌<◌, ◌≤◌, Bool, true, false, ◌||◌, ◌&&◌, List, length, get_or, ap, ◌∙◌, arith, Option, unwrap_or}
use Rattle.std.proofs.lemmas.Bool.Decides.{nat_tests}
use Rattle.geom_base.specs.declared.point.Point.{Point}
use Rattle.geom_base.specs.declared.size.Size.{Size}
use Rattle.geom_base.specs.Points.{is_in, box_of, point_at}
use Rattle.geom_base.specs.Grid.{value_at}
use Rattle.geom_base.specs.Step.{value_after, redrawn}
use Rattle.surf_obj.specs.Runs.{listed}
use Rattle.geom_base.specs.StepLaws.{redrawn_rule, redrawn_both}

-- a point of a run
in_run : (x y n x' y' : ℕ) → is_in (point_at x' y') (box_of x y (x + n) (y + 1)) ≡ true → (y' ≡ y) × (x ≤ x') × (x' < x + n)
in_run x y n x' y' h = (grind (arith, nat_tests), grind (arith, nat_tests), grind (arith, nat_tests))

-- values listed for a run are a rule that gives the same value at each of its points
pub run_is : (size : Size) (old values : List ℕ) (new : Point → ℕ → Option ℕ) (x y n : ℕ) → length old ≡ size.w * size.h →
    ((k : ℕ) → k < n → get_or values k 0 ≡ value_after new (point_at (x + k) y) (value_at size old (x + k) y)) →
    redrawn size old (λ p. is_in p (box_of x y (x + n) (y + 1))) (listed values x) ≡ redrawn size old (λ p. is_in p (box_of x y (x + n) (y + 1))) new
run_is size old values new x y n long same =
    redrawn_rule size old (λ p. is_in p (box_of x y (x + n) (y + 1))) (listed values x) new long (λ x' y' hx hy inside.
    let w = in_run x y n x' y' inside in
    let e : x + (x' - x) ≡ x' = omega (arith, w.1) in
    rw (w.0) (rw e at (same (x' - x) (omega (arith, w.1, w.2)))))

-- A step in one area and then in another that has no point of the first is one step in both, where the second one's rule, which may
-- look at the values that it finds, gives what the first one's does.
pub joined : (size : Size) (old now next : List ℕ) (done area both : Point → Bool) (before after : Point → ℕ → Option ℕ) → length old ≡ size.w * size.h →
    length now ≡ size.w * size.h →
    now ≡ redrawn size old done before → next ≡ redrawn size now area after →
    ((x y : ℕ) → x < size.w → y < size.h →
    (both (point_at x y) ≡ (done (point_at x y) || area (point_at x y))) × ((done (point_at x y) && area (point_at x y)) ≡ false)) →
    ((x y : ℕ) → x < size.w → y < size.h → area (point_at x y) ≡ true → (d : ℕ) → after (point_at x y) d ≡ before (point_at x y) d) →
    next ≡ redrawn size old both before
joined size old now next done area both before after long long' first second apart same =
    second
    ∙ redrawn_rule size now area after before long'
    (λ x y hx hy inside. ap (λ (o : Option ℕ). unwrap_or o (value_at size now x y)) (same x y hx hy inside (value_at size now x y)))
    ∙ ap (λ vs. redrawn size vs area before) first
    ∙ redrawn_both size old done area both before long apart
