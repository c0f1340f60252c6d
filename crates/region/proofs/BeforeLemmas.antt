-- Steps, and what others say from the last one on.
use Rattle.std.proofs.Common.{◌≡◌, ℤ, ◌<ℤ◌, ◌≤ℤ◌, List, [], ◌∷◌, ◌++◌, Bool, true, false, refl, ap, inl, inr, int_lt, cond, if◌then◌else◌}
use Rattle.region.specs.Steps.{Step, value_at, final_value}
use Rattle.region.specs.InnerScan.{before_or}
use Rattle.region.proofs.StepLemmas.{lt_is, ge_is, at_or_before}

-- what others say counts from the last step on only point by point
pub before_or-same : {V : Type 0} (holds : V → ℤ → Bool) (v : V) (out : List (Step V)) (f g : ℤ → ℤ → Bool) → ((y x : ℤ) → f y x ≡ g y x) → (y x : ℤ) →
    before_or holds v out f y x ≡ before_or holds v out g y x
before_or-same holds v [] f g same y x = same y x
before_or-same holds v (s ∷ out) f g same y x = ap (λ u. cond (int_lt y s.from) (holds v x) u) (before_or-same holds s.value out f g same y x)

-- a step more moves that place
pub before_or-push : {V : Type 0} (holds : V → ℤ → Bool) (v : V) (out : List (Step V)) (s : Step V) (f : ℤ → ℤ → Bool) (y x : ℤ) →
    before_or holds v (out ++ s ∷ []) f y x ≡ before_or holds v out (λ y x. if int_lt y s.from then holds (final_value v out) x else f y x) y x
before_or-push holds v [] s f y x = refl
before_or-push holds v (t ∷ out) s f y x = ap (λ u. cond (int_lt y t.from) (holds v x) u) (before_or-push holds t.value out s f y x)

-- where the others go on with the final value, the steps say all
pub before_or-end : {V : Type 0} (holds : V → ℤ → Bool) (v : V) (out : List (Step V)) (y x : ℤ) →
    before_or holds v out (λ y x. holds (final_value v out) x) y x ≡ holds (value_at v out y) x
before_or-end holds v [] y x = refl
before_or-end holds v (s ∷ out) y x = elim (int_lt y s.from) as
    (λ b. cond b (holds v x) (before_or holds s.value out (λ y x. holds (final_value s.value out) x) y x) ≡
    holds (cond b v (value_at s.value out y)) x) [ true ↦ refl | false ↦ before_or-end holds s.value out y x ]

pub by_place : (y p : ℤ) (u t e : Bool) → (y <ℤ p → u ≡ t) → (p ≤ℤ y → u ≡ e) → u ≡ (if int_lt y p then t else e)
by_place y p u t e h k = elim (at_or_before y p) [ inl b ↦ rw (lt_is y p b) (h b) | inr b ↦ rw (ge_is y p b) (k b) ]
