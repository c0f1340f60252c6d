-- The coordinates to which some of a surface belong.
use Rattle.std.proofs.Common.{◌≡◌, ℕ, ℤ, pos, ◌<◌, ◌≤◌, ◌+ℤ◌, ◌-ℤ◌, ◌≤ℤ◌, ◌<ℤ◌, ◌↔◌, arith}
use Rattle.std.specs.Int.{int_max, int_min}
use Rattle.std.proofs.lemmas.Int.{ints, clamps}
use Rattle.blt_kernel.specs.InnerShift.{place_shifted}

-- a coordinate of a span to which one of a surface belongs
abbrev pub IsThere : ℕ → ℕ → ℕ → ℤ → ℤ → ℕ → Type 0
IsThere from to len corner at x = (from ≤ x) × (x < to) × (pos 0 ≤ℤ place_shifted corner at (pos x)) × (place_shifted corner at (pos x) <ℤ pos len)

pub there_from : (from to len : ℕ) (corner at f t : ℤ) (x : ℕ) → f ≡ int_max (pos from) (corner -ℤ at) → t ≡ int_min (pos to) ((pos len -ℤ at) +ℤ corner) →
    IsThere from to len corner at x → (f ≤ℤ pos x) × (pos x <ℤ t)
there_from from to len corner at f t x ef et h = (omega (arith, ints, clamps, h.0, h.2), omega (arith, ints, clamps, h.1, h.3))

pub there_none : (from to len : ℕ) (corner at f t : ℤ) → f ≡ int_max (pos from) (corner -ℤ at) → t ≡ int_min (pos to) ((pos len -ℤ at) +ℤ corner) → t ≤ℤ f →
    (x : ℕ) → ((from ≤ x) × (x < from)) ↔ IsThere from to len corner at x
there_none from to len corner at f t ef et apart x =
    (λ h. absurd (omega (arith, h.0, h.1)), λ h. let w = there_from from to len corner at f t x ef et h in absurd (omega (arith, ints, w.0, w.1)))

pub there_some : (from to len : ℕ) (corner at f t : ℤ) (a b : ℕ) → f ≡ int_max (pos from) (corner -ℤ at) → t ≡ int_min (pos to) ((pos len -ℤ at) +ℤ corner) →
    pos a ≡ f → pos b ≡ t →
    (x : ℕ) → ((a ≤ x) × (x < b)) ↔ IsThere from to len corner at x
there_some from to len corner at f t a b ef et ea eb x = (
  λ h. (omega (arith, ints, clamps, h.0), omega (arith, ints, clamps, h.1), omega (arith, ints, clamps, h.0), omega (arith, ints, clamps, h.1)),
  λ h. let w = there_from from to len corner at f t x ef et h in (omega (arith, ints, w.0), omega (arith, ints, w.1)),
)

pub there_ends : (from to len : ℕ) (corner at f t : ℤ) (a b : ℕ) → f ≡ int_max (pos from) (corner -ℤ at) → t ≡ int_min (pos to) ((pos len -ℤ at) +ℤ corner) →
    pos a ≡ f → pos b ≡ t →
    (pos 0 ≤ℤ place_shifted corner at (pos a)) × (place_shifted corner at (pos b) ≤ℤ pos len)
there_ends from to len corner at f t a b ef et ea eb = (omega (arith, ints, clamps), omega (arith, ints, clamps))

pub from_not_negative : (from : ℕ) (e f : ℤ) → f ≡ int_max (pos from) e → pos 0 ≤ℤ f
from_not_negative from e f ef = omega (arith, ints, clamps)

pub to_not_negative : (from : ℕ) (e f t : ℤ) → f ≡ int_max (pos from) e → f <ℤ t → pos 0 ≤ℤ t
to_not_negative from e f t ef h = omega (arith, ints, clamps)
