-- A loop that changes each of a list.
use Rattle.std.proofs.Common.{◌≡◌, ◌∙◌, ℕ, ◌+◌, ◌<◌, List, [], ◌∷◌, ◌++◌, map, length, take, drop, refl, ap, sym, arith, add-one, suc, zero}
use Rattle.std.specs.Prelude.{slice_set, slice_index_or}

pub each_next : {X : Type 0} (f : X → X) (old items : List X) (i : ℕ) (d : X) → i < length old → items ≡ map f (take i old) ++ drop i old →
    slice_set items i (f (slice_index_or items i d)) ≡ map f (take (i + 1) old) ++ drop (i + 1) old
each_next {X} f old items i d lt e = ap (λ l. slice_set l i (f (slice_index_or l i d))) e ∙ step old i lt
    ∙ ap (λ n. map f (take n old) ++ drop n old) (sym (add-one i))
  where
    step : (old : List X) (i : ℕ) → i < length old →
        slice_set (map f (take i old) ++ drop i old) i (f (slice_index_or (map f (take i old) ++ drop i old) i d)) ≡
        map f (take (suc i) old) ++ drop (suc i) old
    step [] i lt = absurd (omega (arith, lt))
    step (r ∷ old) zero lt = refl
    step (r ∷ old) (suc i) lt = ap (λ l. f r ∷ l) (step old i (omega (arith, lt)))
