-- Rows of values.
use Rattle.std.proofs.Common.{◌≡◌, ℕ, ◌+◌, ◌-◌, ◌*◌, ◌%◌, ◌<◌, ◌≤◌, List, length, get_or, refl, sym, ◌∙◌, ap, subst, arith, ◌⊎◌, inl, inr, zero-add, min, ◌++◌}
use Rattle.std.specs.List.{All, CopiedTo, SameBelow}
use Rattle.std.proofs.lemmas.List.{get_or_append_left, get_or-append-add}
use Rattle.std.proofs.lemmas.List.Elements.{All-get_or, All-from_get_or}
use Rattle.std.proofs.lemmas.Bool.{cases_eq}
use Rattle.std.proofs.lemmas.Nat.{mul-add-lt, mod_below}
use Rattle.std.proofs.Math.Nat.{mod-add-mod, mod-le, mul_comm}

-- what holds of all values holds of those taken from among them
pub All-taken : (P : ℕ → Type 0) (xs out : List ℕ) (g : ℕ → ℕ) → All P xs →
    ((j : ℕ) → j < length out → (get_or out j 0 ≡ get_or xs (g j) 0) × (g j < length xs)) → All P out
All-taken P xs out g all taken = All-from_get_or P out 0 (λ j h. subst P (sym (taken j h).0) (All-get_or P xs (g j) 0 (taken j h).1 all))

-- from a whole number of periods on the places count as from the start
pub mod_after : (filled period r : ℕ) → filled % period ≡ 0 → (filled + r) % period ≡ r % period
mod_after filled period r e = sym (mod-add-mod filled period r) ∙ rw (e, zero-add)

-- twice as many whole periods are whole periods, or the row is full
pub whole_after : (filled count len period : ℕ) → filled % period ≡ 0 → count ≡ min filled (len - filled) →
    ((filled + count) % period ≡ 0) ⊎ (len ≤ filled + count)
whole_after filled count len period whole e = elim (case count filled len e) [
  | inl same ↦ inl (rw same (mod_after filled period filled whole ∙ whole))
  | inr full ↦ inr full
]
  where
    case : (count filled len : ℕ) → count ≡ min filled (len - filled) → (count ≡ filled) ⊎ (len ≤ filled + count)
    case count filled len e = grind arith

-- a row of whole periods, with its first values copied behind them
pub repeated_more : (first now then : List ℕ) (period filled count : ℕ) → filled % period ≡ 0 → count ≤ filled → filled + count ≤ length now →
    ((k : ℕ) → k < filled → k < length now → get_or now k 0 ≡ get_or first (k % period) 0) → CopiedTo now then 0 filled (count - 0) →
    SameBelow now then filled →
    (k : ℕ) → k < filled + count → get_or then k 0 ≡ get_or first (k % period) 0
repeated_more first now then period filled count whole short room done copied below k inside = elim (case k filled) [
  | inl before ↦ below k 0 before ∙ done k before (omega arith)
  | inr behind ↦
      let place : (filled + (k - filled)) % period ≡ (k - filled) % period = mod_after filled period (k - filled) whole in
      let same : filled + (k - filled) ≡ k = omega arith in
      copied k 0 behind (omega arith) ∙ ap (λ i. get_or now i 0) (zero-add (k - filled)) ∙ done (k - filled) (omega arith) (omega arith)
      ∙ ap (λ i. get_or first i 0) (sym place ∙ ap (λ i. i % period) same)
]
  where
    case : (a b : ℕ) → (a < b) ⊎ (b ≤ a)
    case a b = grind arith

-- the values of a row that repeats its first part are values of that part
pub repeated_taken : (part rest row : List ℕ) (w n : ℕ) → 1 ≤ w → length row ≡ n → length part ≡ min n w →
    ((i : ℕ) → i < length row → get_or row i 0 ≡ get_or (part ++ rest) (i % w) 0) →
    (i : ℕ) → i < length row → (get_or row i 0 ≡ get_or part (i % w) 0) × (i % w < length part)
repeated_taken part rest row w n some long short repeated i inside =
    let below : i % w < w = mod_below i w some in
    let within : i % w ≤ i = mod-le i w in
    let first : i % w < length part = omega arith in
    (repeated i inside ∙ get_or_append_left part rest 0 (i % w) first, first)

-- one more row of a grid
pub one_more_row : (f : ℕ → ℕ → ℕ) (xs row : List ℕ) (w n : ℕ) → length xs ≡ n * w → length row ≡ w →
    ((x y : ℕ) → x < w → y < n → get_or xs (y * w + x) 0 ≡ f x y) → ((x : ℕ) → x < w → get_or row x 0 ≡ f x n) →
    (x y : ℕ) → x < w → y < n + 1 → get_or (xs ++ row) (y * w + x) 0 ≡ f x y
one_more_row f xs row w n long wide above here x y hx hy = elim (cases_eq y n) [
  | inl same ↦
      let place : y * w + x ≡ length xs + x = rw (same, long) refl in
      rw place (get_or-append-add xs row x 0 ∙ here x hx ∙ rw same refl)
  | inr other ↦
      let before : y < n = omega arith in
      let place : y * w + x < length xs = let p = mul-add-lt y w x n before hx in rw (long, mul_comm n w) p in
      get_or_append_left xs row 0 (y * w + x) place ∙ above x y hx before
]

-- where one more row is to come there is room for it
pub row_fits : (w h y room : ℕ) → 1 ≤ w → y < h → w * h ≤ room + y * w → w ≤ room
row_fits w h y room some inside enough = let last = mul-add-lt y w (w - 1) h inside (omega arith) in omega arith
