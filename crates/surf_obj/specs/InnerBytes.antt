-- Of private code: what stays of bytes that a write changes.
use Rattle.std.specs.Prelude.{ℕ, ◌+◌, ◌-◌, ◌*◌, ◌≡◌, ◌<◌, ◌≤◌, ◌⊎◌, List, slice_index}
use Rattle.std.specs.Int.{bit_at}

-- no byte changed but those of a range, its end not among them
pub record ChangesOnly (from to : ℕ) (old new : List ℕ) : Type 0 where
  pub each : (k : ℕ) → (k < from) ⊎ (to ≤ k) → slice_index new k ≡ slice_index old k

-- no bit changed from a place on; places count from the first bit of a byte, the highest bit of each byte first
pub record KeepsAfter (start place : ℕ) (old new : List ℕ) : Type 0 where
  pub each : (k j : ℕ) → j < 8 → place ≤ 8 * k + (7 - j) → bit_at (slice_index new (start + k)) j ≡ bit_at (slice_index old (start + k)) j
