-- What the calls of a device in memory leave.
use Rattle.std.specs.Prelude.{◌≡◌, ◌+◌, ◌-◌, ◌==◌, ◌^◌, min, ℕ, Bool, List, [], if◌then◌else◌, replicate}
use Rattle.std.specs.List.{list_any}
use Rattle.copy_port.specs.State.{next_count}
use Rattle.dev_ports.specs.declared.mem_linear.MemLinear.{MemLinear}

-- a device that is off, and failed never
pub record IsOff (m : MemLinear) : Type 0 where
  pub bytes : m.bytes.items ≡ []
  pub faults : m.faults ≡ 0

-- a device that was just powered on: its bytes are 0, and the touches of these numbers will fail, the first being 1
pub record IsOn (count : ℕ) (numbers : List ℕ) (m : MemLinear) : Type 0 where
  pub bytes : m.bytes.items ≡ replicate count 0
  pub fails : m.fails ≡ numbers
  pub touches : m.touches ≡ 0

-- a number is one of a list
abbrev pub is_among : ℕ → List ℕ → Bool
is_among number numbers = list_any (λ n. n == number) numbers

-- the next touch is one of those that fail
abbrev pub fails_at : MemLinear → Bool
fails_at m = is_among (next_count m.touches) m.fails

-- a count that stays at its greatest value, after one more where there was one
abbrev pub faults_after : Bool → ℕ → ℕ
faults_after failed n = if failed then min (n + 1) (2 ^ 64 - 1) else n

-- all but the count of faults is as before
pub record SameButFaults (old new : MemLinear) : Type 0 where
  pub bytes : new.bytes ≡ old.bytes
  pub fails : new.fails ≡ old.fails
  pub touches : new.touches ≡ old.touches

-- a touch was counted, and where it failed that was too
pub record Touched (failed : Bool) (old new : MemLinear) : Type 0 where
  pub bytes : new.bytes ≡ old.bytes
  pub fails : new.fails ≡ old.fails
  pub touches : new.touches ≡ next_count old.touches
  pub faults : new.faults ≡ faults_after failed old.faults
