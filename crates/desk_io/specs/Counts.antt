-- Counts of calls and of faults.
use Rattle.std.specs.Prelude.{◌≡◌, ℕ, ◌+◌, ◌-◌, ◌^◌, ◌≤◌, Bool, true, false, min}

-- the next number of a count of 64 bits, which stays at its last value
abbrev pub one_more : ℕ → ℕ
one_more count = min (count + 1) (2 ^ 64 - 1)

-- a count of 64 bits rose; one that stands at its last value is read as having risen
abbrev pub Rose : ℕ → ℕ → Type 0
Rose before after = one_more before ≤ after

-- the count of faults over a call: it rose where the call failed, and else it stays
abbrev pub Counted : Bool → ℕ → ℕ → Type 0
Counted true before after = Rose before after
Counted false before after = after ≡ before
