-- What a sink was given.
use Rattle.std.specs.Prelude.{◌≡◌, ℕ, ◌≤◌, ◌<◌, Bool, true, false, List, ◌++◌, length, take, Option, Some, Result, Ok, Err, is_err}
use Rattle.desk_io.specs.Counts.{Counted}
use Rattle.desk_io.specs.declared.sink.WriteFault.{WriteFault}

-- what a write took of a piece: its first bytes, and at least one where it has any; after a fault nothing
abbrev pub AppendsTo : List ℕ → List ℕ → Option (List ℕ) → Result ℕ WriteFault → Type 0
AppendsTo written piece new (Ok n) = new ≡ Some (written ++ take n piece)
AppendsTo written piece new (Err e) = new ≡ Some written

abbrev pub TakesSome : List ℕ → Result ℕ WriteFault → Type 0
TakesSome piece (Ok n) = (n ≤ length piece) × (0 < length piece → 0 < n)
TakesSome piece (Err e) = Unit {0}

-- A write of a piece. Where it fails the count of faults rose, and else it stays.
pub record Appends (piece : List ℕ) (old new : Option (List ℕ)) (before after : ℕ) (result : Result ℕ WriteFault) : Type 0 where
  pub bytes : (written : List ℕ) → old ≡ Some written → AppendsTo written piece new result
  pub some : TakesSome piece result
  pub count : Counted (is_err result) before after
  pub later : before ≤ after

-- all of the piece was written; or a prefix of it
abbrev pub Wrote : Bool → List ℕ → List ℕ → Option (List ℕ) → Type 0
Wrote false piece written new = new ≡ Some (written ++ piece)
Wrote true piece written new = (front : List ℕ) × (rest : List ℕ) × (piece ≡ front ++ rest) × (new ≡ Some (written ++ front))

-- A piece was written whole, and the count of faults stays; or the sink failed: then the count rose, and a prefix of the piece was written.
pub record Puts (piece : List ℕ) (old new : Option (List ℕ)) (before after : ℕ) (failed : Bool) : Type 0 where
  pub text : (written : List ℕ) → old ≡ Some written → Wrote failed piece written new
  pub count : Counted failed before after
  pub later : before ≤ after
