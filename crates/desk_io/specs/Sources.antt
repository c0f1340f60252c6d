-- What a source gives.
use Rattle.std.specs.Prelude.{◌≡◌, ℕ, ◌+◌, ◌≤◌, ◌<◌, Bool, true, false, List, [], length, take, drop, Option, Some, Result, Ok, Err, is_err, Vec}
use Rattle.std.specs.declared.alloc.Global.{Global}
use Rattle.desk_io.specs.Counts.{Counted}
use Rattle.desk_io.specs.declared.source.ReadFault.{ReadFault}
use Rattle.desk_io.specs.declared.reading.ReadRefusal.{ReadRefusal}
use Rattle.desk_io.specs.declared.reading.ReadRefusal.TheVariants.{Fault, Size, NoMemory}

-- so many of the bytes were given, and stand at the front of the buffer; none were given only at the end
pub record GivesBytes (bytes : List ℕ) (left : Option (List ℕ)) (buf : List ℕ) (n : ℕ) : Type 0 where
  pub there : n ≤ length bytes
  pub given : take n buf ≡ take n bytes
  pub after : left ≡ Some (drop n bytes)
  pub ended : n ≡ 0 → bytes ≡ []

-- a read of a source that has these bytes left
abbrev pub TakesFrom : List ℕ → Option (List ℕ) → List ℕ → Result ℕ ReadFault → Type 0
TakesFrom bytes left buf (Ok n) = GivesBytes bytes left buf n
TakesFrom bytes left buf (Err e) = left ≡ Some bytes

abbrev pub FitsIn : List ℕ → Result ℕ ReadFault → Type 0
FitsIn buf (Ok n) = n ≤ length buf
FitsIn buf (Err e) = Unit {0}

-- A read into a buffer. Where it fails the count of faults rose, and nothing is taken.
pub record Takes (old new : Option (List ℕ)) (before after : ℕ) (buf : List ℕ) (result : Result ℕ ReadFault) : Type 0 where
  pub bytes : (b : List ℕ) → old ≡ Some b → TakesFrom b new buf result
  pub fits : FitsIn buf result
  pub count : Counted (is_err result) before after
  pub later : before ≤ after

abbrev pub most_bytes : ℕ
most_bytes = 16777216

-- the reading broke off: so many of the bytes were taken, at most as many as an input may have
abbrev pub BrokeOff : List ℕ → Option (List ℕ) → Type 0
BrokeOff bytes left = (taken : ℕ) × (taken ≤ most_bytes) × (taken ≤ length bytes) × (left ≡ Some (drop taken bytes))

-- a source that had these bytes left was read to its end, or until one byte more came than an input may have, or the reading broke off
abbrev pub Comes : List ℕ → Option (List ℕ) → Result (Vec ℕ Global) ReadRefusal → Type 0
Comes bytes left (Ok v) = (v.items ≡ bytes) × (length bytes ≤ most_bytes) × (left ≡ Some [])
Comes bytes left (Err Size) = (most_bytes < length bytes) × (left ≡ Some (drop (most_bytes + 1) bytes))
Comes bytes left (Err Fault) = BrokeOff bytes left
Comes bytes left (Err NoMemory) = BrokeOff bytes left

-- what was read is at most as long as an input may be, also where the source tells nothing
abbrev pub IsWithinMost : Result (Vec ℕ Global) ReadRefusal → Type 0
IsWithinMost (Ok v) = length v.items ≤ most_bytes
IsWithinMost (Err e) = Unit {0}

-- whether a read failed
abbrev pub is_fault : Result (Vec ℕ Global) ReadRefusal → Bool
is_fault (Err Fault) = true
is_fault result = false

-- Reading to the end. The count of faults rose where the answer is a fault, and with each other answer it stays.
pub record ReadsAll (old new : Option (List ℕ)) (before after : ℕ) (result : Result (Vec ℕ Global) ReadRefusal) : Type 0 where
  pub bytes : (b : List ℕ) → old ≡ Some b → Comes b new result
  pub within : IsWithinMost result
  pub count : Counted (is_fault result) before after
  pub later : before ≤ after
