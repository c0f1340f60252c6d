-- A sink in memory.
use Rattle.std.specs.Prelude.{◌≡◌, ℕ, ◌-◌, ◌<◌, ◌⊎◌, List, [], ◌++◌, take, length, min, Contains, Result, Ok, Err}
use Rattle.desk_io.specs.Counts.{one_more}
use Rattle.desk_io.specs.declared.sink.WriteFault.{WriteFault}

-- The bytes written, the room for all of them, the most that a write takes, the numbers of the writes that fail, and how many writes were made and failed.
pub record MemSinkState : Type 0 where
  pub written : List ℕ
  pub room : ℕ
  pub step : ℕ
  pub fails : List ℕ
  pub calls : ℕ
  pub faults : ℕ

-- a sink to which nothing was written
abbrev pub empty_sink : ℕ → ℕ → List ℕ → MemSinkState
empty_sink room step fails = record { written = []; room = room; step = step; fails = fails; calls = 0; faults = 0 }

abbrev pub room_left : MemSinkState → ℕ
room_left sink = sink.room - length sink.written

-- a write fails where its number stands in the list, or the piece isn't empty and the room is full
abbrev pub FailsAt : MemSinkState → List ℕ → Type 0
FailsAt sink piece = Contains sink.fails (one_more sink.calls) ⊎ ((0 < length piece) × (room_left sink ≡ 0))

-- how many bytes a write takes that doesn't fail: the least of the step, the piece's length and the room left
abbrev pub taken_count : MemSinkState → List ℕ → ℕ
taken_count sink piece = min sink.step (min (length piece) (room_left sink))

-- the sink after a write: what was taken of the piece stands at the end, and each call and each fault is counted
abbrev pub after_write : MemSinkState → List ℕ → Result ℕ WriteFault → MemSinkState
after_write sink piece (Ok n) = record sink { written = sink.written ++ take n piece; calls = one_more sink.calls }
after_write sink piece (Err e) = record sink { calls = one_more sink.calls; faults = one_more sink.faults }
