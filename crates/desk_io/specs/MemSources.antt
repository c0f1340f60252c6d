-- A source in memory.
use Rattle.std.specs.Prelude.{ℕ, List, drop, length, min, Result, Ok, Err}
use Rattle.desk_io.specs.Counts.{one_more}
use Rattle.desk_io.specs.declared.source.ReadFault.{ReadFault}

-- The bytes that are left, the most that a read gives, the numbers of the reads that fail, and how many reads were made and failed.
pub record MemSourceState : Type 0 where
  pub left : List ℕ
  pub step : ℕ
  pub fails : List ℕ
  pub calls : ℕ
  pub faults : ℕ

-- a source of which nothing was read
abbrev pub unread_source : List ℕ → ℕ → List ℕ → MemSourceState
unread_source bytes step fails = record { left = bytes; step = step; fails = fails; calls = 0; faults = 0 }

-- how many bytes a read gives that doesn't fail: the least of the step, the room in the buffer and the bytes left
abbrev pub given_count : MemSourceState → ℕ → ℕ
given_count source room = min source.step (min room (length source.left))

-- the source after a read: what was given is no longer left, and each call and each fault is counted
abbrev pub after_read : MemSourceState → Result ℕ ReadFault → MemSourceState
after_read source (Ok n) = record source { left = drop n source.left; calls = one_more source.calls }
after_read source (Err e) = record source { calls = one_more source.calls; faults = one_more source.faults }
