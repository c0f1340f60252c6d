-- How a run ends.
use Rattle.std.specs.Prelude.{ℕ, Bool, true, false}
use Rattle.desk_run.specs.declared.status.Status.{Status}
use Rattle.desk_run.specs.declared.status.Status.TheVariants.{Done, Usage, InputRefused, FaultSeen, NoMemory, ReadFault, WriteFault, ShelfShort, EnableFault, MemorySeen, ModeRefused}

-- the number that the program ends with
abbrev pub exit_of : Status → ℕ
exit_of Done = 0
exit_of Usage = 1
exit_of (InputRefused r) = 2
exit_of FaultSeen = 3
exit_of NoMemory = 4
exit_of ReadFault = 5
exit_of WriteFault = 6
exit_of (ShelfShort kind wanted held) = 7
exit_of (EnableFault screen) = 8
exit_of MemorySeen = 9
exit_of (ModeRefused screen limit) = 10

-- whether the source or the sink failed
abbrev pub is_read_fault : Status → Bool
is_read_fault ReadFault = true
is_read_fault s = false

abbrev pub is_write_fault : Status → Bool
is_write_fault WriteFault = true
is_write_fault s = false
