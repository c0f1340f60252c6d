-- How a device is powered on.
use Rattle.std.specs.Prelude.{ℕ, Result, Ok, Err}
use Rattle.copy_port.specs.State.{Rose}
use Rattle.dev_ports.specs.declared.refusals.PowerRefusal.{PowerRefusal}
use Rattle.dev_ports.specs.declared.refusals.PowerRefusal.TheVariants.{Fault, NoMemory}

-- a fault was counted
abbrev pub HasCause : Result (Unit {0}) PowerRefusal → ℕ → ℕ → Type 0
HasCause (Ok a) before now = Unit {0}
HasCause (Err Fault) before now = Rose before now
HasCause (Err NoMemory) before now = Unit {0}
