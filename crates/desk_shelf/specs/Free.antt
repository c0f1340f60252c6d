-- Which driver of a shelf a screen takes: the first of its kind that is disabled.
use Rattle.std.specs.Prelude.{◌==◌, ◌&&◌, ℕ, Bool, not, List, Option, position}
use Rattle.std.specs.List.{count_by}
use Rattle.copy_port.specs.State.{PortState}
use Rattle.copy_port.specs.declared.words.Kind.{Kind}
use Rattle.copy_port.specs.declared.words.Kind.TheVariants.{Linear, Banked, Accel, Mirror}

-- a kind by its place among all
abbrev pub number_of : Kind → ℕ
number_of Linear = 0
number_of Banked = 1
number_of Accel = 2
number_of Mirror = 3

-- a driver of a kind that is disabled
abbrev pub is_free : Kind → PortState → Bool
is_free kind s = (number_of s.rest.kind == number_of kind) && not s.rest.enabled

-- how many of a kind are free
abbrev pub held_of : Kind → List PortState → ℕ
held_of kind states = count_by (is_free kind) states

-- the place of the first of them
abbrev pub first_free : Kind → List PortState → Option ℕ
first_free kind states = position (is_free kind) states
