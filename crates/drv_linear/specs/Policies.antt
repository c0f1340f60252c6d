-- Which calls a driver declines.
use Rattle.std.specs.Prelude.{ℕ, ◌%◌, ◌==◌, ◌&&◌, ◌||◌, Bool, not}
use Rattle.copy_port.specs.Classes.{has_class}
use Rattle.copy_port.specs.declared.classes.Class.{Class}
use Rattle.copy_port.specs.declared.words.Mode.{Mode}
use Rattle.drv_linear.specs.declared.policy.Policy.{Policy}

-- what a mode says
abbrev pub policy_of : Mode → Policy
policy_of m = record { hooks = m.hooks; takes = m.takes; decline = m.decline }

-- every so many calls, or never
abbrev pub is_due : ℕ → ℕ → Bool
is_due number decline = not (decline == 0) && (number % decline == 0)

-- a hook call of this number and class is declined: the class isn't taken, or it's the number's turn
abbrev pub declines : Policy → ℕ → Class → Bool
declines p number class = not (has_class p.takes class) || is_due number p.decline
