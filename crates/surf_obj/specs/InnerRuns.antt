-- Of private code: the part of a run that is whole bytes, and the step that a run is.
use Rattle.std.specs.Prelude.{ℕ, ◌+◌, ◌-◌, ◌*◌, ◌%◌, ◌≡◌, ◌<◌, ◌≤◌, List, Option, Some, unsigned_abs}
use Rattle.geom_base.specs.Points.{is_in, box_of}
use Rattle.geom_base.specs.Step.{Change, redrawn}
use Rattle.geom_base.specs.declared.point.Point.{Point}
use Rattle.geom_base.specs.declared.size.Size.{Size}

-- the pixels of so many bits, in a run of `len` from column x on, that are whole bytes: the first, and the one past the last. What
-- they leave on each side is less than a byte.
pub record IsWholePart (bits x len : ℕ) (part : ℕ × ℕ) : Type 0 where
  pub order : part.0 ≤ part.1
  pub within : part.1 ≤ len
  pub start : part.0 < part.1 → (x + part.0) * bits % 8 ≡ 0
  pub count : (part.1 - part.0) * bits % 8 ≡ 0
  pub left : part.0 * bits < 8
  pub right : (len - part.1) * bits < 8

-- the run's first pixel stands at a column
abbrev pub given : (ℕ → ℕ) → ℕ → Point → ℕ → Option ℕ
given gives left p d = Some (gives (unsigned_abs p.x - left))

-- a step in the columns of a row from one to before another
abbrev pub drawn : Size → List ℕ → ℕ → ℕ → ℕ → Change → List ℕ
drawn size values left right y change = redrawn size values (λ p. is_in p (box_of left y right (y + 1))) change
