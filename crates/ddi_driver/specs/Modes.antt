-- The modes that a driver may be enabled with.
use Rattle.std.specs.Prelude.{◌≡◌, ◌≤◌, ◌*◌, ℕ, List, length}
use Rattle.std.specs.List.{All}
use Rattle.geom_base.specs.declared.size.Size.{Size}
use Rattle.geom_base.specs.Points.{HasSides}
use Rattle.pix_format.specs.Value.{colours_of}
use Rattle.surf_obj.specs.Object.{stride_of}
use Rattle.copy_port.specs.declared.words.Mode.{Mode}

-- the size of a screen, or of a bitmap that a driver may be asked for
pub record IsTargetSize (size : Size) : Type 0 where
  pub sides : HasSides size
  pub pixels : size.w * size.h ≤ 4194304

-- a list of numbers that a mode may have
pub record AreModeNumbers (numbers : List ℕ) : Type 0 where
  pub few : length numbers ≤ 1000
  pub small : All (λ n. n ≤ 1000000) numbers

-- a mode that can be configured
pub record IsMode (m : Mode) : Type 0 where
  pub size : IsTargetSize m.size
  pub table : length m.table ≡ colours_of m.format
  pub decline : m.decline ≤ 1000000
  pub bank : (stride_of m.format m.size.w ≤ m.bank) × (m.bank ≤ 1048576)
  pub ring : (64 ≤ m.ring) × (m.ring ≤ 65536)
  pub spare : m.spare ≤ 4096
  pub pace : AreModeNumbers m.pace
  pub faults : AreModeNumbers m.faults
