-- Of private calls: room for the widest row's line.
use Rattle.std.specs.Prelude.{ℕ}

-- the most bytes of a row's line
abbrev pub longest_line : ℕ
longest_line = 32769
