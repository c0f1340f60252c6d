-- The limit of a region.
use Rattle.std.specs.Prelude.{ℕ}

-- the most rectangles of a region
abbrev pub most_rects : ℕ
most_rects = 4096
