-- The limits of a script.
use Rattle.std.specs.Prelude.{ℕ}

-- commands of a script
abbrev pub most_commands : ℕ
most_commands = 100000

-- names that were made and are in use
abbrev pub most_names : ℕ
most_names = 10000

-- brushes, tables, and bitmaps in use
abbrev pub most_brushes : ℕ
most_brushes = 1024

abbrev pub most_tables : ℕ
most_tables = 256

abbrev pub most_bitmaps : ℕ
most_bitmaps = 4096

-- pixels of a surface, and of all bitmaps in use together
abbrev pub most_pixels : ℕ
most_pixels = 4194304

abbrev pub most_bitmap_pixels : ℕ
most_bitmap_pixels = 16777216

-- rectangles of all named regions together
abbrev pub most_region_rects : ℕ
most_region_rects = 262144
