-- Inside the crate: a rectangle in parts for which there is room.
use Rattle.std.specs.Prelude.{ℕ, ◌+◌, ◌*◌, pos, ◌+ℤ◌, Bool, List, [], ◌∷◌, if◌then◌else◌, nat_le}
use Rattle.geom_base.specs.declared.rect.Rect.{Rect}
use Rattle.geom_base.specs.Points.{height_of, width_of}

-- the whole rectangle where there is room for its values, and else one row after the other: how many rows a part has, and how many
-- parts there are
abbrev pub has_room : ℕ → Rect → Bool
has_room room r = nat_le (width_of r * height_of r) room

abbrev pub band_rows : ℕ → Rect → ℕ
band_rows room r = if has_room room r then height_of r else 1

abbrev pub band_count : ℕ → Rect → ℕ
band_count room r = if has_room room r then 1 else height_of r

-- a part, and all parts before one
abbrev pub band_of : ℕ → Rect → ℕ → Rect
band_of room r k = record { left = r.left; top = r.top +ℤ pos (k * band_rows room r); right = r.right; bottom = r.top +ℤ pos ((k + 1) * band_rows room r) }

abbrev pub before_band : ℕ → Rect → ℕ → Rect
before_band room r k = record { left = r.left; top = r.top; right = r.right; bottom = r.top +ℤ pos (k * band_rows room r) }

-- the parts of all rectangles of a list
abbrev pub bands_of : ℕ → List Rect → ℕ
bands_of room [] = 0
bands_of room (r ∷ rects) = band_count room r + bands_of room rects
