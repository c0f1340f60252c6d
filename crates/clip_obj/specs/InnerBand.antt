-- Inside the crate: the places of bands in a list of rectangles.
use Rattle.std.specs.Prelude.{◌≡◌, ℕ, ◌<◌, ◌≤◌, length, get_or, List}
use Rattle.std.specs.List.{AllWithin}
use Rattle.geom_base.specs.declared.rect.Rect.{Rect}
use Rattle.geom_base.specs.Points.{no_rect}
use Rattle.clip_obj.specs.declared.band.Band.{Band}

-- a rectangle begins in the row of the one at a place
abbrev pub BeginsWith : List Rect → ℕ → Rect → Type 0
BeginsWith rects place r = r.top ≡ (get_or rects place no_rect).top

-- or in another
abbrev pub BeginsOff : List Rect → ℕ → Rect → Type 0
BeginsOff rects place r = ¬ BeginsWith rects place r

-- a place is one of a band, and no other rectangle begins in the band's row
pub record IsBandAt (rects : List Rect) (band : Band) (place : ℕ) : Type 0 where
  pub from : band.start ≤ place
  pub to : place < band.end
  pub within : band.end ≤ length rects
  pub before : AllWithin (BeginsOff rects place) rects 0 band.start
  pub inside : AllWithin (BeginsWith rects place) rects band.start band.end
  pub after : AllWithin (BeginsOff rects place) rects band.end (length rects)

-- a band, or no places
abbrev pub IsBand : List Rect → Band → Type 0
IsBand rects band = (place : ℕ) → band.start ≤ place → place < band.end → IsBandAt rects band place
