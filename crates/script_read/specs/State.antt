-- What is kept from line to line.
use Rattle.std.specs.Prelude.{ℕ, List, [], Option, None}
use Rattle.geom_base.specs.declared.point.Point.{Point}
use Rattle.geom_base.specs.declared.rect.Rect.{Rect}
use Rattle.pix_format.specs.declared.rgb.Rgb.{Rgb}
use Rattle.script_orders.specs.Rows.{zero_point}
use Rattle.script_names.specs.Names.{NameMap, first_names}

-- the names in use; how many names were made and are in use, and how many of them are brushes, tables and bitmaps; the pixels of these
-- bitmaps together; the rectangles of all named regions together; the names of all bitmaps that were made, in order; the brush origin,
-- the clip, if there is one, and the background colour in force
pub record ReaderState : Type 0 where
  pub names : NameMap
  pub live : ℕ
  pub brushes : ℕ
  pub tables : ℕ
  pub bitmaps : ℕ
  pub pixels : ℕ
  pub rectangles : ℕ
  pub made : List (List ℕ)
  pub origin : Point
  pub clip : Option (List Rect)
  pub back : Rgb

abbrev pub white : Rgb
white = record { r = 255; g = 255; b = 255 }

abbrev pub first_reader_state : ReaderState
first_reader_state = record {
  names = first_names;
  live = 0;
  brushes = 0;
  tables = 0;
  bitmaps = 0;
  pixels = 0;
  rectangles = 0;
  made = [];
  origin = zero_point;
  clip = None;
  back = white;
}
