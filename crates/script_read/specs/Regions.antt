-- What a region line asks: a list of rectangles, the canonical one of its points.
use Rattle.std.specs.Prelude.{ℕ, ℤ, pos, ◌-ℤ◌, int_le, List, map, drop, codes, Option, Some, None, Result, Ok, Err, Bool, ◌&&◌, if◌then◌else◌}
use Rattle.std.specs.List.{list_all}
use Rattle.std.specs.Str.{bytes_eq}
use Rattle.geom_base.specs.declared.point.Point.{Point}
use Rattle.geom_base.specs.declared.rect.Rect.{Rect}
use Rattle.geom_base.specs.Points.{is_in_some, moved_rect, moved_back}
use Rattle.region.specs.declared.operation.Operation.{Operation}
use Rattle.region.specs.Canonical.{canonical_rects}
use Rattle.region.specs.Operation.{holds_after}
use Rattle.region.specs.Window.{window}
use Rattle.script_words.specs.declared.refusal.Refusal.{Refusal}
use Rattle.script_words.specs.declared.refusal.Refusal.TheVariants.{Spelling, Range, NotOrdered}
use Rattle.script_words.specs.Asking.{◌>>=◌, ask}
use Rattle.script_words.specs.Bounds.{greatest_number}
use Rattle.script_words.specs.Lines.{word_at}
use Rattle.script_words.specs.Places.{is_well_ordered}
use Rattle.script_words.specs.Spelling.{number_in}
use Rattle.script_names.specs.Fields.{new_name, operation_of, region_in}
use Rattle.script_names.specs.Names.{NameMap}
use Rattle.script_names.specs.Tails.{rects_from}

-- rects [R ...]: the points of any of the rectangles
abbrev pub listed_in : List (List ℕ) → Result (List Rect) Refusal
listed_in words = do
  rects ← rects_from (drop 3 words)
  _ ← ask (list_all is_well_ordered rects) NotOrdered
  Ok (canonical_rects (λ p. is_in_some p rects))

-- OP A B
abbrev pub combined_in : Option Operation → NameMap → List (List ℕ) → Result (List Rect) Refusal
combined_in None names words = Err Spelling
combined_in (Some operation) names words = do
  a ← region_in names (word_at words 3)
  b ← region_in names (word_at words 4)
  Ok (canonical_rects (λ p. holds_after operation (is_in_some p a) (is_in_some p b)))

-- any number
abbrev pub distance_in : List ℕ → Result ℤ Refusal
distance_in word = number_in (pos 0 -ℤ pos greatest_number) (pos greatest_number) word

-- DX DY
abbrev pub shift_in : List (List ℕ) → Result Point Refusal
shift_in words = do
  x ← distance_in (word_at words 4)
  y ← distance_in (word_at words 5)
  Ok (record { x = x; y = y })

-- a coordinate of an edge
abbrev pub is_edge : ℤ → Bool
is_edge z = int_le window.left z && int_le z window.right

abbrev pub has_edges : Rect → Bool
has_edges r = is_edge r.left && is_edge r.top && is_edge r.right && is_edge r.bottom

-- offset A DX DY: no edge may leave the coordinates
abbrev pub shifted_in : NameMap → List (List ℕ) → Result (List Rect) Refusal
shifted_in names words = do
  rects ← region_in names (word_at words 3)
  by ← shift_in words
  _ ← ask (list_all has_edges (map (λ r. moved_rect r by) rects)) Range
  Ok (canonical_rects (λ p. is_in_some (moved_back by p) rects))

-- a form of the command, by the third word
abbrev pub form_in : NameMap → List (List ℕ) → Result (List Rect) Refusal
form_in names words =
    if bytes_eq (word_at words 2) (codes "rects") then listed_in words
    else if bytes_eq (word_at words 2) (codes "offset") then shifted_in names words
    else combined_in (operation_of (word_at words 2)) names words

-- NAME and a form
abbrev pub named_region_in : NameMap → List (List ℕ) → Result (List Rect) Refusal
named_region_in names words = do
  _ ← new_name names (word_at words 1)
  form_in names words
