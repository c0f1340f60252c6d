-- One word of a line, where names count: its value, or its first refusal.
use Rattle.std.specs.Prelude.{ℕ, List, drop, slice_index, codes, Option, Some, None, is_none, Result, Ok, Err}
use Rattle.std.specs.Prelude.{Bool, true, ◌==◌, ◌&&◌, ◌||◌, nat_le, not, if◌then◌else◌}
use Rattle.std.specs.Char.{is_ascii_alphabetic}
use Rattle.std.specs.Str.{bytes_eq}
use Rattle.geom_base.specs.declared.rect.Rect.{Rect}
use Rattle.region.specs.declared.operation.Operation.{Operation}
use Rattle.region.specs.declared.operation.Operation.TheVariants.{Union, Intersect, Subtract, Xor}
use Rattle.pix_format.specs.declared.format.Format.{Format}
use Rattle.pix_format.specs.declared.format.Format.TheVariants.{B1, B4, B8, B555, B565, B24, B32}
use Rattle.pix_format.specs.declared.rgb.Rgb.{Rgb}
use Rattle.pix_format.specs.Standard.{standard_colours}
use Rattle.pix_format.specs.Value.{bits_of, digits_of}
use Rattle.brush_obj.specs.declared.hatch.Hatch.{Hatch as HatchKind}
use Rattle.brush_obj.specs.declared.hatch.Hatch.TheVariants.{Horizontal, Vertical, FDiagonal, BDiagonal, Cross, DiagCross}
use Rattle.script_words.specs.declared.refusal.Refusal.{Refusal}
use Rattle.script_words.specs.declared.refusal.Refusal.TheVariants.{Spelling, UnknownName, NameInUse, BadName}
use Rattle.script_words.specs.Asking.{◌>>=◌, ask}
use Rattle.script_words.specs.Lines.{word_at}
use Rattle.script_words.specs.Places.{colour_in}
use Rattle.script_words.specs.Spelling.{hexadecimal_in, count_in, is_new_name}
use Rattle.brush_obj.specs.Image.{most_pattern_side}
use Rattle.script_orders.specs.declared.desk_command.Spot.{Spot}
use Rattle.script_orders.specs.declared.desk_command.Spot.TheVariants as spots
use Rattle.script_orders.specs.declared.desk_command.BrushUse.{BrushUse}
use Rattle.script_orders.specs.declared.desk_command.BrushUse.TheVariants as uses
use Rattle.script_names.specs.declared.entry.Bitmap.{Bitmap}
use Rattle.script_orders.specs.declared.named.Named.{Named}
use Rattle.script_orders.specs.declared.named.Named.TheVariants as named
use Rattle.script_orders.specs.declared.orders.FaceOrder.TheVariants.{Solid, Hatch, Pattern}
use Rattle.script_names.specs.declared.faces.FaceAsked.{FaceAsked}
use Rattle.script_names.specs.Names.{Name, NameMap, screen, no_clip, table, brush, bitmap, region}

-- a name that is to be made: its spelling is asked first, and then whether it is free
abbrev pub new_name : NameMap → List ℕ → Result (Unit {0}) Refusal
new_name names word = do
  _ ← ask (is_new_name word) BadName
  ask (is_none (names word)) NameInUse

-- what is drawn on, or read: the desk or a bitmap
abbrev pub spot_of : Option Name → Result Spot Refusal
spot_of (Some screen) = Ok spots.Desk
spot_of (Some (bitmap b)) = Ok (spots.Bitmap b.number)
spot_of _ = Err UnknownName

abbrev pub spot_in : NameMap → List ℕ → Result Spot Refusal
spot_in names word = spot_of (names word)

abbrev pub bitmap_of : Option Name → Result Bitmap Refusal
bitmap_of (Some (bitmap b)) = Ok b
bitmap_of _ = Err UnknownName

abbrev pub bitmap_in : NameMap → List ℕ → Result Bitmap Refusal
bitmap_in names word = bitmap_of (names word)

abbrev pub table_of : Option Name → Result (List Rgb) Refusal
table_of (Some (table colours)) = Ok colours
table_of _ = Err UnknownName

-- a known region
abbrev pub region_of : Option Name → Result (List Rect) Refusal
region_of (Some (region rects)) = Ok rects
region_of _ = Err UnknownName

abbrev pub region_in : NameMap → List ℕ → Result (List Rect) Refusal
region_in names word = region_of (names word)

-- a clip: none, or a known region
abbrev pub clip_of : Option Name → Result (Option (List Rect)) Refusal
clip_of (Some no_clip) = Ok None
clip_of (Some (region rects)) = Ok (Some rects)
clip_of _ = Err UnknownName

abbrev pub clip_in : NameMap → List ℕ → Result (Option (List Rect)) Refusal
clip_in names word = clip_of (names word)

-- the word for what isn't given
abbrev pub is_dash : List ℕ → Bool
is_dash word = bytes_eq word (codes "-")

-- a source that may be left out
abbrev pub spot_or_none : NameMap → List ℕ → Result (Option Spot) Refusal
spot_or_none names word = if is_dash word then Ok None else (do
  spot ← spot_in names word
  Ok (Some spot))

-- a mask that may be left out
abbrev pub bitmap_or_none : NameMap → List ℕ → Result (Option Bitmap) Refusal
bitmap_or_none names word = if is_dash word then Ok None else (do
  b ← bitmap_in names word
  Ok (Some b))

abbrev pub brush_of : Option Name → Result BrushUse Refusal
brush_of (Some (brush number)) = Ok (uses.Made number)
brush_of _ = Err UnknownName

-- a colour behind a #, which is a solid brush, or a brush's name
abbrev pub brush_in : NameMap → List ℕ → Result BrushUse Refusal
brush_in names word = if slice_index word 0 == 35 then (do
  colour ← colour_in (drop 1 word)
  Ok (uses.Colour colour)) else brush_of (names word)

-- a brush that may be left out
abbrev pub brush_or_none : NameMap → List ℕ → Result BrushUse Refusal
brush_or_none names word = if is_dash word then Ok uses.Nothing else brush_in names word

-- how a bitmap keeps its pixels
abbrev pub format_in : List ℕ → Result Format Refusal
format_in word =
    if bytes_eq word (codes "1") then Ok B1
    else if bytes_eq word (codes "4") then Ok B4
    else if bytes_eq word (codes "8") then Ok B8
    else if bytes_eq word (codes "555") then Ok B555
    else if bytes_eq word (codes "565") then Ok B565
    else if bytes_eq word (codes "24") then Ok B24
    else if bytes_eq word (codes "32") then Ok B32
    else Err Spelling

-- the table that a sixth word names, or the format's own where there is none
abbrev pub table_in : NameMap → List (List ℕ) → ℕ → Format → Result (List Rgb) Refusal
table_in names words count format = if count == 6 then table_of (names (word_at words 5)) else Ok (standard_colours format)

-- a pixel value with as many digits as a dump prints; a value of one bit is 0 or 1
abbrev pub value_in : Format → List ℕ → Result ℕ Refusal
value_in format word = do
  value ← hexadecimal_in (digits_of format) word
  _ ← ask (not (bits_of format == 1) || nat_le value 1) Spelling
  Ok value

-- a mix by its number
abbrev pub mix_in : List ℕ → Result ℕ Refusal
mix_in word = count_in 1 16 word

-- the operation of a word
abbrev pub operation_of : List ℕ → Option Operation
operation_of word =
    if bytes_eq word (codes "union") then Some Union
    else if bytes_eq word (codes "intersect") then Some Intersect
    else if bytes_eq word (codes "subtract") then Some Subtract
    else if bytes_eq word (codes "xor") then Some Xor
    else None

-- the kind of a hatch
abbrev pub hatch_in : List ℕ → Result HatchKind Refusal
hatch_in word =
    if bytes_eq word (codes "horizontal") then Ok Horizontal
    else if bytes_eq word (codes "vertical") then Ok Vertical
    else if bytes_eq word (codes "fdiagonal") then Ok FDiagonal
    else if bytes_eq word (codes "bdiagonal") then Ok BDiagonal
    else if bytes_eq word (codes "cross") then Ok Cross
    else if bytes_eq word (codes "diagcross") then Ok DiagCross
    else Err Spelling

-- solid C
abbrev pub solid_in : List (List ℕ) → Result FaceAsked Refusal
solid_in words = do
  colour ← colour_in (word_at words 3)
  Ok (record { face = Solid colour; fits = true })

-- hatch KIND FORE BACK
abbrev pub hatched_in : List (List ℕ) → Result FaceAsked Refusal
hatched_in words = do
  kind ← hatch_in (word_at words 3)
  fore ← colour_in (word_at words 4)
  back ← colour_in (word_at words 5)
  Ok (record { face = Hatch kind fore back; fits = true })

-- pattern BITMAP
abbrev pub pattern_in : NameMap → List (List ℕ) → Result FaceAsked Refusal
pattern_in names words = do
  b ← bitmap_in names (word_at words 3)
  Ok (record { face = Pattern b.number; fits = nat_le b.size.w most_pattern_side && nat_le b.size.h most_pattern_side })

-- what a brush is made of, by the words from its third on
abbrev pub face_in : NameMap → List (List ℕ) → Result FaceAsked Refusal
face_in names words =
    if bytes_eq (word_at words 2) (codes "solid") then solid_in words
    else if bytes_eq (word_at words 2) (codes "hatch") then hatched_in words
    else if bytes_eq (word_at words 2) (codes "pattern") then pattern_in names words
    else Err Spelling

-- a bitmap by its name
abbrev pub named_bitmap : NameMap → List ℕ → Result Named Refusal
named_bitmap names word = do
  b ← bitmap_in names word
  Ok (named.Bitmap b.number)

-- the one screen by its number
abbrev pub named_screen : List ℕ → Result Named Refusal
named_screen word = do
  number ← count_in 0 0 word
  Ok (named.Screen number)

-- a bitmap's name begins with a letter
abbrev pub named_in : NameMap → List ℕ → Result Named Refusal
named_in names word = if is_ascii_alphabetic (slice_index word 0) then named_bitmap names word else named_screen word
