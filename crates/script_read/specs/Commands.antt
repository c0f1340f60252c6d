-- The commands, one for each word: how many words a line has, and what it means.
use Rattle.std.specs.Prelude.{ℕ, ◌+◌, ◌-◌, ◌*◌, ◌%◌, is_some, List, [], ◌∷◌, ◌++◌, length, drop, codes, None, Result}
use Rattle.std.specs.Prelude.{Ok, Err, ◌==◌, nat_lt, nat_le, Bool, ◌&&◌, ◌||◌, if◌then◌else◌}
use Rattle.std.specs.Str.{bytes_eq}
use Rattle.geom_base.specs.declared.size.Size.{Size}
use Rattle.geom_base.specs.declared.rect.Rect.{Rect}
use Rattle.geom_base.specs.Points.{most_side}
use Rattle.region.specs.Limits.{most_rects}
use Rattle.pix_format.specs.Value.{colours_of}
use Rattle.rop_mix.specs.Needs.{source_needed, mask_needed}
use Rattle.brush_obj.specs.declared.draw_call.DrawCall.TheVariants as calls
use Rattle.script_words.specs.declared.refusal.Refusal.{Refusal}
use Rattle.script_words.specs.declared.refusal.Refusal.TheVariants.{UnknownCommand, WordCount, NotOrdered, OperandMissing}
use Rattle.script_words.specs.declared.refusal.Refusal.TheVariants.{MaskNotMono, MaskIsTarget, PastLimit, RegionTooLarge}
use Rattle.script_words.specs.declared.refusal.Refusal.TheVariants.{TooManyCommands, TableMisfit}
use Rattle.script_words.specs.Asking.{◌>>=◌, ask, each}
use Rattle.script_words.specs.Lines.{word_at}
use Rattle.script_words.specs.Places.{colour_in, rect_in, point_in, is_well_ordered}
use Rattle.script_words.specs.Spelling.{count_in, hexadecimal_in}
use Rattle.script_orders.specs.Limits.{most_commands, most_names, most_brushes, most_tables, most_bitmaps, most_pixels, most_bitmap_pixels, most_region_rects}
use Rattle.script_orders.specs.declared.desk_command.BrushUse.TheVariants as uses
use Rattle.script_orders.specs.declared.desk_command.Feed.TheVariants as feeds
use Rattle.script_orders.specs.declared.desk_command.Spot.TheVariants as spots
use Rattle.script_orders.specs.declared.orders.CreateOrder.{CreateOrder}
use Rattle.script_orders.specs.declared.script_command.ScriptCommand.{ScriptCommand}
use Rattle.script_orders.specs.declared.script_command.ScriptCommand.TheVariants as asked
use Rattle.script_read.specs.declared.verb.Verb.{Verb}
use Rattle.script_read.specs.declared.verb.Verb.TheVariants as verbs
use Rattle.script_orders.specs.Rows.{row_rect, zero_point}
use Rattle.script_read.specs.Drawing.{feed_from, needed_feed, needed_mask, has_operands, is_mono_mask}
use Rattle.script_read.specs.Drawing.{is_other, number_of_mask, blt_from, copy_from, paint_from}
use Rattle.script_names.specs.Fields.{new_name, spot_in, bitmap_in, spot_or_none, bitmap_or_none, brush_in, brush_or_none}
use Rattle.script_names.specs.Fields.{format_in, table_in, value_in, face_in, mix_in, named_in, clip_in, operation_of}
use Rattle.script_names.specs.Names.{Name, NameMap, brush, bitmap, region, table, with_name, without_name}
use Rattle.script_read.specs.Regions.{named_region_in}
use Rattle.script_read.specs.State.{ReaderState}

-- a line's meaning: what it asks, and the state after it
abbrev pub Meaning : Type 0
Meaning = Result (ScriptCommand × ReaderState) Refusal

-- one more name fits
abbrev pub has_room : ReaderState → Bool
has_room s = nat_lt s.live most_names

-- one more name in use
abbrev pub with_kept : List ℕ → Name → ReaderState → ReaderState
with_kept name what s = record s { names = with_name name what s.names; live = s.live + 1 }

-- one more bitmap of a size fits
abbrev pub has_room_for : ReaderState → Size → Bool
has_room_for s size =
    has_room s && nat_lt s.bitmaps most_bitmaps && nat_le (size.w * size.h) most_pixels && nat_le (s.pixels + size.w * size.h) most_bitmap_pixels

-- back C
unfoldable pub read_back : ReaderState → List (List ℕ) → Meaning
read_back s words = do
  colour ← colour_in (word_at words 1)
  Ok (asked.Nothing, record s { back = colour })

-- a bitmap to be made, by the words NAME W H FORMAT [TABLE]
unfoldable pub create_in : NameMap → ℕ → List (List ℕ) → Result CreateOrder Refusal
create_in names number words = do
  _ ← new_name names (word_at words 1)
  w ← count_in 1 most_side (word_at words 2)
  h ← count_in 1 most_side (word_at words 3)
  format ← format_in (word_at words 4)
  colours ← table_in names words (length words) format
  _ ← ask (length colours == colours_of format) TableMisfit
  Ok (record { number = number; size = record { w = w; h = h }; format = format; table = colours })

-- one more bitmap under a name, where it fits
unfoldable pub keep_bitmap : ReaderState → List ℕ → CreateOrder → Meaning
keep_bitmap s name o = do
  _ ← ask (has_room_for s o.size) PastLimit
  Ok (
    asked.Create o,
    record (with_kept name (bitmap (record { number = o.number; size = o.size; format = o.format })) s) {
      bitmaps = s.bitmaps + 1;
      pixels = s.pixels + o.size.w * o.size.h;
      made = s.made ++ name ∷ [];
    },
  )

-- bitmap NAME W H FORMAT [TABLE]; its number is how many were made before
unfoldable pub read_bitmap : ReaderState → List (List ℕ) → Meaning
read_bitmap s words = do
  o ← create_in s.names (length s.made) words
  keep_bitmap s (word_at words 1) o

-- blt TARGET R SRC SX SY MASK MX MY BRUSH ROP4
unfoldable pub read_blt : ReaderState → List (List ℕ) → Meaning
read_blt s words = do
  target ← spot_in s.names (word_at words 1)
  rect ← rect_in words 2
  source ← spot_or_none s.names (word_at words 6)
  src ← point_in words 7
  mask ← bitmap_or_none s.names (word_at words 9)
  at ← point_in words 10
  with ← brush_or_none s.names (word_at words 12)
  code ← hexadecimal_in 4 (word_at words 13)
  _ ← ask (is_well_ordered rect) NotOrdered
  _ ← ask (has_operands code source mask with) OperandMissing
  let bits = needed_mask (mask_needed code) mask
  _ ← ask (is_mono_mask bits) MaskNotMono
  _ ← ask (is_other target bits) MaskIsTarget
  Ok (
    asked.Draw (record {
      target = target;
      call = calls.Blt (blt_from rect src at s.origin code);
      source = needed_feed (source_needed code) source;
      mask = number_of_mask bits;
      brush = with;
      clip = s.clip;
      back = s.back;
    }),
    s,
  )

-- brush NAME solid C, brush NAME hatch KIND FORE BACK, and brush NAME pattern BITMAP
unfoldable pub read_brush : ReaderState → List (List ℕ) → Meaning
read_brush s words = do
  let name = word_at words 1
  _ ← new_name s.names name
  face ← face_in s.names words
  _ ← ask (face.fits && has_room s && nat_lt s.brushes most_brushes) PastLimit
  Ok (
    asked.Brush (record { number = s.brushes; face = face.face; back = s.back }),
    record (with_kept name (brush s.brushes) s) { brushes = s.brushes + 1 },
  )

-- brushorg X Y
unfoldable pub read_brushorg : ReaderState → List (List ℕ) → Meaning
read_brushorg s words = do
  origin ← point_in words 1
  Ok (asked.Nothing, record s { origin = origin })

-- clip NAME: a region's name, or `none`
unfoldable pub read_clip : ReaderState → List (List ℕ) → Meaning
read_clip s words = do
  clip ← clip_in s.names (word_at words 1)
  Ok (asked.Nothing, record s { clip = clip })

-- copy TARGET R SRC SX SY
unfoldable pub read_copy : ReaderState → List (List ℕ) → Meaning
read_copy s words = do
  target ← spot_in s.names (word_at words 1)
  rect ← rect_in words 2
  source ← spot_in s.names (word_at words 6)
  src ← point_in words 7
  _ ← ask (is_well_ordered rect) NotOrdered
  Ok (
    asked.Draw (record {
      target = target;
      call = calls.Copy (copy_from rect src);
      source = feed_from source;
      mask = None;
      brush = uses.Nothing;
      clip = s.clip;
      back = s.back;
    }),
    s,
  )

-- delete NAME
unfoldable pub read_delete : ReaderState → List (List ℕ) → Meaning
read_delete s words = do
  let name = word_at words 1
  b ← bitmap_in s.names name
  Ok (
    asked.Delete b.number,
    record s {
      names = without_name name s.names;
      live = s.live - 1;
      bitmaps = s.bitmaps - 1;
      pixels = s.pixels - b.size.w * b.size.h;
    },
  )

-- dump X
unfoldable pub read_dump : ReaderState → List (List ℕ) → Meaning
read_dump s words = do
  surface ← named_in s.names (word_at words 1)
  Ok (asked.Dump surface, s)

-- paint TARGET R BRUSH MIX
unfoldable pub read_paint : ReaderState → List (List ℕ) → Meaning
read_paint s words = do
  target ← spot_in s.names (word_at words 1)
  rect ← rect_in words 2
  with ← brush_in s.names (word_at words 6)
  mix ← mix_in (word_at words 7)
  _ ← ask (is_well_ordered rect) NotOrdered
  Ok (
    asked.Draw (record {
      target = target;
      call = calls.Paint (paint_from rect s.origin mix);
      source = feeds.Nothing;
      mask = None;
      brush = with;
      clip = s.clip;
      back = s.back;
    }),
    s,
  )

-- pixels NAME X Y V ..
unfoldable pub read_pixels : ReaderState → List (List ℕ) → Meaning
read_pixels s words = do
  b ← bitmap_in s.names (word_at words 1)
  at ← point_in words 2
  values ← each (value_in b.format) (drop 4 words)
  Ok (
    asked.Draw (record {
      target = spots.Bitmap b.number;
      call = calls.Copy (copy_from (row_rect at (length values)) zero_point);
      source = feeds.Row values;
      mask = None;
      brush = uses.Nothing;
      clip = s.clip;
      back = s.back;
    }),
    s,
  )

-- one more region of so many rectangles fits
abbrev pub has_room_for_rects : ReaderState → ℕ → Bool
has_room_for_rects s count = has_room s && nat_le (s.rectangles + count) most_region_rects

-- one more region under a name, where it fits
unfoldable pub keep_region : ReaderState → List ℕ → List Rect → Meaning
keep_region s name rects = do
  _ ← ask (has_room_for_rects s (length rects)) PastLimit
  _ ← ask (nat_le (length rects) most_rects) RegionTooLarge
  Ok (
    asked.Nothing,
    record (with_kept name (region rects) s) { rectangles = s.rectangles + length rects },
  )

-- region NAME rects [R ...], region NAME OP A B, and region NAME offset A DX DY
unfoldable pub read_region : ReaderState → List (List ℕ) → Meaning
read_region s words = do
  rects ← named_region_in s.names words
  keep_region s (word_at words 1) rects

-- sum X
unfoldable pub read_sum : ReaderState → List (List ℕ) → Meaning
read_sum s words = do
  surface ← named_in s.names (word_at words 1)
  Ok (asked.Sum surface, s)

-- table NAME C ..
unfoldable pub read_table : ReaderState → List (List ℕ) → Meaning
read_table s words = do
  let name = word_at words 1
  _ ← new_name s.names name
  colours ← each colour_in (drop 2 words)
  _ ← ask (has_room s && nat_lt s.tables most_tables) PastLimit
  Ok (asked.Nothing, record (with_kept name (table colours) s) { tables = s.tables + 1 })

-- a brush of a form has so many words; where the word is no form the number isn't asked
abbrev pub brush_fits : List ℕ → ℕ → Bool
brush_fits form count =
    if bytes_eq form (codes "solid") then count == 4
    else if bytes_eq form (codes "hatch") then count == 6
    else if bytes_eq form (codes "pattern") then count == 4
    else nat_le 3 count

-- a region of a form has so many words; where the word is no form the number isn't asked
abbrev pub region_fits : List ℕ → ℕ → Bool
region_fits form count =
    if bytes_eq form (codes "rects") then nat_le 3 count && (count - 3) % 4 == 0
    else if bytes_eq form (codes "offset") then count == 6
    else if is_some (operation_of form) then count == 5
    else nat_le 3 count

-- a line of a command has so many words
abbrev pub count_fits : Verb → List (List ℕ) → Bool
count_fits verbs.Back words = length words == 2
count_fits verbs.Bitmap words = length words == 5 || length words == 6
count_fits verbs.Blt words = length words == 14
count_fits verbs.Brush words = brush_fits (word_at words 2) (length words)
count_fits verbs.Brushorg words = length words == 3
count_fits verbs.Clip words = length words == 2
count_fits verbs.Copy words = length words == 9
count_fits verbs.Delete words = length words == 2
count_fits verbs.Dump words = length words == 2
count_fits verbs.Paint words = length words == 8
count_fits verbs.Pixels words = nat_le 5 (length words)
count_fits verbs.Region words = region_fits (word_at words 2) (length words)
count_fits verbs.Sum words = length words == 2
count_fits verbs.Table words = length words == 4 || length words == 18 || length words == 258

abbrev pub meaning_of : Verb → ReaderState → List (List ℕ) → Meaning
meaning_of verbs.Back s words = read_back s words
meaning_of verbs.Bitmap s words = read_bitmap s words
meaning_of verbs.Blt s words = read_blt s words
meaning_of verbs.Brush s words = read_brush s words
meaning_of verbs.Brushorg s words = read_brushorg s words
meaning_of verbs.Clip s words = read_clip s words
meaning_of verbs.Copy s words = read_copy s words
meaning_of verbs.Delete s words = read_delete s words
meaning_of verbs.Dump s words = read_dump s words
meaning_of verbs.Paint s words = read_paint s words
meaning_of verbs.Pixels s words = read_pixels s words
meaning_of verbs.Region s words = read_region s words
meaning_of verbs.Sum s words = read_sum s words
meaning_of verbs.Table s words = read_table s words

-- the word of each command
abbrev pub spelling_of : Verb → List ℕ
spelling_of verbs.Back = codes "back"
spelling_of verbs.Bitmap = codes "bitmap"
spelling_of verbs.Blt = codes "blt"
spelling_of verbs.Brush = codes "brush"
spelling_of verbs.Brushorg = codes "brushorg"
spelling_of verbs.Clip = codes "clip"
spelling_of verbs.Copy = codes "copy"
spelling_of verbs.Delete = codes "delete"
spelling_of verbs.Dump = codes "dump"
spelling_of verbs.Paint = codes "paint"
spelling_of verbs.Pixels = codes "pixels"
spelling_of verbs.Region = codes "region"
spelling_of verbs.Sum = codes "sum"
spelling_of verbs.Table = codes "table"

abbrev pub all_verbs : List Verb
all_verbs =
    verbs.Back ∷ verbs.Bitmap ∷ verbs.Blt ∷ verbs.Brush ∷ verbs.Brushorg ∷ verbs.Clip ∷ verbs.Copy ∷
    verbs.Delete ∷ verbs.Dump ∷ verbs.Paint ∷ verbs.Pixels ∷ verbs.Region ∷ verbs.Sum ∷ verbs.Table ∷ []

-- the command that a word names
abbrev pub verb_among : List Verb → List ℕ → Result Verb Refusal
verb_among [] word = Err UnknownCommand
verb_among (v ∷ verbs) word = if bytes_eq (spelling_of v) word then Ok v else verb_among verbs word

-- one line after so many commands: their number is asked first, then the command, the number of words, and the words
unfoldable pub read_line : ℕ → ReaderState → List (List ℕ) → Meaning
read_line commands s words = do
  _ ← ask (nat_lt commands most_commands) TooManyCommands
  verb ← verb_among all_verbs (word_at words 0)
  _ ← ask (count_fits verb words) WordCount
  meaning_of verb s words
