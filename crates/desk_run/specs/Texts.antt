-- What is written: lines of bytes.
use Rattle.std.specs.Prelude.{ℕ, zero, suc, ◌+◌, ◌*◌, ◌/◌, ◌%◌, ◌^◌, List, [], ◌∷◌, ◌++◌, length, take, drop}
use Rattle.std.specs.Prelude.{codes, decimal, nat_lt, slice_index_or, if◌then◌else◌}
use Rattle.std.specs.List.{flat_map, fold}
use Rattle.std.specs.Fmt.{signed_decimal}
use Rattle.geom_base.specs.declared.rect.Rect.{Rect}
use Rattle.geom_base.specs.declared.size.Size.{Size as SurfaceSize}
use Rattle.copy_port.specs.declared.words.Kind.{Kind}
use Rattle.copy_port.specs.declared.words.Kind.TheVariants.{Linear, Banked, Accel, Mirror}
use Rattle.copy_port.specs.declared.words.Limit.{Limit}
use Rattle.copy_port.specs.declared.words.Limit.TheVariants as limits
use Rattle.pix_format.specs.declared.format.Format.{Format}
use Rattle.pix_format.specs.declared.format.Format.TheVariants.{B1, B4, B8, B555, B565, B24, B32}
use Rattle.pix_format.specs.Value.{digits_of}
use Rattle.script_orders.specs.declared.named.Named.{Named}
use Rattle.script_orders.specs.declared.named.Named.TheVariants.{Screen, Bitmap}
use Rattle.desk_run.specs.declared.status.InputRefusal.{InputRefusal}
use Rattle.desk_run.specs.declared.status.InputRefusal.TheVariants.{Size, Config, Script}
use Rattle.desk_run.specs.declared.status.Status.{Status}
use Rattle.desk_run.specs.declared.status.Status.TheVariants.{Usage, InputRefused, ShelfShort, EnableFault, ModeRefused}
use Rattle.hook_route.specs.declared.outcome.Cause.{Cause}
use Rattle.hook_route.specs.declared.outcome.Cause.TheVariants.{Fault, Memory}
use Rattle.desk_span.specs.Reports.{Told}

abbrev pub hex_digit : ℕ → ℕ
hex_digit n = if nat_lt n 10 then 48 + n else 87 + n

-- so many hexadecimal digits of a value, the highest first
unfoldable pub hex_digits : ℕ → ℕ → List ℕ
hex_digits zero value = []
hex_digits (suc digits) value = hex_digits digits (value / 16) ++ hex_digit (value % 16) ∷ []

-- how a format is named
abbrev pub format_text : Format → List ℕ
format_text B1 = codes "1"
format_text B4 = codes "4"
format_text B8 = codes "8"
format_text B555 = codes "555"
format_text B565 = codes "565"
format_text B24 = codes "24"
format_text B32 = codes "32"

-- the line of a row
abbrev pub row_text : ℕ → List ℕ → List ℕ
row_text digits values = flat_map (hex_digits digits) values ++ 10 ∷ []

-- the lines of so many rows of a width, from the top
abbrev pub rows_text : ℕ → ℕ → ℕ → List ℕ → List ℕ
rows_text digits width zero values = []
rows_text digits width (suc height) values = row_text digits (take width values) ++ rows_text digits width height (drop width values)

-- the names of the bitmaps that a script makes
abbrev pub BitmapNames : Type 0
BitmapNames = List (List ℕ)

-- how a surface is named: a screen by its number, a bitmap by its name
abbrev pub name_text : BitmapNames → Named → List ℕ
name_text names (Screen n) = decimal n
name_text names (Bitmap n) = slice_index_or names n []

abbrev pub head_text : BitmapNames → Named → SurfaceSize → Format → List ℕ
head_text names q size format =
    codes "dump " ++ name_text names q ++ codes " " ++ decimal size.w ++ codes " " ++ decimal size.h ++ codes " " ++ format_text format ++ codes "\n"

-- the lines of a dump: its head, and a line for each row
abbrev pub dump_text : BitmapNames → Named → SurfaceSize → Format → List ℕ → List ℕ
dump_text names q size format values = head_text names q size format ++ rows_text (digits_of format) size.w size.h values

-- a sum with more values: for each value 31 times the sum so far and the value, within 64 bits
abbrev pub sum_on : ℕ → List ℕ → ℕ
sum_on sum values = fold (λ s v. (s * 31 + v) % 2 ^ 64) sum values

-- the sum of values, from 0 on
abbrev pub sum_of : List ℕ → ℕ
sum_of values = sum_on 0 values

-- the line of a sum, with 16 digits
abbrev pub sum_line_text : BitmapNames → Named → ℕ → List ℕ
sum_line_text names q sum = codes "sum " ++ name_text names q ++ codes " " ++ hex_digits 16 sum ++ codes "\n"

abbrev pub sum_text : BitmapNames → Named → List ℕ → List ℕ
sum_text names q values = sum_line_text names q (sum_of values)

abbrev pub cause_text : Cause → List ℕ
cause_text Fault = codes "fault"
cause_text Memory = codes "memory"

-- the one line of a surface that could not be read, for a command with this word
abbrev pub unread_text : List ℕ → BitmapNames → Named → Cause → List ℕ
unread_text word names q cause = word ++ name_text names q ++ codes " " ++ cause_text cause ++ codes "\n"

abbrev pub drawn_text : BitmapNames → Named → Rect → List ℕ
drawn_text names q r =
    codes "drawn " ++ name_text names q ++ codes " " ++ signed_decimal r.left ++ codes " " ++ signed_decimal r.top
    ++ codes " " ++ signed_decimal r.right ++ codes " " ++ signed_decimal r.bottom ++ codes "\n"

-- the first line of a report of command n
abbrev pub report_head_text : BitmapNames → ℕ → Cause → Named → ℕ → List ℕ
report_head_text names n cause q count =
    codes "command " ++ decimal n ++ codes " " ++ cause_text cause ++ codes " " ++ name_text names q ++ codes " " ++ decimal count ++ codes "\n"

-- the lines of a report of command n: its head, and a line for each rectangle that was done
abbrev pub report_text : BitmapNames → ℕ → Told → List ℕ
report_text names n t = report_head_text names n t.cause t.target (length t.rects) ++ flat_map (drawn_text names t.target) t.rects

-- the last line of a run
abbrev pub end_text : ℕ → List ℕ
end_text n = codes "end " ++ decimal n ++ codes "\n"

abbrev pub refusal_text : InputRefusal → List ℕ
refusal_text Size = codes "refused input size\n"
refusal_text (Config n) = codes "refused config " ++ decimal n ++ codes "\n"
refusal_text (Script line n) = codes "refused script " ++ decimal line ++ codes " " ++ decimal n ++ codes "\n"

abbrev pub kind_text : Kind → List ℕ
kind_text Linear = codes "linear"
kind_text Banked = codes "banked"
kind_text Accel = codes "accel"
kind_text Mirror = codes "mirror"

abbrev pub limit_text : Limit → List ℕ
limit_text limits.Width = codes "width"
limit_text limits.Height = codes "height"
limit_text limits.Format = codes "format"
limit_text limits.Extra = codes "extra"

-- the line of a shelf that is short of drivers of a kind
abbrev pub shelf_text : Kind → ℕ → ℕ → List ℕ
shelf_text kind wanted held = codes "shelf " ++ kind_text kind ++ codes " " ++ decimal wanted ++ codes " " ++ decimal held ++ codes "\n"

-- the line of a screen whose driver wasn't enabled, and why
abbrev pub enable_text : ℕ → List ℕ → List ℕ
enable_text screen why = codes "enable " ++ decimal screen ++ codes " " ++ why ++ codes "\n"

-- the text of a status that draws nothing
abbrev pub plain_text : Status → List ℕ
plain_text Usage = codes "usage\n"
plain_text (InputRefused r) = refusal_text r
plain_text (ShelfShort kind wanted held) = shelf_text kind wanted held
plain_text (EnableFault screen) = enable_text screen (codes "fault")
plain_text (ModeRefused screen limit) = enable_text screen (codes "mode " ++ limit_text limit)
plain_text _ = []
