-- The configuration: one linear screen of format 8, of any width and height in range.
use Rattle.std.specs.Prelude.{◌≡◌, ℕ, ◌*◌, List, [], ◌∷◌, take, drop, length, codes, slice_index, Option, Some, None}
use Rattle.std.specs.Prelude.{Result, Ok, Err, Bool, ◌==◌, nat_le, ◌&&◌, if◌then◌else◌}
use Rattle.std.specs.Str.{bytes_eq}
use Rattle.geom_base.specs.Points.{most_side}
use Rattle.copy_port.specs.declared.classes.Classes.{Classes}
use Rattle.copy_port.specs.declared.hooks.Hooks.{Hooks}
use Rattle.copy_port.specs.declared.words.Mode.{Mode}
use Rattle.pix_format.specs.Standard.{standard_colours}
use Rattle.pix_format.specs.declared.format.Format.TheVariants.{B8}
use Rattle.desk_run.specs.declared.config.DeskConfig.{DeskConfig}
use Rattle.desk_run.specs.declared.input.InputError.{InputError}
use Rattle.desk_run.specs.declared.input.InputError.TheVariants.{Refused, NoMemory}
use Rattle.desk_run.specs.declared.status.InputRefusal.{InputRefusal}
use Rattle.desk_run.specs.declared.status.InputRefusal.TheVariants.{Config}
use Rattle.script_words.specs.Asking.{◌>>=◌, ask}
use Rattle.script_words.specs.Lines.{word_at}
use Rattle.script_words.specs.Spelling.{digits_in}

-- a side of a screen
abbrev pub side_in_range : Option ℕ → Result ℕ InputRefusal
side_in_range None = Err (Config 0)
side_in_range (Some n) = if nat_le 1 n && nat_le n most_side then Ok n else Err (Config 0)

-- a side of a screen in decimal digits, without a leading zero
abbrev pub side_of : List ℕ → Result ℕ InputRefusal
side_of word = if slice_index word 0 == 48 then Err (Config 0) else side_in_range (digits_in 10 9 word)

-- a line that begins with a key and has a side behind it
abbrev pub side_behind : List ℕ → List ℕ → Result ℕ InputRefusal
side_behind key line = if bytes_eq (take (length key) line) key then side_of (drop (length key) line) else Err (Config 0)

-- the lines that name no side
abbrev pub has_fixed_lines : List (List ℕ) → Bool
has_fixed_lines lines =
    bytes_eq (word_at lines 0) (codes "[[screen]]")
    && bytes_eq (word_at lines 1) (codes "kind = \"linear\"")
    && bytes_eq (word_at lines 2) (codes "x = 0")
    && bytes_eq (word_at lines 3) (codes "y = 0")
    && bytes_eq (word_at lines 6) (codes "format = \"8\"")

-- seven lines, of which two name the width and the height
unfoldable pub config_of : List (List ℕ) → Result DeskConfig InputRefusal
config_of lines = do
  _ ← ask (length lines == 7 && has_fixed_lines lines) (Config 0)
  width ← side_behind (codes "width = ") (word_at lines 4)
  height ← side_behind (codes "height = ") (word_at lines 5)
  _ ← ask (nat_le (width * height) 4194304) (Config 0)
  Ok (record { size = record { w = width; h = height } })

-- all calls and all classes
abbrev pub all_hooks : Hooks
all_hooks = record { 0 = 511 }

abbrev pub all_classes : Classes
all_classes = record { 0 = 1023 }

-- the mode of the screen: all calls are hooked, all classes taken, nothing is declined, and no call of the device fails
abbrev pub mode_of : DeskConfig → Mode
mode_of c = record {
  size = c.size;
  format = B8;
  table = standard_colours B8;
  hooks = all_hooks;
  takes = all_classes;
  decline = 0;
  bank = 65536;
  ring = 4096;
  spare = 256;
  pace = 1 ∷ [];
  faults = [];
}

-- what was read is what the definition gives, unless memory ran out
abbrev pub AnswersConfig : Result DeskConfig InputError → Result DeskConfig InputRefusal → Type 0
AnswersConfig (Ok config) asked = asked ≡ Ok config
AnswersConfig (Err (Refused r)) asked = asked ≡ Err r
AnswersConfig (Err NoMemory) asked = Unit {0}
