-- What the functions inside answer: the reader as a state, and each answer beside its definition. No public promise speaks of these.
use Rattle.std.specs.Prelude.{◌≡◌, ◌<◌, ◌≤◌, ℕ, List, length, map, Option, Result, Ok, Err}
use Rattle.std.specs.Option.{option_to_list}
use Rattle.geom_base.specs.declared.rect.Rect.{Rect}
use Rattle.region.specs.Limits.{most_rects}
use Rattle.region.specs.declared.refusal.RegionRefusal.{RegionRefusal}
use Rattle.region.specs.declared.refusal.RegionRefusal.TheVariants.{TooMany, NoMemory}
use Rattle.region.specs.Window.{Within}
use Rattle.script_words.specs.Asking.{FailsAs}
use Rattle.script_words.specs.declared.refusal.Refusal.{Refusal}
use Rattle.script_words.specs.declared.refusal.ReadError.{ReadError}
use Rattle.script_words.specs.declared.refusal.ReadError.TheVariants as errors
use Rattle.script_orders.specs.declared.script_command.ScriptCommand.{ScriptCommand}
use Rattle.script_names.specs.Names.{names_of}
use Rattle.script_read.specs.declared.reader.Reader.{Reader}
use Rattle.script_read.specs.declared.refusal.ScriptRefusal.{ScriptRefusal}
use Rattle.script_read.specs.declared.refusal.ScriptRefusal.TheVariants as script_refusals
use Rattle.script_read.specs.State.{ReaderState}
use Rattle.script_read.specs.Reading.{number_of_refusal}

abbrev pub state_of : Reader → ReaderState
state_of r = record {
  names = names_of r.names;
  live = r.live;
  brushes = r.brushes;
  tables = r.tables;
  bitmaps = r.bitmaps;
  pixels = r.pixels;
  rectangles = r.rectangles;
  made = map (λ w. w.now) r.made.items;
  origin = r.origin;
  clip = r.clip;
  back = r.back;
}

-- the region that the definition gives, or the number of its rectangles where these are too many, unless memory ran out
abbrev pub FindsRegion : Result (Result (List Rect) RegionRefusal) ReadError → Result (List Rect) Refusal → Type 0
FindsRegion (Ok (Ok rects)) read = (read ≡ Ok rects) × Within rects × (length rects ≤ most_rects)
FindsRegion (Ok (Err (TooMany n))) read = (rects : List Rect) × (read ≡ Ok rects) × (n ≡ length rects) × (most_rects < length rects)
FindsRegion (Ok (Err NoMemory)) read = Unit {0}
FindsRegion (Err e) read = FailsAs e read

-- a line was read as the definition says, and left this state, unless memory ran out
abbrev pub ReadsLine : Result ScriptCommand ReadError → ReaderState → Result (ScriptCommand × ReaderState) Refusal → Type 0
ReadsLine (Ok command) after read = read ≡ Ok (command, after)
ReadsLine (Err (errors.Refused refusal)) after read = read ≡ Err refusal
ReadsLine (Err errors.NoMemory) after read = Unit {0}

-- a line was read as the definition says, and left this state, unless memory ran out
abbrev pub ReadsTextLine : Result (Option ScriptCommand) ReadError → ReaderState → Result (List ScriptCommand × ReaderState) Refusal → Type 0
ReadsTextLine (Ok command) after read = read ≡ Ok (option_to_list command, after)
ReadsTextLine (Err (errors.Refused refusal)) after read = read ≡ Err refusal
ReadsTextLine (Err errors.NoMemory) after read = Unit {0}

-- the refusal of a line for an error
abbrev pub RefusesLine : ScriptRefusal → ℕ → ReadError → Type 0
RefusesLine answer line errors.NoMemory = answer ≡ script_refusals.NoMemory
RefusesLine answer line (errors.Refused refusal) = answer ≡ script_refusals.Refused line (number_of_refusal refusal)
