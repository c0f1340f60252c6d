-- What the reader knows of what is there. No public promise speaks of it.
use Rattle.std.specs.Prelude.{◌≡◌, ◌<◌, ℕ, List, length, Some, IfOk}
use Rattle.script_words.specs.Lines.{word_at}
use Rattle.script_orders.specs.declared.script_command.ScriptCommand.{ScriptCommand}
use Rattle.script_orders.specs.Live.{Live, Look, look_at, CanDo, after}
use Rattle.script_orders.specs.Places.{IsPlace}
use Rattle.script_names.specs.declared.entry.Bitmap.{Bitmap}
use Rattle.script_names.specs.Names.{NameMap, bitmap, brush}
use Rattle.script_read.specs.Commands.{Meaning}
use Rattle.script_read.specs.State.{ReaderState}

abbrev pub look_of : Bitmap → Look
look_of b = record { size = b.size; format = b.format }

-- a bitmap is there, as its name says
abbrev pub IsKept : Live → Bitmap → Type 0
IsKept l b = look_at l b.number ≡ Some (look_of b)

-- a name leads to a bitmap that is there, and is the one under which it was made
pub record LeadsTo (made : List (List ℕ)) (l : Live) (word : List ℕ) (b : Bitmap) : Type 0 where
  pub there : IsKept l b
  pub made_as : word_at made b.number ≡ word

-- so many bitmaps and brushes were made, and each name leads to one of them
pub record KnowsNames (names : NameMap) (made : List (List ℕ)) (brushes : ℕ) (l : Live) : Type 0 where
  pub bitmaps_made : length made ≡ length l.bitmaps
  pub brushes_made : brushes ≡ l.brushes
  pub bitmap_names : (word : List ℕ) (b : Bitmap) → names word ≡ Some (bitmap b) → LeadsTo made l word b
  pub brush_names : (word : List ℕ) (n : ℕ) → names word ≡ Some (brush n) → n < l.brushes

-- the reader knows what is there, and keeps an origin that is a script's point
abbrev pub Knows : ReaderState → Live → Type 0
Knows s l = KnowsNames s.names s.made s.brushes l × IsPlace s.origin

-- a command can be done, and the reader knows what is there after it
abbrev pub CanAsk : Live → ScriptCommand × ReaderState → Type 0
CanAsk l asked = CanDo l asked.0 × Knows asked.1 (after asked.0 l)

-- and so it is with what a line means
abbrev pub CanMean : Live → Meaning → Type 0
CanMean l meaning = IfOk meaning (CanAsk l)
