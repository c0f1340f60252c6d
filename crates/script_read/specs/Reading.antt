-- A whole script.
use Rattle.std.specs.Prelude.{◌≡◌, ℕ, ◌+◌, List, [], ◌∷◌, ◌++◌, length, slice_index, Result, Ok, Err, Bool, ◌==◌, ◌||◌, if◌then◌else◌}
use Rattle.script_orders.specs.declared.script_command.ScriptCommand.{ScriptCommand}
use Rattle.script_orders.specs.Asked.{Asked}
use Rattle.script_words.specs.declared.refusal.Refusal.{Refusal}
use Rattle.script_words.specs.declared.refusal.Refusal.TheVariants as refusals
use Rattle.script_read.specs.declared.refusal.ScriptRefusal.{ScriptRefusal}
use Rattle.script_read.specs.declared.refusal.ScriptRefusal.TheVariants as script_refusals
use Rattle.script_words.specs.Asking.{◌>>=◌}
use Rattle.script_words.specs.Lines.{words_of}
use Rattle.script_read.specs.State.{ReaderState}
use Rattle.script_read.specs.Commands.{read_line}

-- a line that is empty, only spaces, or begins with a # is no command
abbrev pub is_skipped : List ℕ → Bool
is_skipped line = slice_index line 0 == 35 || length (words_of line) == 0

-- what a line asks after so many commands, if anything, and the state after it
unfoldable pub read_text_line : ℕ → ReaderState → List ℕ → Result (List ScriptCommand × ReaderState) Refusal
read_text_line commands s line = if is_skipped line then Ok ([], s) else (do
  x ← read_line commands s (words_of line)
  Ok (x.0 ∷ [], x.1))

-- the first refusal, with the line's number
abbrev pub FirstRefusal : Type 0
FirstRefusal = ℕ × Refusal

-- what was asked before, and then what the rest asks
abbrev pub behind : List ScriptCommand → Result Asked FirstRefusal → Result Asked FirstRefusal
behind front (Ok asked) = Ok (record { commands = front ++ asked.commands; names = asked.names })
behind front (Err e) = Err e

-- what line n asks, and then what the rest asks; a refusal of the line is the first
abbrev pub followed : ℕ → Result (List ScriptCommand × ReaderState) Refusal → (List ScriptCommand → ReaderState → Result Asked FirstRefusal) →
    Result Asked FirstRefusal
followed n (Ok x) rest = behind x.0 (rest x.0 x.1)
followed n (Err refusal) rest = Err (n, refusal)

-- what the lines ask after so many commands, the first of them being line n
unfoldable pub read_lines : ℕ → ℕ → ReaderState → List (List ℕ) → Result Asked FirstRefusal
read_lines n commands s [] = Ok (record { commands = []; names = s.made })
read_lines n commands s (line ∷ lines) =
    followed n (read_text_line commands s line) (λ asked after. read_lines (n + 1) (commands + length asked) after lines)

-- the number of a refusal
abbrev pub number_of_refusal : Refusal → ℕ
number_of_refusal refusals.UnknownCommand = 1
number_of_refusal refusals.WordCount = 2
number_of_refusal refusals.Spelling = 3
number_of_refusal refusals.Range = 4
number_of_refusal refusals.UnknownName = 5
number_of_refusal refusals.NameInUse = 6
number_of_refusal refusals.BadName = 7
number_of_refusal refusals.NotOrdered = 8
number_of_refusal refusals.OperandMissing = 9
number_of_refusal refusals.MaskNotMono = 10
number_of_refusal refusals.MaskIsTarget = 11
number_of_refusal refusals.PastLimit = 12
number_of_refusal refusals.RegionTooLarge = 13
number_of_refusal refusals.TooManyCommands = 14
number_of_refusal refusals.TableMisfit = 15

-- the first refusal is at this line and has this number
abbrev pub RefusedAs : ℕ → ℕ → Result Asked FirstRefusal → Type 0
RefusedAs line number (Ok asked) = ⊥
RefusedAs line number (Err e) = (e.0 ≡ line) × (number_of_refusal e.1 ≡ number)

-- the answer is exactly what the definition says: these commands, or the first refusal, unless memory ran out
abbrev pub Answers : Result Asked ScriptRefusal → Result Asked FirstRefusal → Type 0
Answers (Ok asked) read = read ≡ Ok asked
Answers (Err (script_refusals.Refused line number)) read = RefusedAs line number read
Answers (Err script_refusals.NoMemory) read = Unit {0}
