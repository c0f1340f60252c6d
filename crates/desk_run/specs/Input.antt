-- The checked input: a configuration and commands, or the first refusal.
use Rattle.std.specs.Prelude.{◌≡◌, ℕ, ◌+◌, ◌≤◌, List, take, drop, length, codes, Option, Some, None, Result, Ok, Err, nat_lt, if◌then◌else◌}
use Rattle.geom_base.specs.Points.{most_side}
use Rattle.desk_io.specs.Sources.{most_bytes}
use Rattle.script_orders.specs.Asked.{Asked}
use Rattle.desk_run.specs.declared.config.DeskConfig.{DeskConfig}
use Rattle.desk_run.specs.declared.input.Input.{Input}
use Rattle.desk_run.specs.declared.input.InputError.{InputError}
use Rattle.desk_run.specs.declared.input.InputError.TheVariants.{Refused, NoMemory}
use Rattle.desk_run.specs.declared.status.InputRefusal.{InputRefusal}
use Rattle.desk_run.specs.declared.status.InputRefusal.TheVariants.{Size as TooLong, Config, Script}
use Rattle.desk_run.specs.Config.{config_of}
use Rattle.script_words.specs.Asking.{◌>>=◌}
use Rattle.script_words.specs.Lines.{lines_of, lines_before}
use Rattle.script_read.specs.State.{first_reader_state}
use Rattle.script_read.specs.Reading.{FirstRefusal, read_lines, number_of_refusal}

-- what an accepted input asks for
pub record Checked : Type 0 where
  pub config : DeskConfig
  pub script : Asked

-- the widths and heights that a screen may have
pub record IsSide (n : ℕ) : Type 0 where
  pub least : 1 ≤ n
  pub most : n ≤ most_side

-- the first refusal of a script, with its line and its number
abbrev pub refused_script : Result Asked FirstRefusal → Result Asked InputRefusal
refused_script (Ok asked) = Ok asked
refused_script (Err r) = Err (Script r.0 (number_of_refusal r.1))

-- what the lines of a script ask for, the first of them being line n of the input
abbrev pub script_of : ℕ → List (List ℕ) → Result Asked InputRefusal
script_of n lines = refused_script (read_lines n 0 first_reader_state lines)

-- so many lines are the configuration, then comes `%%`, and then the script; without that line it is no input
abbrev pub checked_parts : Option ℕ → List (List ℕ) → Result Checked InputRefusal
checked_parts None lines = Err (Config 10)
checked_parts (Some n) lines = do
  config ← config_of (take n lines)
  script ← script_of (n + 2) (drop (n + 1) lines)
  Ok (record { config = config; script = script })

-- what an input asks for, or its first refusal: the first line that is exactly `%%` ends the configuration
unfoldable pub checked : List ℕ → Result Checked InputRefusal
checked bytes =
    if nat_lt most_bytes (length bytes) then Err TooLong
    else checked_parts (lines_before (codes "%%") (lines_of bytes)) (lines_of bytes)

-- what a value of the code says
abbrev pub checked_of : Input → Checked
checked_of i = record { config = i.config; script = i.script }

-- what was read is what the definition gives, unless memory ran out
abbrev pub AnswersInput : Result Input InputError → Result Checked InputRefusal → Type 0
AnswersInput (Ok i) asked = asked ≡ Ok (checked_of i)
AnswersInput (Err (Refused r)) asked = asked ≡ Err r
AnswersInput (Err NoMemory) asked = Unit {0}

-- the same for the script alone
abbrev pub AnswersScript : Result Asked InputError → Result Asked InputRefusal → Type 0
AnswersScript (Ok script) asked = asked ≡ Ok script
AnswersScript (Err (Refused r)) asked = asked ≡ Err r
AnswersScript (Err NoMemory) asked = Unit {0}
