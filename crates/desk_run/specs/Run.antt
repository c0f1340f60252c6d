-- A run: commands one after the other, and what is written of them.
use Rattle.std.specs.Prelude.{◌≡◌, ℕ, ◌+◌, Bool, true, false, List, [], ◌∷◌, ◌++◌, length, take, drop, codes, Option, ◌⊎◌}
use Rattle.std.specs.List.{flat_map}
use Rattle.std.specs.Option.{option_map_or}
use Rattle.desk_io.specs.Sinks.{Puts}
use Rattle.surf_obj.specs.Surface.{Surface}
use Rattle.copy_port.specs.State.{PortState}
use Rattle.script_orders.specs.declared.named.Named.{Named}
use Rattle.script_orders.specs.declared.script_command.ScriptCommand.{ScriptCommand}
use Rattle.script_orders.specs.declared.script_command.ScriptCommand.TheVariants.{Create, Delete, Brush, Draw, Dump, Sum, Nothing}
use Rattle.desk_run.specs.declared.run.Ended.{Ended}
use Rattle.desk_run.specs.declared.run.Ended.TheVariants.{Done, FaultSeen, MemorySeen, NoMemory, WriteFault}
use Rattle.desk_span.specs.Carries.{Carries}
use Rattle.desk_span.specs.Desk.{State, surface_at, carried}
use Rattle.desk_span.specs.Kept.{Kept, Serves, state_by}
use Rattle.desk_span.specs.Reports.{Told}
use Rattle.desk_run.specs.Driven.{Driven}
use Rattle.desk_run.specs.Entries.{Entry, MayTellAll, any_fault, commands_of, is_whole, run}
use Rattle.desk_run.specs.Texts.{BitmapNames, report_text, dump_text, sum_text, unread_text, end_text}

-- a history of the desk and of its screen's driver: what both show then, what was told, and what the driver was asked
pub record History (k l : Kept) (from to : PortState) (h : List Entry) : Type 0 where
  pub screen : l.screen ≡ k.screen
  pub serves : Serves l.screen to
  pub shows : state_by l to ≡ run h (state_by k from)
  pub tells : MayTellAll (state_by k from) h
  pub drives : Driven (state_by k from) h from to

-- the text of a read: that of the surface; or, where it could not be read, the one line with the cause
abbrev pub read_text : List ℕ → BitmapNames → Named → List Told → (Surface → List ℕ) → Option Surface → List ℕ
read_text word names q [] text from = option_map_or text from []
read_text word names q (t ∷ told) text from = unread_text word names q t.cause

-- the lines of command n with its reports, in the state before it
abbrev pub text_of : BitmapNames → ℕ → ScriptCommand → List Told → State → List ℕ
text_of names n (Draw c) told s = flat_map (report_text names n) told
text_of names n (Dump q) told s = read_text (codes "dump ") names q told (λ (t : Surface). dump_text names q t.size t.format t.values) (surface_at s q)
text_of names n (Sum q) told s = read_text (codes "sum ") names q told (λ (t : Surface). sum_text names q t.values) (surface_at s q)
text_of names n (Create o) told s = []
text_of names n (Delete b) told s = []
text_of names n (Brush o) told s = []
text_of names n Nothing told s = []

-- command n that was carried out with these reports: what it left of the desk and the driver, and what was written of it
pub record Carried (names : BitmapNames) (n : ℕ) (command : ScriptCommand) (told : List Told) (k l : Kept) (from to : PortState)
    (old new : Option (List ℕ)) (before after : ℕ) (failed : Bool) : Type 0 where
  pub carries : Carries k l command told from to
  pub wrote : Puts (text_of names n command told (state_by k from)) old new before after failed

-- the lines of these commands, the first being number n
abbrev pub body : BitmapNames → ℕ → List Entry → State → List ℕ
body names n [] s = []
body names n (e ∷ es) s = text_of names n e.command e.told s ++ body names (n + 1) es (carried e.command e.told s)

-- all that is written
abbrev pub out : BitmapNames → List Entry → State → List ℕ
out names h s = body names 1 h s ++ end_text (length h)

-- a command that makes something, and so may end a run for want of memory
abbrev pub Makes : ScriptCommand → Type 0
Makes (Create o) = Unit {0}
Makes (Brush o) = Unit {0}
Makes command = ⊥

abbrev pub NextMakes : List ScriptCommand → Type 0
NextMakes [] = ⊥
NextMakes (command ∷ commands) = Makes command

-- which commands were carried out; for want of memory the next one makes something
abbrev pub EndsAs : List ScriptCommand → List Entry → Ended → Type 0
EndsAs commands h Done = commands_of h ≡ commands
EndsAs commands h FaultSeen = commands_of h ≡ commands
EndsAs commands h MemorySeen = commands_of h ≡ commands
EndsAs commands h NoMemory = (commands_of h ≡ take (length h) commands) × NextMakes (drop (length h) commands)
EndsAs commands h WriteFault = commands_of h ≡ take (length h) commands

-- what was reported: nothing, a fault, or want of memory alone
abbrev pub SeenAs : List Entry → Ended → Type 0
SeenAs h Done = is_whole h ≡ true
SeenAs h FaultSeen = any_fault h ≡ true
SeenAs h MemorySeen = (is_whole h ≡ false) × (any_fault h ≡ false)
SeenAs h ended = Unit {0}

-- what was written of them: all; for want of memory the lines of the commands that were carried out; or, where the sink failed, a prefix
-- of these lines, or of all where no command was left
abbrev pub WroteAs : BitmapNames → List ScriptCommand → State → List Entry → Option (List ℕ) → Option (List ℕ) → ℕ → ℕ → Ended → Type 0
WroteAs names commands s h old new x y Done = Puts (out names h s) old new x y false
WroteAs names commands s h old new x y FaultSeen = Puts (out names h s) old new x y false
WroteAs names commands s h old new x y MemorySeen = Puts (out names h s) old new x y false
WroteAs names commands s h old new x y NoMemory = Puts (body names 1 h s) old new x y false
WroteAs names commands s h old new x y WriteFault = Puts (body names 1 h s) old new x y true
    ⊎ ((commands_of h ≡ commands) × Puts (out names h s) old new x y true)

-- a whole run: the commands that were carried out with their reports, what they left of the desk and the driver, and what was written of them
pub record Ran (names : BitmapNames) (commands : List ScriptCommand) (k l : Kept) (from to : PortState) (old new : Option (List ℕ)) (before after : ℕ)
    (ended : Ended) (h : List Entry) : Type 0 where
  pub ends : EndsAs commands h ended
  pub history : History k l from to h
  pub seen : SeenAs h ended
  pub wrote : WroteAs names commands (state_by k from) h old new before after ended
