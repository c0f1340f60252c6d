-- The answer of the top call: which status is due, what each status leaves, and why it came.
use Rattle.std.specs.Prelude.{◌≡◌, ℕ, true, false, IsTrue, if◌then◌else◌, List, [], ◌∷◌, Option, Some, None, option_map, Result, Ok, Err, codes, ◌⊎◌}
use Rattle.std.specs.Str.{bytes_eq}
use Rattle.copy_port.specs.State.{PortState, Rose as CountRose}
use Rattle.copy_port.specs.declared.hooks.Hook.{Hook}
use Rattle.copy_port.specs.declared.words.Kind.TheVariants.{Linear}
use Rattle.ddi_driver.specs.Enabling.{Enables, screen_alone}
use Rattle.ddi_driver.specs.Kept.{IsUnchanged}
use Rattle.desk_io.specs.Counts.{Counted, Rose}
use Rattle.desk_io.specs.Sinks.{Puts}
use Rattle.desk_shelf.specs.Free.{first_free}
use Rattle.desk_shelf.specs.Shelf.{OthersStay, state_at}
use Rattle.desk_span.specs.Desk.{first_state}
use Rattle.desk_span.specs.Kept.{Kept, first_kept, shown_by_driver}
use Rattle.desk_run.specs.Config.{mode_of}
use Rattle.desk_run.specs.Entries.{Entry, run as run_of}
use Rattle.desk_run.specs.Input.{Checked, checked}
use Rattle.desk_run.specs.Run.{Ran}
use Rattle.desk_run.specs.Status.{is_read_fault, is_write_fault}
use Rattle.desk_run.specs.Texts.{plain_text}
use Rattle.desk_run.specs.declared.run.Ended.{Ended}
use Rattle.desk_run.specs.declared.run.Ended.TheVariants as ended
use Rattle.desk_run.specs.declared.status.InputRefusal.{InputRefusal}
use Rattle.desk_run.specs.declared.status.InputRefusal.TheVariants.{Size}
use Rattle.desk_run.specs.declared.status.Status.{Status}
use Rattle.desk_run.specs.declared.status.Status.TheVariants.{Done, Usage, InputRefused, FaultSeen, NoMemory, ReadFault, WriteFault, ShelfShort, EnableFault, MemorySeen, ModeRefused}

-- what the call was given, and what it left
pub record Call : Type 0 where
  pub words : List (List ℕ)
  -- the bytes that the source has left, where it tells them, and its count of faults
  pub left : Option (List ℕ)
  pub left_after : Option (List ℕ)
  pub read_faults : ℕ
  pub read_faults_after : ℕ
  -- the drivers of the shelf, in their places
  pub drivers : List PortState
  pub drivers_after : List PortState
  -- the bytes that the sink was given, where it tells them, and its count of faults
  pub written : Option (List ℕ)
  pub written_after : Option (List ℕ)
  pub write_faults : ℕ
  pub write_faults_after : ℕ

-- what the words ask for
pub data WordsForm : Type 0 where
  run : WordsForm

abbrev pub form_of : List (List ℕ) → Option WordsForm
form_of (word ∷ []) = if bytes_eq word (codes "run") then Some run else None
form_of _ = None

-- the input of a form, or its refusal; none where the words are in no form
abbrev pub input_of : Option WordsForm → List ℕ → Option (Result Checked InputRefusal)
input_of None bytes = None
input_of (Some run) bytes = Some (checked bytes)

-- the place of the driver that the screen takes, if there is one
abbrev pub taken : List PortState → Option ℕ
taken drivers = first_free Linear drivers

-- which answer is due of an accepted input on a shelf: there is no driver for its screen, or that one can't do its mode
abbrev pub due_there : Checked → List PortState → Option ℕ → Option Status
due_there i drivers None = Some (ShelfShort Linear 1 0)
due_there i drivers (Some place) = option_map (ModeRefused 0) ((state_at drivers place).rest.mode_limit (mode_of i.config))

-- Which answer is due by what the call was given, asked in this order. None: the commands decide.
abbrev pub due_by : Option (Result Checked InputRefusal) → List PortState → Option Status
due_by None drivers = Some Usage
due_by (Some (Err r)) drivers = Some (InputRefused r)
due_by (Some (Ok i)) drivers = due_there i drivers (taken drivers)

-- A status comes where it is due. Four may come before what is due, or in its place: the causes of three are counts, and want of memory is
-- free of a cause.
abbrev pub ComesBy : Status → Option Status → Type 0
ComesBy Usage due = due ≡ Some Usage
ComesBy (InputRefused r) due = due ≡ Some (InputRefused r)
ComesBy (ShelfShort kind wanted held) due = due ≡ Some (ShelfShort kind wanted held)
ComesBy (ModeRefused screen limit) due = due ≡ Some (ModeRefused screen limit)
ComesBy (EnableFault screen) due = (due ≡ None) × (screen ≡ 0)
ComesBy Done due = due ≡ None
ComesBy FaultSeen due = due ≡ None
ComesBy MemorySeen due = due ≡ None
ComesBy ReadFault due = due ≡ Some Usage → ⊥
ComesBy WriteFault due = Unit {0}
ComesBy NoMemory due = due ≡ Some Usage → ⊥

-- the count of the driver that the screen takes rose
abbrev pub DriverRose : Option ℕ → List PortState → List PortState → Type 0
DriverRose None before after = ⊥
DriverRose (Some place) before after = CountRose (state_at before place).faults (state_at after place).faults

-- a fault of enabling, or of a command, has a cause: that count
abbrev pub HasDriverCause : Status → List PortState → List PortState → Type 0
HasDriverCause (EnableFault screen) before after = DriverRose (taken before) before after
HasDriverCause FaultSeen before after = DriverRose (taken before) before after
HasDriverCause s before after = Unit {0}

-- the count of a stream rose where its fault is the answer, and with each other answer it stays; the driver's rose where its fault is
pub record HasCause (c : Call) (s : Status) : Type 0 where
  pub reading : Counted (is_read_fault s) c.read_faults c.read_faults_after
  pub writing : Counted (is_write_fault s) c.write_faults c.write_faults_after
  pub driver : HasDriverCause s c.drivers c.drivers_after

-- Where a driver hooks all calls and declined none, it wasn't written to: the engine drew nothing on it.
abbrev pub IsUnwritten : PortState → Type 0
IsUnwritten driver = ((hook : Hook) → IsTrue (driver.rest.hooks hook)) → driver.rest.declined ≡ 0 → driver.written ≡ 0

-- A run of the input's commands on the driver that the screen takes, from its enabling on: what was written, what was reported, and what the driver
-- was asked (`Ran`); and the driver shows exactly the screen that the definition has after these commands.
pub record Reached (i : Checked) (before after : List PortState) (old new : Option (List ℕ)) (x y : ℕ) (e : Ended) : Type 0 where
  pub place : ℕ
  pub takes : taken before ≡ Some place
  pub begun : PortState
  pub enabled : Enables (mode_of i.config) (state_at before place) begun (Ok tt)
  pub desk : Kept
  pub history : List Entry
  pub ran : Ran i.script.names i.script.commands (first_kept place i.config.size) desk begun (state_at after place) old new x y e history
  pub alone : (state_at after place).shown ≡ screen_alone (shown_by_driver (state_at after place))
  pub screen : (run_of history (first_state i.config.size)).screens ≡ shown_by_driver (state_at after place) ∷ []
  pub unwritten : IsUnwritten (state_at after place)

-- no driver shows, counts or is anything else than before, but for its count of faults
abbrev pub Stays : List PortState → List PortState → Type 0
Stays before after = (place : ℕ) → IsUnchanged (state_at before place) (state_at after place)

-- the sink failed in the text of an answer that comes, and the drivers are as after that answer
pub record Cut (due : Option Status) (before after : List PortState) (old new : Option (List ℕ)) (x y : ℕ) : Type 0 where
  pub answer : Status
  pub comes : ComesBy answer due
  pub cause : HasDriverCause answer before after
  pub wrote : Puts (plain_text answer) old new x y true
  pub stays : Stays before after

-- nothing was written, and nothing is seen of the call on any driver
pub record Quiet (before after : List PortState) (old new : Option (List ℕ)) : Type 0 where
  pub same : new ≡ old
  pub stays : Stays before after

-- the text of a status was written, and nothing is seen of the call on any driver
pub record Told (s : Status) (before after : List PortState) (old new : Option (List ℕ)) (x y : ℕ) : Type 0 where
  pub wrote : Puts (plain_text s) old new x y false
  pub stays : Stays before after

-- What each status leaves. There may be no memory before the first command, or for what the next one makes.
abbrev pub Leaves : Option (Result Checked InputRefusal) → List PortState → List PortState → Option (List ℕ) → Option (List ℕ) → ℕ → ℕ → Status → Type 0
Leaves (Some (Ok i)) before after old new x y Done = Reached i before after old new x y ended.Done
Leaves (Some (Ok i)) before after old new x y FaultSeen = Reached i before after old new x y ended.FaultSeen
Leaves (Some (Ok i)) before after old new x y MemorySeen = Reached i before after old new x y ended.MemorySeen
Leaves (Some (Ok i)) before after old new x y WriteFault =
    Reached i before after old new x y ended.WriteFault ⊎ Cut (due_by (Some (Ok i)) before) before after old new x y
Leaves (Some (Ok i)) before after old new x y NoMemory = Reached i before after old new x y ended.NoMemory ⊎ Quiet before after old new
Leaves input before after old new x y WriteFault = Cut (due_by input before) before after old new x y
Leaves input before after old new x y ReadFault = Quiet before after old new
Leaves input before after old new x y NoMemory = Quiet before after old new
Leaves input before after old new x y s = Told s before after old new x y

-- a reading that may break off before the end of the source: at a fault, for want of memory, or where more came than an input may have
abbrev pub BreaksOff : Option Status → Status → Type 0
BreaksOff due ReadFault = Unit {0}
BreaksOff due NoMemory = Unit {0}
BreaksOff due s = due ≡ Some (InputRefused Size)

-- how far the source was read: where the words are in no form it is untouched, whatever the status; else it was read to its end
abbrev pub Reads : Call → Option Status → Status → Type 0
Reads c (Some Usage) s = (c.left_after ≡ c.left) × (c.read_faults_after ≡ c.read_faults)
Reads c due s = BreaksOff due s ⊎ (c.left_after ≡ Some [])

-- no count of faults rose
pub record NoRise (c : Call) : Type 0 where
  pub reading : Rose c.read_faults c.read_faults_after → ⊥
  pub writing : Rose c.write_faults c.write_faults_after → ⊥
  pub driver : DriverRose (taken c.drivers) c.drivers c.drivers_after → ⊥

-- the answer is what is due, or want of memory
abbrev pub IsDueOrMemory : Option Status → Status → Type 0
IsDueOrMemory (Some t) s = (s ≡ t) ⊎ (s ≡ NoMemory)
IsDueOrMemory None s = (s ≡ Done) ⊎ ((s ≡ MemorySeen) ⊎ (s ≡ NoMemory))

-- the drivers of a shelf but for the one that the screen takes are the same, and all stand in their places
abbrev pub OthersKept : {D : Type 0} → Option ℕ → List D → List D → Type 0
OthersKept None before after = after ≡ before
OthersKept (Some place) before after = OthersStay place before after

-- the answer of the top call
pub record Answered (c : Call) (input : Option (Result Checked InputRefusal)) (s : Status) : Type 0 where
  -- which status: by what is due
  pub comes : ComesBy s (due_by input c.drivers)
  -- and by which count
  pub cause : HasCause c s
  -- where no count rises: what is due, or want of memory
  pub complete : NoRise c → IsDueOrMemory (due_by input c.drivers) s
  pub leaves : Leaves input c.drivers c.drivers_after c.written c.written_after c.write_faults c.write_faults_after s
  pub reads : Reads c (due_by input c.drivers) s
