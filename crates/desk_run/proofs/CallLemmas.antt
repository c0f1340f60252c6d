-- The answer of the top call.
use Rattle.std.proofs.Common.{◌≡◌, ◌∙◌, ℕ, zero, suc, ◌+◌, ◌-◌, ◌<◌, ◌≤◌, ◌^◌, ◌%◌, Bool, true, false, IsTrue, List, [], ◌∷◌, length, map, get_or, Option, Some, None, Result, Ok, Err, refl, sym, ap, subst, arith, inl, inr, ◌⊎◌}
use Rattle.std.specs.Prelude.{if◌then◌else◌, nat_eq, option_map}
use Rattle.std.specs.Option.{is_some}
use Rattle.std.proofs.lemmas.Bool.{cases_lt}
use Rattle.std.proofs.lemmas.Bool.Decides.{nat_tests}
use Rattle.std.proofs.lemmas.List.{length-map, length-take}
use Rattle.std.proofs.lemmas.List.Folds.{list_any-append}
use Rattle.copy_port.specs.State.{PortState, Rose as CountRose, Shown, blank, next_count, surface_of}
use Rattle.copy_port.specs.Classes.{hook_of}
use Rattle.copy_port.specs.declared.hooks.Hook.{Hook}
use Rattle.ddi_driver.specs.Enabling.{BeginsIn, Enables, screen_alone}
use Rattle.ddi_driver.specs.Kept.{IsUnchanged}
use Rattle.desk_io.specs.Counts.{Counted, Rose}
use Rattle.desk_io.specs.Sources.{most_bytes}
use Rattle.desk_shelf.specs.Shelf.{OthersStay, others_same, others_states, state_at}
use Rattle.geom_base.specs.declared.target.Target.TheVariants.{Screen}
use Rattle.script_orders.specs.declared.script_command.ScriptCommand.{ScriptCommand}
use Rattle.script_orders.specs.declared.script_command.ScriptCommand.TheVariants as asked
use Rattle.surf_obj.specs.Surface.{Surface}
use Rattle.desk_span.specs.Desk.{State, first_state, standing_at}
use Rattle.desk_span.specs.Drives.{is_hooked, rises}
use Rattle.desk_span.specs.Kept.{Kept, Serves, first_kept, first_screen, shown_by_driver, state_by}
use Rattle.desk_span.specs.Reports.{tells_fault}
use Rattle.desk_run.specs.Answers.{Answered, Call, ComesBy, Cut, DriverRose, HasDriverCause, IsDueOrMemory, IsUnwritten, Leaves, OthersKept, Reached, Reads, Stays, Told, WordsForm, due_by, due_there, input_of, run, taken}
use Rattle.desk_run.specs.Config.{mode_of}
use Rattle.desk_run.specs.Driven.{IsCounting, faulted}
use Rattle.desk_run.specs.Entries.{Entry, any_fault, run as run_of}
use Rattle.desk_run.specs.Input.{Checked, checked}
use Rattle.desk_run.specs.InnerAnswers.{Ends, Says, WasRun, shelf_short, status_of}
use Rattle.desk_run.specs.Run.{EndsAs, Ran, WroteAs}
use Rattle.desk_run.specs.Status.{is_read_fault, is_write_fault}
use Rattle.desk_run.specs.declared.run.Ended.{Ended}
use Rattle.desk_run.specs.declared.run.Ended.TheVariants as ended
use Rattle.desk_run.specs.declared.status.InputRefusal.{InputRefusal}
use Rattle.desk_run.specs.declared.status.InputRefusal.TheVariants.{Size as TooLong}
use Rattle.desk_run.specs.declared.status.Status.{Status}
use Rattle.desk_run.specs.declared.status.Status.TheVariants.{Usage, InputRefused, EnableFault, ModeRefused, NoMemory, WriteFault}
use Rattle.desk_run.proofs.InputLaws.{too_long}

-- drivers that nothing is seen on

pub unchanged_same : (s : PortState) → IsUnchanged s s
unchanged_same s = record { shown = refl; written = refl; rest = refl }

pub stays_same : (before after : List PortState) → after ≡ before → Stays before after
stays_same before after e place = subst (λ (now : List PortState). IsUnchanged (state_at before place) (state_at now place)) (sym e) (unchanged_same (state_at before place))

pub stays_at : {D : Type 0} (st : D → PortState) (place : ℕ) (before after : List D) → OthersStay place before after →
    IsUnchanged (state_at (map st before) place) (state_at (map st after) place) → Stays (map st before) (map st after)
stays_at {D} st place before after others same k = at (nat_eq k place) refl
  where
    at : (b : Bool) → nat_eq k place ≡ b → IsUnchanged (state_at (map st before) k) (state_at (map st after) k)
    at true e =
        let here : place ≡ k = grind (arith, nat_tests, e) in
        subst (λ (n : ℕ). IsUnchanged (state_at (map st before) n) (state_at (map st after) n)) here same
    at false e =
        let other : ¬ (k ≡ place) = λ is. absurd (let h : nat_eq k place ≡ true = grind (arith, nat_tests, is) in cc) in
        subst (λ (s : PortState). IsUnchanged (state_at (map st before) k) s) (sym (others_states st place before after others k other))
        (unchanged_same (state_at (map st before) k))

-- the text of a status was written, or the sink failed in it
module _ (input : Option (Result Checked InputRefusal)) (drivers after : List PortState) {a b : Option (List ℕ)} {x y : ℕ} (s : Status) where
  pub said_ends : (answer : Status) → Says s a b x y answer → ComesBy s (due_by input drivers) → is_read_fault s ≡ false → is_write_fault s ≡ false →
      HasDriverCause s drivers after → ((DriverRose (taken drivers) drivers after → ⊥) → IsDueOrMemory (due_by input drivers) s) → Stays drivers after →
      (Told s drivers after a b x y → Leaves input drivers after a b x y s) →
      (Cut (due_by input drivers) drivers after a b x y → Leaves input drivers after a b x y WriteFault) → Ends input drivers after a b x y answer
  said_ends answer (inl (e, p)) comes read write cause complete stays told cut = rw e (record {
    comes = comes;
    read = read;
    count = subst (λ (f : Bool). Counted f x y) (sym write) p.count;
    driver = cause;
    complete = λ no none. complete none;
    leaves = told (record { wrote = p; stays = stays });
  })
  said_ends answer (inr (e, p)) comes read write cause complete stays told cut = rw e (record {
    comes = tt;
    read = refl;
    count = p.count;
    driver = tt;
    complete = λ no none. absurd (no p.count);
    leaves = cut (record { answer = s; comes = comes; cause = cause; wrote = p; stays = stays });
  })

-- there was no memory
pub lacked_ends : (input : Result Checked InputRefusal) (drivers after : List PortState) {a b : Option (List ℕ)} {x y : ℕ} → Stays drivers after → b ≡ a → y ≡ x →
    Ends (Some input) drivers after a b x y NoMemory
lacked_ends input drivers after {a} {b} {x} {y} stays same count = record {
  comes = late input;
  read = refl;
  count = count;
  driver = tt;
  complete = λ no none. memory (due_by (Some input) drivers);
  leaves = quiet input;
}
  where
    memory : (due : Option Status) → IsDueOrMemory due NoMemory
    memory None = inr (inr refl)
    memory (Some t) = inr refl

    late : (i : Result Checked InputRefusal) → due_by (Some i) drivers ≡ Some Usage → ⊥
    late (Ok i) e = there (taken drivers) e
      where
        there : (place : Option ℕ) → due_there i drivers place ≡ Some Usage → ⊥
        there None e = cc
        there (Some place) e = refused ((state_at drivers place).rest.mode_limit (mode_of i.config)) e
          where
            refused : (o : Option _) → option_map (ModeRefused 0) o ≡ Some Usage → ⊥
            refused None e = cc
            refused (Some limit) e = cc
    late (Err r) e = cc

    quiet : (i : Result Checked InputRefusal) → Leaves (Some i) drivers after a b x y NoMemory
    quiet (Ok i) = inr (record { same = same; stays = stays })
    quiet (Err r) = record { same = same; stays = stays }

-- a refused input
pub refusal_ends : (r : InputRefusal) (input : Result Checked InputRefusal) (drivers after : List PortState) {a b : Option (List ℕ)} {x y : ℕ} (answer : Status) →
    input ≡ Err r → after ≡ drivers → Says (InputRefused r) a b x y answer → Ends (Some input) drivers after a b x y answer
refusal_ends r input drivers after answer is same said =
    rw is (said_ends (Some (Err r)) drivers after (InputRefused r) answer said refl refl refl tt (λ none. inl refl) (stays_same drivers after same) (λ t. t) (λ t. t))

-- no driver for the screen
pub short_ends : (i : Checked) (drivers after : List PortState) {a b : Option (List ℕ)} {x y : ℕ} (answer : Status) → taken drivers ≡ None → after ≡ drivers →
    Says shelf_short a b x y answer → Ends (Some (Ok i)) drivers after a b x y answer
short_ends i drivers after answer none same said =
    let due : due_by (Some (Ok i)) drivers ≡ Some shelf_short = ap (due_there i drivers) none in
    said_ends (Some (Ok i)) drivers after shelf_short answer said due refl refl tt
    (λ rose. subst (λ (d : Option Status). IsDueOrMemory d shelf_short) (sym due) (inl refl)) (stays_same drivers after same) (λ t. t) inr

-- a count that goes on from 0 without its end
rises_small : (m : ℕ) → m < 2 ^ 64 → rises m 0 ≡ m
rises_small zero lt = refl
rises_small (suc k) lt =
    let before = rises_small k (omega (arith, lt)) in
    ap next_count before ∙ (let e : (k + 1) % (2 ^ 64) ≡ suc k = grind (arith, nat_tests, lt) in e)

-- some command told a fault
fault_counts : (h : List Entry) → any_fault h ≡ true → 1 ≤ faulted h
fault_counts [] e = absurd (cc)
fault_counts (x ∷ xs) e = at (tells_fault x.told) refl (fault_counts xs)
  where
    at : (b : Bool) → tells_fault x.told ≡ b → (any_fault xs ≡ true → 1 ≤ faulted xs) → 1 ≤ (if tells_fault x.told then 1 else 0) + faulted xs
    at true is rest = rw is (omega arith)
    at false is rest =
        let more : any_fault (x ∷ xs) ≡ any_fault xs = list_any-append (λ (e : Entry). tells_fault e.told) (x ∷ []) xs ∙ rw is refl in
        let some = rest (sym more ∙ e) in rw is (omega (arith, some))

rose_by : (before between after f : ℕ) → before ≤ between → 1 ≤ f → (IsCounting after → f + between ≤ after) → CountRose before after
rose_by before between after f later some paid = at (cases_lt after (2 ^ 64 - 1))
  where
    at : (after < 2 ^ 64 - 1) ⊎ (2 ^ 64 - 1 ≤ after) → CountRose before after
    at (inl counting) = let p = paid counting in grind (arith, nat_tests, p, some, later)
    at (inr past) = grind (arith, nat_tests, past)

-- a driver that begins serves the screen, and shows the first state
module _ (i : Checked) (place : ℕ) (begun : PortState) (begins : BeginsIn (mode_of i.config) begun) where
  begun_shows : shown_by_driver begun ≡ blank i.config.size (mode_of i.config).format (mode_of i.config).table
  begun_shows = ap (λ (shown : Shown). surface_of shown Screen) begins.shown

  pub begun_serves : Serves (first_screen place i.config.size) begun
  begun_serves = record {
    enabled = begins.enabled;
    alive = subst (λ (shown : Shown). IsTrue (is_some (shown Screen))) (sym begins.shown) refl;
    alone = begins.shown ∙ ap screen_alone (sym begun_shows);
    size = ap (λ (t : Surface). t.size) begun_shows;
    format = ap (λ (t : Surface). t.format) begun_shows;
    table = ap (λ (t : Surface). t.table) begun_shows;
  }

  pub begun_state : state_by (first_kept place i.config.size) begun ≡ first_state i.config.size
  begun_state = ap (λ (t : Surface). record {
    places = standing_at (first_screen place i.config.size).at t ∷ [];
    screens = t ∷ [];
    bitmaps = [];
    brushes = [];
  }) begun_shows

-- a run of the commands on the driver that was enabled
module _ (i : Checked) (few : length i.script.commands ≤ 100000) (place : ℕ) (drivers after : List PortState) (takes : taken drivers ≡ Some place)
    (a b : Option (List ℕ)) (x y : ℕ) (begun : PortState) (enabled : Enables (mode_of i.config) (state_at drivers place) begun (Ok tt)) (desk : Kept)
    (h : List Entry) where
  abbrev from : PortState
  from = state_at drivers place

  abbrev to : PortState
  to = state_at after place

  abbrev RunTo : Ended → Type 0
  RunTo e = Ran i.script.names i.script.commands (first_kept place i.config.size) desk begun to a b x y e h

  due_none : due_by (Some (Ok i)) drivers ≡ None
  due_none = ap (due_there i drivers) takes ∙ ap (option_map (ModeRefused 0)) (sym enabled.limit)

  -- no more commands were carried out than there are
  short : (e : Ended) → EndsAs i.script.commands h e → length h ≤ 100000
  short ended.Done ends = let same = sym (length-map h _) ∙ ap length ends in omega (arith, same, few)
  short ended.FaultSeen ends = let same = sym (length-map h _) ∙ ap length ends in omega (arith, same, few)
  short ended.MemorySeen ends = let same = sym (length-map h _) ∙ ap length ends in omega (arith, same, few)
  short ended.NoMemory ends = let same = sym (length-map h _) ∙ ap length ends.0 in let l = length-take (length h) i.script.commands in grind (arith, nat_tests, same, l, few)
  short ended.WriteFault ends = let same = sym (length-map h _) ∙ ap length ends in let l = length-take (length h) i.script.commands in grind (arith, nat_tests, same, l, few)

  hooked : (command : ScriptCommand) → ((hook : Hook) → IsTrue (begun.rest.hooks hook)) → IsTrue (is_hooked begun command)
  hooked (asked.Draw c) all = all (hook_of c.call)
  hooked (asked.Create o) all = refl
  hooked (asked.Delete n) all = refl
  hooked (asked.Brush o) all = refl
  hooked (asked.Dump q) all = refl
  hooked (asked.Sum q) all = refl
  hooked asked.Nothing all = refl

  unwritten : (e : Ended) → RunTo e → IsUnwritten to
  unwritten e r hooks none =
      let (m, d) = r.history.drives.declined in
      let few_declined = short e r.ends in
      let small : m < 2 ^ 64 = omega (arith, d.most, few_declined) in
      let zero_declined : m ≡ 0 = sym (rises_small m small) ∙ ap (rises m) (sym (begins enabled).declined) ∙ sym d.count ∙ none in
      let all : (hook : Hook) → IsTrue (begun.rest.hooks hook) = λ hook. subst (λ (f : Hook → Bool). IsTrue (f hook)) r.history.drives.mode.hooks (hooks hook) in
      d.written zero_declined (λ k e lt. hooked (get_or h k e).command all) ∙ (begins enabled).written
    where
      begins : Enables (mode_of i.config) from begun (Ok tt) → BeginsIn (mode_of i.config) begun
      begins e = e.ok

  reached : (e : Ended) → RunTo e → Reached i drivers after a b x y e
  reached e r = record {
    place = place;
    takes = takes;
    begun = begun;
    enabled = enabled;
    desk = desk;
    history = h;
    ran = r;
    alone = r.history.serves.alone;
    screen = ap (λ (s : State). (run_of h s).screens) (sym (begun_state i place begun enabled.ok)) ∙ sym (ap (λ (s : State). s.screens) r.history.shows);
    unwritten = unwritten e r;
  }

  -- a fault was told only where the count rose
  fault_rose : RunTo ended.FaultSeen → DriverRose (taken drivers) drivers after
  fault_rose r =
      subst (λ (o : Option ℕ). DriverRose o drivers after) (sym takes)
      (rose_by from.faults begun.faults to.faults (faulted h) enabled.later (fault_counts h r.seen) r.history.drives.paid)

  broken : WroteAs i.script.names i.script.commands (state_by (first_kept place i.config.size) begun) h a b x y ended.WriteFault → Rose x y
  broken (inl p) = p.count
  broken (inr (all, p)) = p.count

  not_due : (s : Status) → IsDueOrMemory None s → IsDueOrMemory (due_by (Some (Ok i)) drivers) s
  not_due s h = subst (λ (d : Option Status). IsDueOrMemory d s) (sym due_none) h

  pub ran_ends : (e : Ended) → RunTo e → Ends (Some (Ok i)) drivers after a b x y (status_of e)
  ran_ends ended.Done r = record {
    comes = due_none;
    read = refl;
    count = r.wrote.count;
    driver = tt;
    complete = λ no none. not_due (status_of ended.Done) (inl refl);
    leaves = reached ended.Done r;
  }
  ran_ends ended.FaultSeen r = record {
    comes = due_none;
    read = refl;
    count = r.wrote.count;
    driver = fault_rose r;
    complete = λ no none. absurd (none (fault_rose r));
    leaves = reached ended.FaultSeen r;
  }
  ran_ends ended.MemorySeen r = record {
    comes = due_none;
    read = refl;
    count = r.wrote.count;
    driver = tt;
    complete = λ no none. not_due (status_of ended.MemorySeen) (inr (inl refl));
    leaves = reached ended.MemorySeen r;
  }
  ran_ends ended.NoMemory r = record {
    comes = λ e. let n : None ≡ Some Usage = sym due_none ∙ e in cc;
    read = refl;
    count = r.wrote.count;
    driver = tt;
    complete = λ no none. not_due (status_of ended.NoMemory) (inr (inr refl));
    leaves = inl (reached ended.NoMemory r);
  }
  ran_ends ended.WriteFault r = record {
    comes = tt;
    read = refl;
    count = broken r.wrote;
    driver = tt;
    complete = λ no none. absurd (no (broken r.wrote));
    leaves = inl (reached ended.WriteFault r);
  }

-- what came of enabling and running
pub was_run_ends : {D : Type 0} (st : D → PortState) (i : Checked) → length i.script.commands ≤ 100000 → (place : ℕ) (before after : List D) →
    taken (map st before) ≡ Some place → OthersStay place before after → (a b : Option (List ℕ)) (x y : ℕ) (s : Status) →
    WasRun i place (state_at (map st before) place) (state_at (map st after) place) a b x y s → Ends (Some (Ok i)) (map st before) (map st after) a b x y s
was_run_ends st i few place before after takes others a b x y s (inl r) =
    rw r.ran.status (ran_ends i few place (map st before) (map st after) takes a b x y r.begun r.enabled r.ran.desk r.ran.history r.ran.ended r.ran.ran)
was_run_ends st i few place before after takes others a b x y s (inr (inl r)) =
    let due : due_by (Some (Ok i)) (map st before) ≡ Some (ModeRefused 0 r.limit) =
    ap (due_there i (map st before)) takes ∙ ap (option_map (ModeRefused 0)) r.has in
    said_ends (Some (Ok i)) (map st before) (map st after) (ModeRefused 0 r.limit) s r.said due refl refl tt
    (λ none. subst (λ (d : Option Status). IsDueOrMemory d (ModeRefused 0 r.limit)) (sym due) (inl refl)) (stays_at st place before after others r.same) (λ t. t) inr
was_run_ends st i few place before after takes others a b x y s (inr (inr (inl r))) =
    let due : due_by (Some (Ok i)) (map st before) ≡ None = ap (due_there i (map st before)) takes ∙ ap (option_map (ModeRefused 0)) r.has in
    let rose = subst (λ (o : Option ℕ). DriverRose o (map st before) (map st after)) (sym takes) r.rose in
    said_ends (Some (Ok i)) (map st before) (map st after) (EnableFault 0) s r.said (due, refl) refl refl rose
    (λ none. absurd (none rose)) (stays_at st place before after others r.same) (λ t. t) inr
was_run_ends st i few place before after takes others a b x y s (inr (inr (inr r))) =
    rw r.is (lacked_ends (Ok i) (map st before) (map st after) (stays_at st place before after others r.same) r.quiet r.count)

-- the words are in the form
pub form_input : (f : Option WordsForm) (bytes : List ℕ) → is_some f ≡ true → input_of f bytes ≡ Some (checked bytes)
form_input (Some run) bytes e = refl
form_input None bytes e = absurd (cc)

-- what the sink, the shelf and the source show is the answer
pub answered : (c : Call) (input : Option (Result Checked InputRefusal)) (s : Status) →
    Ends input c.drivers c.drivers_after c.written c.written_after c.write_faults c.write_faults_after s → c.read_faults_after ≡ c.read_faults →
    Reads c (due_by input c.drivers) s → Answered c input s
answered c input s e count reads = record {
  comes = e.comes;
  cause = record { reading = rw e.read count; writing = e.count; driver = e.driver };
  complete = λ no. e.complete no.writing no.driver;
  leaves = e.leaves;
  reads = reads;
}

-- an input that is too long need not be read to its end
pub size_answered : (c : Call) (input : Option (Result Checked InputRefusal)) (bytes : List ℕ) (s : Status) → input ≡ Some (checked bytes) →
    most_bytes < length bytes → c.read_faults_after ≡ c.read_faults → c.drivers_after ≡ c.drivers →
    Says (InputRefused TooLong) c.written c.written_after c.write_faults c.write_faults_after s → Answered c input s
size_answered c input bytes s is long count same said =
    let due = is ∙ ap (λ (r : Result Checked InputRefusal). Some r) (too_long bytes long) in
    rw due (answered c (Some (Err TooLong)) s (refusal_ends TooLong (Err TooLong) c.drivers c.drivers_after s refl same said) count (reads said)) where
      reads : Says (InputRefused TooLong) c.written c.written_after c.write_faults c.write_faults_after s → Reads c (Some (InputRefused TooLong)) s
      reads (inl (e, p)) = rw e (inl refl)
      reads (inr (e, p)) = rw e (inl refl)

-- words in no form
pub usage_answered : (c : Call) (input : Option (Result Checked InputRefusal)) (s : Status) → input ≡ None → c.drivers_after ≡ c.drivers →
    c.left_after ≡ c.left → c.read_faults_after ≡ c.read_faults →
    Says Usage c.written c.written_after c.write_faults c.write_faults_after s → Answered c input s
usage_answered c input s is same left count said =
    rw is (answered c None s (said_ends None c.drivers c.drivers_after Usage s said refl refl refl tt (λ none. inl refl)
    (stays_same c.drivers c.drivers_after same) (λ t. t) (λ t. t)) count (left, count))

-- a shelf that is the same keeps all drivers
pub others_same_kept : {D : Type 0} (place : Option ℕ) (items : List D) → OthersKept place items items
others_same_kept None items = refl
others_same_kept (Some place) items = others_same place items

-- the words are in no form
pub no_input : (f : Option WordsForm) (bytes : List ℕ) → is_some f ≡ false → input_of f bytes ≡ None
no_input (Some run) bytes e = absurd (cc)
no_input None bytes e = refl
