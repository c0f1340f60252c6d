-- Commands one after the other, and what was written of them so far.
use Rattle.std.proofs.Common.{◌≡◌, ◌≢◌, ℕ, suc, ◌+◌, ◌<◌, ◌≤◌, Bool, true, false, List, [], ◌∷◌, ◌++◌, length, take, get_or, refl, sym, ap, subst}
use Rattle.std.proofs.Common.{◌∙◌, arith, append_assoc, append-nil, length-append, inl, inr, Option, add-zero, drop-cons}
use Rattle.std.specs.Prelude.{◌==◌, ◌&&◌, ◌||◌}
use Rattle.std.proofs.Math.Bool.{and-true, and-false}
use Rattle.std.proofs.lemmas.Bool.Decides.{nat_tests}
use Rattle.std.proofs.lemmas.List.{take_more, map-append, take_all, length-map}
use Rattle.std.proofs.lemmas.List.Folds.{list_all-append, list_any-append}
use Rattle.copy_port.specs.State.{PortState}
use Rattle.desk_io.specs.SinkLaws.{puts_nothing, puts_on}
use Rattle.desk_io.specs.Sinks.{Puts}
use Rattle.script_orders.specs.declared.script_command.ScriptCommand.{ScriptCommand}
use Rattle.desk_run.specs.declared.run.Ended.TheVariants as ended
use Rattle.desk_span.specs.Desk.{State, carried}
use Rattle.desk_span.specs.Drives.{Drives}
use Rattle.desk_shelf.specs.Shelf.{OthersStay, state_at}
use Rattle.desk_span.specs.Kept.{Kept, ScreenKept, Serves, state_by}
use Rattle.desk_span.specs.Reports.{Told, tells_fault}
use Rattle.desk_span.specs.Telling.{MayTell}
use Rattle.desk_run.specs.Entries.{Entry, MayTellAll, any_fault, commands_of, is_whole, run}
use Rattle.desk_run.specs.InnerRun.{ended_of}
use Rattle.desk_run.specs.Texts.{BitmapNames, end_text}
use Rattle.desk_run.specs.Run.{Carried, History, Makes, Ran, body, out, text_of}
use Rattle.desk_run.proofs.DrivenLemmas.{driven_more, driven_none}

-- the driver at a place is that at the same place
pub serves_at : (w : ScreenKept) (states : List PortState) (m n : ℕ) → m ≡ n → Serves w (state_at states m) → Serves w (state_at states n)
serves_at w states m n e h = subst (λ (i : ℕ). Serves w (state_at states i)) e h

pub carried_at : (names : BitmapNames) (number : ℕ) (command : ScriptCommand) (told : List Told) (k l : Kept) (before after : List PortState) (m n : ℕ) → m ≡ n →
    {a b : Option (List ℕ)} {x y : ℕ} {f : Bool} → Carried names number command told k l (state_at before m) (state_at after m) a b x y f →
    Carried names number command told k l (state_at before n) (state_at after n) a b x y f
carried_at names number command told k l before after m n e {a} {b} {x} {y} {f} h =
    subst (λ (i : ℕ). Carried names number command told k l (state_at before i) (state_at after i) a b x y f) e h

pub others_at : {D : Type 0} {before after : List D} (m n : ℕ) → m ≡ n → OthersStay m before after → OthersStay n before after
others_at {D} {before} {after} m n e h = subst (λ (i : ℕ). OthersStay i before after) e h

pub driver_at : (before after : List PortState) (m n : ℕ) → m ≡ n → state_at after m ≡ state_at before m → state_at after n ≡ state_at before n
driver_at before after m n e h = subst (λ (i : ℕ). state_at after i ≡ state_at before i) e h

-- one command more

run_more : (h : List Entry) (e : Entry) (s : State) → run (h ++ e ∷ []) s ≡ carried e.command e.told (run h s)
run_more [] e s = refl
run_more (x ∷ xs) e s = run_more xs e (carried x.command x.told s)

body_more : (names : BitmapNames) (n : ℕ) (h : List Entry) (e : Entry) (s : State) →
    body names n (h ++ e ∷ []) s ≡ body names n h s ++ text_of names (n + length h) e.command e.told (run h s)
body_more names n [] e s = append-nil _ ∙ ap (λ k. text_of names k e.command e.told s) (sym (add-zero n))
body_more names n (x ∷ xs) e s =
    let k : n + 1 + length xs ≡ n + suc (length xs) = omega arith in
    let t = text_of names n x.command x.told s in
    let s2 = carried x.command x.told s in
    rw (body_more names (n + 1) xs e s2, k) (sym (append_assoc t (body names (n + 1) xs s2) (text_of names (n + suc (length xs)) e.command e.told (run xs s2))))

tells_more : (h : List Entry) (e : Entry) (s : State) → MayTellAll s h → MayTell (run h s) e.command e.told → MayTellAll s (h ++ e ∷ [])
tells_more [] e s so one = (one, tt)
tells_more (x ∷ xs) e s so one = (so.0, tells_more xs e (carried x.command x.told s) so.1 one)

one_fault : (b : Bool) → (b || false) ≡ b
one_fault true = refl
one_fault false = refl

-- the run so far; two flags tell whether all was done whole, and whether a fault was told
pub record SoFar (names : BitmapNames) (commands : List ScriptCommand) (k l : Kept) (from to : PortState) (old new : Option (List ℕ)) (before after : ℕ) (i : ℕ)
    (whole fault : Bool) (h : List Entry) : Type 0 where
  pub number : length h ≡ i
  pub carried : commands_of h ≡ take i commands
  pub history : History k l from to h
  pub seen : is_whole h ≡ whole
  pub faulted : any_fault h ≡ fault
  pub wrote : Puts (body names 1 h (state_by k from)) old new before after false

pub nothing_done : (names : BitmapNames) (commands : List ScriptCommand) (k : Kept) (driver : PortState) (a : Option (List ℕ)) (x : ℕ) → Serves k.screen driver →
    SoFar names commands k k driver driver a a x x 0 true false []
nothing_done names commands k driver a x serves = record {
  number = refl;
  carried = refl;
  history = record { screen = refl; serves = serves; shows = refl; tells = tt; drives = driven_none (state_by k driver) driver };
  seen = refl;
  faulted = refl;
  wrote = puts_nothing a x;
}

-- a command with reports is not done whole
pub not_whole : (flag : Bool) (told : List Told) → told ≢ [] → false ≡ (flag && (length told == 0))
not_whole flag [] some = absurd (some refl)
not_whole flag (t ∷ rest) some = sym (ap (λ (b : Bool). flag && b) (let e : (length (t ∷ rest) == 0) ≡ false = grind (arith, nat_tests) in e) ∙ and-false flag)

-- one that tells of a fault has reports
pub fault_told : (told : List Told) → tells_fault told ≡ true → told ≢ []
fault_told [] e none = cc
fault_told (t ∷ rest) e none = cc

-- a history with one command more
abbrev pub more : List Entry → ScriptCommand → List Told → List Entry
more h command told = h ++ record { command = command; told = told } ∷ []

module _ {names : BitmapNames} {commands : List ScriptCommand} {k l : Kept} {from to : PortState} {a b : Option (List ℕ)} {x y : ℕ} {i : ℕ} {whole fault : Bool}
    {h : List Entry} (so : SoFar names commands k l from to a b x y i whole fault h) where
  abbrev s : State
  s = state_by k from

  module _ (command : ScriptCommand) (lt : i < length commands) (is : command ≡ get_or commands i command) {next : Kept} {then : PortState} {c : Option (List ℕ)} {z : ℕ} where
    module _ {told : List Told} {f : Bool} (one : Carried names (i + 1) command told l next to then b c y z f) where
      long : length (more h command told) ≡ i + 1
      long = omega (arith, so.number, length-append h (record { command = command; told = told } ∷ []))

      commands_more : commands_of (more h command told) ≡ take (i + 1) commands
      commands_more =
          map-append _ h _ ∙ ap (λ (cs : List ScriptCommand). cs ++ command ∷ []) so.carried
          ∙ ap (λ (c : ScriptCommand). take i commands ++ c ∷ []) is ∙ sym (take_more commands i command lt)

      history_more : History k next from then (more h command told)
      history_more = record {
        screen = one.carries.screen ∙ so.history.screen;
        serves = one.carries.serves;
        shows = one.carries.shows ∙ ap (carried command told) so.history.shows ∙ sym (run_more h _ s);
        tells = tells_more h _ s so.history.tells (subst (λ (st : State). MayTell st command told) so.history.shows one.carries.tells);
        drives = driven_more s h (record { command = command; told = told }) from to then so.history.drives
            (subst (λ (st : State). Drives st command told 0 to then) so.history.shows one.carries.drives);
      }

      one_text : Puts (body names 1 (more h command told) s) a c x z f
      one_text =
          let n : i + 1 ≡ 1 + length h = omega (arith, so.number) in
          rw (body_more names 1 h (record { command = command; told = told }) s)
          (puts_on (body names 1 h s) _ a b c x y z f so.wrote (rw (n, so.history.shows) at one.wrote))

    -- a command was carried out and its lines were written
    pub so_far_more : (told : List Told) (now told_fault : Bool) → now ≡ (whole && (length told == 0)) → told_fault ≡ (fault || tells_fault told) →
        Carried names (i + 1) command told l next to then b c y z false → SoFar names commands k next from then a c x z (i + 1) now told_fault (more h command told)
    so_far_more told now told_fault flags faults one = record {
      number = long one;
      carried = commands_more one;
      history = history_more one;
      seen = list_all-append (λ (e : Entry). length e.told == 0) h _ ∙ rw (so.seen, and-true) (sym flags);
      faulted = list_any-append (λ (e : Entry). tells_fault e.told) h (record { command = command; told = told } ∷ [])
          ∙ ap (λ (f : Bool). f || any_fault (record { command = command; told = told } ∷ [])) so.faulted ∙ ap (λ (f : Bool). fault || f) (one_fault (tells_fault told)) ∙ sym faults;
      wrote = one_text one;
    }

    -- the sink failed in the lines of a command: no further command is carried out
    pub stopped_in : (told : List Told) → Carried names (i + 1) command told l next to then b c y z true →
        Ran names commands k next from then a c x z ended.WriteFault (more h command told)
    stopped_in told one = record {
      ends = commands_more one ∙ ap (λ n. take n commands) (sym (long one));
      history = history_more one;
      seen = tt;
      wrote = inl (one_text one);
    }

    -- there was no memory for what a command makes: it isn't carried out
    pub halted_at : Makes command → next ≡ l → then ≡ to → c ≡ b → z ≡ y → Ran names commands k next from then a c x z ended.NoMemory h
    halted_at makes same driver still count = record {
      ends = (so.carried ∙ ap (λ n. take n commands) (sym so.number), rw (so.number, drop-cons commands i command lt) (subst Makes is makes));
      history = subst (λ (d : PortState). History k next from d h) (sym driver) (subst (λ (n : Kept). History k n from to h) (sym same) so.history);
      seen = tt;
      wrote = rw (still, count) so.wrote;
    }

  module _ (le : length commands ≤ i) {c : Option (List ℕ)} {z : ℕ} {f : Bool} (text : Puts (end_text (length commands)) b c y z f) where
    all_carried : commands_of h ≡ commands
    all_carried = so.carried ∙ take_all i commands le

    all_long : length commands ≡ length h
    all_long = ap length (sym all_carried) ∙ length-map _ _

    with_end : Puts (out names h s) a c x z f
    with_end = puts_on (body names 1 h s) (end_text (length h)) a b c x y z f so.wrote (rw all_long at text)

    pub finished : f ≡ false → Ran names commands k l from to a c x z (ended_of whole fault) h
    finished wrote = at whole fault so.seen so.faulted
      where
        at : (w g : Bool) → is_whole h ≡ w → any_fault h ≡ g → Ran names commands k l from to a c x z (ended_of w g) h
        at true true seen faulted = record { ends = all_carried; history = so.history; seen = faulted; wrote = rw wrote at with_end }
        at false true seen faulted = record { ends = all_carried; history = so.history; seen = faulted; wrote = rw wrote at with_end }
        at true false seen faulted = record { ends = all_carried; history = so.history; seen = seen; wrote = rw wrote at with_end }
        at false false seen faulted = record { ends = all_carried; history = so.history; seen = (seen, faulted); wrote = rw wrote at with_end }

    pub unfinished : f ≡ true → Ran names commands k l from to a c x z ended.WriteFault h
    unfinished failed = record {
      ends = all_carried ∙ sym (take_all (length h) commands (omega (arith, all_long)));
      history = so.history;
      seen = tt;
      wrote = inr (all_carried, rw failed at with_end);
    }
