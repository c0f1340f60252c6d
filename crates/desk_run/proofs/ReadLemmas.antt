-- Surfaces that were read, or could not be.
use Rattle.std.proofs.Common.{◌≡◌, ℕ, ◌*◌, Bool, true, false, List, [], ◌∷◌, length, Option, Some, None, Result, Ok, Err, refl, sym, ap, subst, ◌∙◌}
use Rattle.std.specs.Prelude.{All, IfSome, codes, MatchOption, if◌then◌else◌, is_err}
use Rattle.std.specs.Option.{option_map_or}
use Rattle.std.proofs.lemmas.List.Elements.{All-cons, All-nil}
use Rattle.desk_io.specs.Sinks.{Puts}
use Rattle.desk_io.specs.declared.sink.WriteFault.{WriteFault}
use Rattle.geom_base.specs.declared.port_answer.PortAnswer.{PortAnswer}
use Rattle.geom_base.specs.declared.port_answer.PortAnswer.TheVariants as answers
use Rattle.copy_port.specs.Port.{FaultRose, Keeps}
use Rattle.copy_port.specs.State.{PortState}
use Rattle.script_orders.specs.declared.named.Named.{Named}
use Rattle.script_orders.specs.declared.named.Named.TheVariants.{Screen, Bitmap}
use Rattle.script_orders.specs.declared.script_command.ScriptCommand.{ScriptCommand}
use Rattle.script_orders.specs.declared.script_command.ScriptCommand.TheVariants.{Dump, Sum}
use Rattle.surf_obj.specs.Surface.{Surface}
use Rattle.desk_span.specs.Carries.{Carries}
use Rattle.desk_span.specs.CarryLaws.{read_carries}
use Rattle.desk_span.specs.Desk.{State, surface_at}
use Rattle.desk_span.specs.Drives.{HasCause}
use Rattle.desk_span.specs.Kept.{Kept, Serves, state_by}
use Rattle.desk_span.specs.Reading.{IsFaultless, IsRead, LooksSo, SurfaceIs}
use Rattle.desk_span.specs.Reports.{Told, is_fault, report_on, same_name, tells_fault}
use Rattle.desk_span.specs.Telling.{IsUnreadCause, ReadTells}
use Rattle.desk_span.specs.declared.desk.SurfaceLook.{SurfaceLook}
use Rattle.hook_route.specs.declared.outcome.Cause.{Cause}
use Rattle.hook_route.specs.declared.outcome.Cause.TheVariants as causes
use Rattle.desk_run.specs.declared.run.Outcome.{Outcome}
use Rattle.desk_run.specs.InnerRun.{CameOut, ReportedAs, WrittenAs, cause_of}
use Rattle.desk_run.specs.Run.{text_of}
use Rattle.desk_run.specs.Texts.{BitmapNames, dump_text, sum_text, unread_text}

-- the report that a surface could not be read
abbrev pub unread : Named → Cause → Told
unread q cause = record { target = q; cause = cause; rects = [] }

is_there : (o : Option Surface) (P : Surface → Type 0) → MatchOption o ⊥ P → MatchOption o ⊥ (λ surface. Unit {0})
is_there None P h = absurd h
is_there (Some t) P h = tt

unread_cause : (q : Named) (answer : PortAnswer) (cause : Cause) → IsFaultless q answer → cause_of answer ≡ Some cause → IsUnreadCause q cause
unread_cause (Screen n) answer cause whole is = tt
unread_cause (Bitmap n) answers.Done cause whole is = absurd (cc)
unread_cause (Bitmap n) answers.Fault cause whole is = absurd (whole refl)
unread_cause (Bitmap n) answers.NoMemory cause whole is = cc

unread_tells : (s : State) (q : Named) (answer : PortAnswer) (out : List ℕ) (cause : Cause) → SurfaceIs s q (IsRead answer out) → IsFaultless q answer →
    cause_of answer ≡ Some cause → ReadTells s q (unread q cause ∷ [])
unread_tells s q answer out cause read whole is =
    (record { there = is_there _ _ read; target = refl; cause = unread_cause q answer cause whole is; nothing = refl }, refl)

-- a fault of a read has a cause
read_cause : (answer : PortAnswer) (cause : Cause) (before now : ℕ) → FaultRose answer before now → cause_of answer ≡ Some cause → HasCause cause before now
read_cause answers.Done cause before now rose is = absurd (cc)
read_cause answers.Fault cause before now rose is = let e : causes.Fault ≡ cause = cc in subst (λ (c : Cause). HasCause c before now) e rose
read_cause answers.NoMemory cause before now rose is = let e : causes.Memory ≡ cause = cc in subst (λ (c : Cause). HasCause c before now) e tt

one_report : (P : Told → Type 0) (t : Told) → P t → All P (t ∷ [])
one_report P t h = All-cons P t [] h (All-nil P)

nothing_there : (q : Named) (cause : Cause) → IfSome (report_on (unread q cause ∷ []) (Screen 0)) (λ (t : Told). t.rects ≡ [])
nothing_there q cause = at (same_name q (Screen 0))
  where
    at : (b : Bool) → IfSome (if b then Some (unread q cause) else None) (λ (t : Told). t.rects ≡ [])
    at true = refl
    at false = tt

-- what a read of a surface carries, that was done or could not be
module _ (k : Kept) (q : Named) (from to : PortState) (answer : PortAnswer) (keeps : Keeps from to answer) (serves : Serves k.screen from) where
  pub dump_carries : Carries k k (Dump q) [] from to
  dump_carries = read_carries from to answer keeps k (Dump q) [] serves refl tt (λ h. h) tt (All-nil _)

  pub sum_carries : Carries k k (Sum q) [] from to
  sum_carries = read_carries from to answer keeps k (Sum q) [] serves refl tt (λ h. h) tt (All-nil _)

  module _ (out : List ℕ) (cause : Cause) (read : SurfaceIs (state_by k from) q (IsRead answer out)) (whole : IsFaultless q answer)
      (is : cause_of answer ≡ Some cause) where
    told_causes : All (λ (t : Told). HasCause t.cause from.faults to.faults) (unread q cause ∷ [])
    told_causes = one_report (λ (t : Told). HasCause t.cause from.faults to.faults) (unread q cause) (read_cause answer cause from.faults to.faults keeps.cause is)

    pub dump_unread : Carries k k (Dump q) (unread q cause ∷ []) from to
    dump_unread =
        read_carries from to answer keeps k (Dump q) (unread q cause ∷ []) serves refl (unread_tells (state_by k from) q answer out cause read whole is) (λ h. h)
        (nothing_there q cause) told_causes

    pub sum_unread : Carries k k (Sum q) (unread q cause ∷ []) from to
    sum_unread =
        read_carries from to answer keeps k (Sum q) (unread q cause ∷ []) serves refl (unread_tells (state_by k from) q answer out cause read whole is) (λ h. h)
        (nothing_there q cause) told_causes

-- the report of a read tells a fault where that is its cause
pub unread_fault : (q : Named) (cause : Cause) → tells_fault (unread q cause ∷ []) ≡ is_fault cause
unread_fault q causes.Fault = refl
unread_fault q causes.Memory = refl

-- what a command came to whose lines were written, by whether there are reports, and whether one is of a fault
module _ (names : BitmapNames) (n : ℕ) (c : ScriptCommand) (k l : Kept) (from to : PortState) {a b : Option (List ℕ)} {x y : ℕ} where
  pub came_reported : (first : Told) (rest : List Told) (fault : Bool) (w : Result (Unit {0}) WriteFault) (outcome : Outcome) →
      tells_fault (first ∷ rest) ≡ fault → Carries k l c (first ∷ rest) from to →
      Puts (text_of names n c (first ∷ rest) (state_by k from)) a b x y (is_err w) → ReportedAs fault w outcome → CameOut names n c k l from to a b x y outcome
  came_reported first rest true (Ok u) outcome fault carries wrote is = rw is (first ∷ rest, fault, record { carries = carries; wrote = wrote })
  came_reported first rest false (Ok u) outcome fault carries wrote is = rw is (first, rest, fault, record { carries = carries; wrote = wrote })
  came_reported first rest flag (Err f) outcome fault carries wrote is = rw is (first ∷ rest, record { carries = carries; wrote = wrote })

  pub came_written : (w : Result (Unit {0}) WriteFault) (outcome : Outcome) → Carries k l c [] from to →
      Puts (text_of names n c [] (state_by k from)) a b x y (is_err w) → WrittenAs w outcome → CameOut names n c k l from to a b x y outcome
  came_written (Ok u) outcome carries wrote is = rw is (record { carries = carries; wrote = wrote })
  came_written (Err f) outcome carries wrote is = rw is ([], record { carries = carries; wrote = wrote })

-- the values of a surface that was read
values_read : (answer : PortAnswer) (out : List ℕ) (t : Surface) → IsRead answer out t → cause_of answer ≡ None → out ≡ t.values
values_read answers.Done out t read is = read
values_read answers.Fault out t read is = absurd (cc)
values_read answers.NoMemory out t read is = absurd (cc)

pub read_long : (o : Option Surface) (answer : PortAnswer) (out : List ℕ) (look : SurfaceLook) → MatchOption o ⊥ (IsRead answer out) → MatchOption o ⊥ (LooksSo look) →
    cause_of answer ≡ None → length out ≡ look.size.w * look.size.h
read_long None answer out look read looks is = absurd read
read_long (Some t) answer out look read looks is = ap length (values_read answer out t read is) ∙ looks.places

pub sum_read : (names : BitmapNames) (q : Named) (o : Option Surface) (answer : PortAnswer) (out : List ℕ) → MatchOption o ⊥ (IsRead answer out) →
    cause_of answer ≡ None → sum_text names q out ≡ option_map_or (λ (t : Surface). sum_text names q t.values) o []
sum_read names q None answer out read is = absurd read
sum_read names q (Some t) answer out read is = ap (sum_text names q) (values_read answer out t read is)

pub dump_read : (names : BitmapNames) (q : Named) (o : Option Surface) (answer : PortAnswer) (out : List ℕ) (look : SurfaceLook) → MatchOption o ⊥ (IsRead answer out) →
    MatchOption o ⊥ (LooksSo look) → cause_of answer ≡ None →
    dump_text names q look.size look.format out ≡ option_map_or (λ (t : Surface). dump_text names q t.size t.format t.values) o []
dump_read names q None answer out look read looks is = absurd read
dump_read names q (Some t) answer out look read looks is = rw (values_read answer out t read is, sym looks.size, sym looks.format) refl

-- what a dump and a sum come to
module _ (names : BitmapNames) (n : ℕ) (k : Kept) (q : Named) (from to : PortState) (answer : PortAnswer) (keeps : Keeps from to answer)
    (serves : Serves k.screen from) (out : List ℕ) (read : SurfaceIs (state_by k from) q (IsRead answer out)) {a b : Option (List ℕ)} {x y : ℕ}
    (w : Result (Unit {0}) WriteFault) (outcome : Outcome) where
  module _ (cause : Cause) (whole : IsFaultless q answer) (is : cause_of answer ≡ Some cause) (fault : Bool) (faults : fault ≡ is_fault cause) where
    pub dump_unread_came : Puts (unread_text (codes "dump ") names q cause) a b x y (is_err w) → ReportedAs fault w outcome →
        CameOut names n (Dump q) k k from to a b x y outcome
    dump_unread_came wrote reported =
        came_reported names n (Dump q) k k from to (unread q cause) [] fault w outcome (unread_fault q cause ∙ sym faults)
        (dump_unread k q from to answer keeps serves out cause read whole is) wrote reported

    pub sum_unread_came : Puts (unread_text (codes "sum ") names q cause) a b x y (is_err w) → ReportedAs fault w outcome →
        CameOut names n (Sum q) k k from to a b x y outcome
    sum_unread_came wrote reported =
        came_reported names n (Sum q) k k from to (unread q cause) [] fault w outcome (unread_fault q cause ∙ sym faults)
        (sum_unread k q from to answer keeps serves out cause read whole is) wrote reported

  module _ (is : cause_of answer ≡ None) where
    pub sum_came : Puts (sum_text names q out) a b x y (is_err w) → WrittenAs w outcome → CameOut names n (Sum q) k k from to a b x y outcome
    sum_came wrote written =
        came_written names n (Sum q) k k from to w outcome (sum_carries k q from to answer keeps serves)
        (subst (λ (text : List ℕ). Puts text a b x y (is_err w)) (sum_read names q (surface_at (state_by k from) q) answer out read is) wrote) written

    module _ (look : SurfaceLook) (looks : SurfaceIs (state_by k from) q (LooksSo look)) where
      pub dump_came : Puts (dump_text names q look.size look.format out) a b x y (is_err w) → WrittenAs w outcome →
          CameOut names n (Dump q) k k from to a b x y outcome
      dump_came wrote written =
          came_written names n (Dump q) k k from to w outcome (dump_carries k q from to answer keeps serves)
          (subst (λ (text : List ℕ). Puts text a b x y (is_err w)) (dump_read names q (surface_at (state_by k from) q) answer out look read looks is) wrote) written

-- as many values were read as the surface has points
pub read_places : (k : Kept) (q : Named) (from : PortState) → Serves k.screen from → (answer : PortAnswer) (out : List ℕ) (look : SurfaceLook) →
    SurfaceIs (state_by k from) q (IsRead answer out) → SurfaceIs (state_by k from) q (LooksSo look) → cause_of answer ≡ None →
    length out ≡ look.size.w * look.size.h
read_places k q from serves answer out look read looks is = read_long (surface_at (state_by k from) q) answer out look read looks is
