-- What a history leaves of the driver, one command after the other.
use Rattle.std.proofs.Common.{◌≡◌, ◌∙◌, ℕ, zero, suc, ◌+◌, ◌≤◌, Bool, true, false, IsTrue, List, [], ◌∷◌, ◌++◌, refl, sym, ap, subst, arith, length-append}
use Rattle.std.specs.Prelude.{All, if◌then◌else◌}
use Rattle.std.proofs.lemmas.Bool.Decides.{nat_tests}
use Rattle.std.proofs.lemmas.List.Elements.{All-cons, All-head, All-nil, All-tail}
use Rattle.std.proofs.lemmas.List.Folds.{list_any-append}
use Rattle.copy_port.specs.Classes.{hook_of}
use Rattle.copy_port.specs.State.{PortState, Rose, next_count}
use Rattle.copy_port.specs.declared.hooks.Hook.{Hook}
use Rattle.hook_route.specs.declared.outcome.Cause.{Cause}
use Rattle.hook_route.specs.declared.outcome.Cause.TheVariants.{Fault, Memory}
use Rattle.script_orders.specs.declared.named.Named.TheVariants.{Screen}
use Rattle.script_orders.specs.declared.script_command.ScriptCommand.{ScriptCommand}
use Rattle.script_orders.specs.declared.script_command.ScriptCommand.TheVariants.{Create, Delete, Brush, Draw, Dump, Sum, Nothing}
use Rattle.desk_span.specs.Desk.{State, carried}
use Rattle.desk_span.specs.Drives.{Drives, HasCause, IsOffer, PieceOf, is_hooked, rises}
use Rattle.desk_span.specs.Reports.{Told, is_fault, report_on, tells_fault}
use Rattle.desk_run.specs.Driven.{Declined, Driven, IsCounting, Offers, faulted}
use Rattle.desk_run.specs.Entries.{Entry, run}

-- a count that rose more often
rises_more : (a b n : ℕ) → rises (a + b) n ≡ rises b (rises a n)
rises_more a zero n = ap (λ k. rises k n) (let e : a + 0 ≡ a = omega arith in e)
rises_more a (suc b) n = ap (λ k. rises k n) (let e : a + suc b ≡ suc (a + b) = omega arith in e) ∙ ap next_count (rises_more a b n)

-- more calls were offered
offers_more : (driver : PortState) (s : State) (h : List Entry) (e : Entry) (k m : ℕ) → Offers driver s h k →
    IsOffer (is_hooked driver e.command) (PieceOf (run h s) e.command 0) (report_on e.told (Screen 0)) m → Offers driver s (h ++ e ∷ []) (k + m)
offers_more driver s [] e k m none offer = (m, 0, offer, refl, omega (arith, none))
offers_more driver s (x ∷ xs) e k m (a, l, first, rest, sum) offer =
    (a, l + m, first, offers_more driver (carried x.command x.told s) xs e l m rest offer, omega (arith, sum))

-- more commands told of a fault
faulted_more : (h : List Entry) (e : Entry) → faulted (h ++ e ∷ []) ≡ faulted h + (if tells_fault e.told then 1 else 0)
faulted_more [] e = omega arith
faulted_more (x ∷ xs) e = ap (λ n. (if tells_fault x.told then 1 else 0) + n) (faulted_more xs e) ∙ (let f : (if tells_fault x.told then 1 else 0) + (faulted xs + (if tells_fault e.told then 1 else 0)) ≡ (if tells_fault x.told then 1 else 0) + faulted xs + (if tells_fault e.told then 1 else 0) = omega arith in f)

-- a fault that is told has a cause
fault_cause : (told : List Told) (before now : ℕ) → tells_fault told ≡ true → All (λ (t : Told). HasCause t.cause before now) told → Rose before now
fault_cause [] before now e causes = absurd (cc)
fault_cause (t ∷ told) before now e causes =
    at t.cause refl (All-head (λ (u : Told). HasCause u.cause before now) t told causes)
    (λ more. fault_cause told before now more (All-tail (λ (u : Told). HasCause u.cause before now) t told causes))
  where
    at : (c : Cause) → t.cause ≡ c → HasCause t.cause before now → (tells_fault told ≡ true → Rose before now) → Rose before now
    at Fault is rose rest = subst (λ (c : Cause). HasCause c before now) is rose
    at Memory is rose rest = rest (sym (list_any-append (λ (u : Told). is_fault u.cause) (t ∷ []) told ∙ rw is refl) ∙ e)

-- what is hooked stays hooked
hooked_alike : (a b : PortState) → b.rest.hooks ≡ a.rest.hooks → (command : ScriptCommand) → is_hooked b command ≡ is_hooked a command
hooked_alike a b same (Create o) = refl
hooked_alike a b same (Delete n) = refl
hooked_alike a b same (Brush o) = refl
hooked_alike a b same (Draw c) = ap (λ (hooks : Hook → Bool). hooks (hook_of c.call)) same
hooked_alike a b same (Dump q) = refl
hooked_alike a b same (Sum q) = refl
hooked_alike a b same Nothing = refl

-- all of a history, and one more
last_one : (P : Entry → Type 0) (h : List Entry) (e : Entry) → All P (h ++ e ∷ []) → P e
last_one P [] e all = All-head P e [] all
last_one P (x ∷ xs) e all = last_one P xs e (All-tail P x (xs ++ e ∷ []) all)

first_ones : (P : Entry → Type 0) (h : List Entry) (e : Entry) → All P (h ++ e ∷ []) → All P h
first_ones P [] e all = All-nil P
first_ones P (x ∷ xs) e all = All-cons P x xs (All-head P x (xs ++ e ∷ []) all) (first_ones P xs e (All-tail P x (xs ++ e ∷ []) all))

-- before the first command
pub driven_none : (s : State) (driver : PortState) → Driven s [] driver driver
driven_none s driver = record {
  later = omega arith;
  paid = λ counting. omega arith;
  offered = (0, refl, refl);
  declined = (0, record { most = omega arith; count = refl; written = λ none all. refl });
  mode = record { driver = record { kind = refl; limits = refl }; enabled = refl; hooks = refl; cuts = refl };
  bitmaps = record { asked = refl; made = refl };
}

-- and after one more
module _ (s : State) (h : List Entry) (e : Entry) (a b c : PortState) (so : Driven s h a b) (one : Drives (run h s) e.command e.told 0 b c) where
  hooked : is_hooked b e.command ≡ is_hooked a e.command
  hooked = hooked_alike a b so.mode.hooks e.command

  paid_more : IsCounting c.faults → faulted (h ++ e ∷ []) + a.faults ≤ c.faults
  paid_more counting =
      let before = so.paid (omega (arith, counting, one.later)) in
      let sum = faulted_more h e in
      at (tells_fault e.told) refl before sum
    where
      at : (f : Bool) → tells_fault e.told ≡ f → faulted h + a.faults ≤ b.faults →
          faulted (h ++ e ∷ []) ≡ faulted h + (if tells_fault e.told then 1 else 0) → faulted (h ++ e ∷ []) + a.faults ≤ c.faults
      at true is before sum =
          let rose = fault_cause e.told b.faults c.faults is one.causes in
          let sum2 = rw is at sum in
          grind (arith, nat_tests, before, sum2, rose, counting)
      at false is before sum = let sum2 = rw is at sum in let later = one.later in omega (arith, before, sum2, later)

  declined_more : (m n : ℕ) → Declined a b h m → (n ≤ 1) → (c.rest.declined ≡ rises n b.rest.declined) →
      (n ≡ 0 → IsTrue (is_hooked b e.command) → c.written ≡ b.written) → Declined a c (h ++ e ∷ []) (m + n)
  declined_more m n d few count written = record {
    most = let long = length-append h (e ∷ []) in let most = d.most in omega (arith, long, most, few);
    count = count ∙ ap (rises n) d.count ∙ sym (rises_more m n a.rest.declined);
    written = λ none all.
        written (omega (arith, none)) (subst IsTrue (sym hooked) (last all)) ∙ d.written (omega (arith, none)) (firsts all);
  }
    where
      firsts : All (λ (x : Entry). IsTrue (is_hooked a x.command)) (h ++ e ∷ []) → All (λ (x : Entry). IsTrue (is_hooked a x.command)) h
      firsts all = first_ones (λ (x : Entry). IsTrue (is_hooked a x.command)) h e all

      last : All (λ (x : Entry). IsTrue (is_hooked a x.command)) (h ++ e ∷ []) → IsTrue (is_hooked a e.command)
      last all = last_one (λ (x : Entry). IsTrue (is_hooked a x.command)) h e all

  pub driven_more : Driven s (h ++ e ∷ []) a c
  driven_more =
      let (k, offers, offered) = so.offered in
      let (m, offer, offered_more) = one.offered in
      let (p, declined) = so.declined in
      let (q, more) = one.declined in
      record {
        later = let first = so.later in let second = one.later in omega (arith, first, second);
        paid = paid_more;
        offered = (
          k + m,
          offers_more a s h e k m offers (subst (λ (f : Bool). IsOffer f (PieceOf (run h s) e.command 0) (report_on e.told (Screen 0)) m) hooked offer),
          offered_more ∙ ap (rises m) offered ∙ sym (rises_more k m a.rest.offered),
        );
        declined = (p + q, declined_more p q declined more.most more.count more.written);
        mode = record {
          driver = record { kind = one.mode.driver.kind ∙ so.mode.driver.kind; limits = one.mode.driver.limits ∙ so.mode.driver.limits };
          enabled = one.mode.enabled ∙ so.mode.enabled;
          hooks = one.mode.hooks ∙ so.mode.hooks;
          cuts = one.mode.cuts ∙ so.mode.cuts;
        };
        bitmaps = record { asked = one.bitmaps.asked ∙ so.bitmaps.asked; made = one.bitmaps.made ∙ so.bitmaps.made };
      }
