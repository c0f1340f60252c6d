-- Commands that make something, or take it away, and ask nothing of any driver.
use Rattle.std.proofs.Common.{◌≡◌, ℕ, List, Option, Result, Ok, Err, refl}
use Rattle.std.specs.Prelude.{OnErr, OnOk}
use Rattle.std.specs.declared.alloc.AllocError.{AllocError}
use Rattle.copy_port.specs.State.{PortState}
use Rattle.desk_io.specs.SinkLaws.{puts_nothing}
use Rattle.script_orders.specs.declared.orders.BrushOrder.{BrushOrder}
use Rattle.script_orders.specs.declared.orders.CreateOrder.{CreateOrder}
use Rattle.script_orders.specs.declared.script_command.ScriptCommand.TheVariants.{Create, Delete, Brush, Nothing}
use Rattle.desk_span.specs.Carries.{Alters}
use Rattle.desk_span.specs.CarryLaws.{altered}
use Rattle.desk_span.specs.Kept.{Kept, Serves}
use Rattle.desk_run.specs.InnerRun.{CameOut, MadeAs}
use Rattle.desk_run.specs.Texts.{BitmapNames}
use Rattle.desk_run.specs.declared.run.Outcome.{Outcome}
use Rattle.desk_run.specs.declared.run.Outcome.TheVariants.{Whole}

module _ (names : BitmapNames) (n : ℕ) (k l : Kept) (driver : PortState) (serves : Serves k.screen driver) (a : Option (List ℕ)) (x : ℕ) where
  pub bitmap_made : (o : CreateOrder) (made : Result (Unit {0}) AllocError) (outcome : Outcome) → MadeAs made outcome → OnOk made (Alters k l (Create o)) →
      OnErr made (l ≡ k) → CameOut names n (Create o) k l driver driver a a x x outcome
  bitmap_made o (Ok u) outcome is ok err = rw is (record { carries = altered k l (Create o) driver serves ok refl (λ h. h); wrote = puts_nothing a x })
  bitmap_made o (Err e) outcome is ok err = rw is (tt, err, refl, refl, refl)

  pub brush_made : (o : BrushOrder) (made : Result (Unit {0}) AllocError) (outcome : Outcome) → MadeAs made outcome → OnOk made (Alters k l (Brush o)) →
      OnErr made (l ≡ k) → CameOut names n (Brush o) k l driver driver a a x x outcome
  brush_made o (Ok u) outcome is ok err = rw is (record { carries = altered k l (Brush o) driver serves ok refl (λ h. h); wrote = puts_nothing a x })
  brush_made o (Err e) outcome is ok err = rw is (tt, err, refl, refl, refl)

  pub bitmap_gone : (number : ℕ) → Alters k l (Delete number) → CameOut names n (Delete number) k l driver driver a a x x Whole
  bitmap_gone number h = record { carries = altered k l (Delete number) driver serves h refl (λ p. p); wrote = puts_nothing a x }

-- and one that does nothing
pub nothing_came : (names : BitmapNames) (n : ℕ) (k : Kept) (driver : PortState) → Serves k.screen driver → (a : Option (List ℕ)) (x : ℕ) →
    CameOut names n Nothing k k driver driver a a x x Whole
nothing_came names n k driver serves a x =
    record { carries = altered k k Nothing driver serves (record { screen = refl; shows = λ d. refl }) refl (λ p. p); wrote = puts_nothing a x }
