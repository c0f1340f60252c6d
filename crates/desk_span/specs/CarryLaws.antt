-- Laws of what a command leaves: of one that asks a driver for nothing but to be read, and of one that asks for nothing.
use Rattle.std.proofs.Common.{◌≡◌, ◌∙◌, ℕ, List, [], ◌∷◌, refl, sym, ap, subst, arith, le_refl}
use Rattle.std.specs.Prelude.{IfSome, IsTrue, Bool, Option, None, Some}
use Rattle.std.specs.List.{All}
use Rattle.geom_base.specs.declared.port_answer.PortAnswer.{PortAnswer}
use Rattle.geom_base.specs.declared.port_answer.PortAnswer.TheVariants as answers
use Rattle.geom_base.specs.declared.target.Target.TheVariants.{Screen}
use Rattle.copy_port.specs.Port.{Keeps}
use Rattle.copy_port.specs.State.{IsLive, PortState, Rest, Shown, surface_of}
use Rattle.ddi_driver.specs.Enabling.{screen_alone}
use Rattle.ddi_driver.specs.Kept.{SameBitmaps, SameMode}
use Rattle.script_orders.specs.declared.named.Named.TheVariants as named
use Rattle.script_orders.specs.declared.script_command.ScriptCommand.{ScriptCommand}
use Rattle.desk_span.specs.Carries.{Alters, Carries}
use Rattle.desk_span.specs.Desk.{State, carried, standing_at}
use Rattle.desk_span.specs.Drives.{Drives, HasCause, IsOffer, PieceOf, is_hooked}
use Rattle.desk_span.specs.Kept.{Kept, ScreenKept, Serves, state_by}
use Rattle.desk_span.specs.Reports.{Told, report_on}
use Rattle.desk_span.specs.Telling.{MayTell}

-- a driver that is asked for nothing
pub asked_nothing : (driver : PortState) → Keeps driver driver answers.Done
asked_nothing driver = record { shown = refl; written = refl; rest = refl; later = le_refl _; cause = tt }

module _ (before after : PortState) (answer : PortAnswer) (keeps : Keeps before after answer) where
  -- it serves the screen as before, and shows the same
  pub still_serves : (w : ScreenKept) → Serves w before → Serves w after
  still_serves w h = record {
    enabled = subst (λ (r : Rest). IsTrue r.enabled) (sym keeps.rest) h.enabled;
    alive = subst (λ (shown : Shown). IsLive shown Screen) (sym keeps.shown) h.alive;
    alone = subst (λ (shown : Shown). shown ≡ screen_alone (surface_of shown Screen)) (sym keeps.shown) h.alone;
    size = subst (λ (shown : Shown). (surface_of shown Screen).size ≡ w.size) (sym keeps.shown) h.size;
    format = subst (λ (shown : Shown). (surface_of shown Screen).format ≡ w.format) (sym keeps.shown) h.format;
    table = subst (λ (shown : Shown). (surface_of shown Screen).table ≡ w.table) (sym keeps.shown) h.table;
  }

  pub still_shown : (k : Kept) → state_by k after ≡ state_by k before
  still_shown k =
      ap (λ (shown : Shown). record {
        places = standing_at k.screen.at (surface_of shown Screen) ∷ [];
        screens = surface_of shown Screen ∷ [];
        bitmaps = k.bitmaps;
        brushes = k.brushes;
      }) keeps.shown

  -- and was offered nothing
  not_offered : (hooked : Bool) (piece : Type 0) (report : Option Told) → (piece → ⊥) → IfSome report (λ (t : Told). t.rects ≡ []) → IsOffer hooked piece report 0
  not_offered hooked piece report none nothing = record {
    most = omega arith;
    hooked_only = λ e. refl;
    piece_only = λ e. refl;
    whole = λ e t p. absurd (none p);
    part = undrawn report nothing;
  }
    where
      undrawn : (o : Option Told) → IfSome o (λ (t : Told). t.rects ≡ []) → IfSome o (λ (t : Told). (t.rects ≡ [] → ⊥) → IsTrue hooked → ◌≡◌ {A = ℕ} 0 1)
      undrawn None h = tt
      undrawn (Some t) h = λ some hooked. absurd (some h)

  pub only_read : (s : State) (command : ScriptCommand) (told : List Told) → (PieceOf s command 0 → ⊥) →
      IfSome (report_on told (named.Screen 0)) (λ (t : Told). t.rects ≡ []) → All (λ (t : Told). HasCause t.cause before.faults after.faults) told →
      Drives s command told 0 before after
  only_read s command told none nothing causes = record {
    later = keeps.later;
    causes = causes;
    offered = (0, not_offered (is_hooked before command) (PieceOf s command 0) (report_on told (named.Screen 0)) none nothing, ap (λ (r : Rest). r.offered) keeps.rest);
    declined = (0, record { most = omega arith; count = ap (λ (r : Rest). r.declined) keeps.rest; written = λ z t. keeps.written });
    mode = subst (λ (r : Rest). SameMode before.rest r) (sym keeps.rest) (record { driver = record { kind = refl; limits = refl }; enabled = refl; hooks = refl; cuts = refl });
    bitmaps = subst (λ (r : Rest). SameBitmaps before.rest r) (sym keeps.rest) (record { asked = refl; made = refl });
  }

  -- so a command that only reads carries nothing but what it tells
  pub read_carries : (k : Kept) (command : ScriptCommand) (told : List Told) → Serves k.screen before →
      carried command told (state_by k before) ≡ state_by k before → MayTell (state_by k before) command told → (PieceOf (state_by k before) command 0 → ⊥) →
      IfSome (report_on told (named.Screen 0)) (λ (t : Told). t.rects ≡ []) → All (λ (t : Told). HasCause t.cause before.faults after.faults) told →
      Carries k k command told before after
  read_carries k command told serves same tells none nothing causes = record {
    screen = refl;
    serves = still_serves k.screen serves;
    shows = still_shown k ∙ sym same;
    tells = tells;
    drives = only_read (state_by k before) command told none nothing causes;
  }

-- and one that asks for nothing carries what it alters
pub altered : (k l : Kept) (command : ScriptCommand) (driver : PortState) → Serves k.screen driver → Alters k l command → MayTell (state_by k driver) command [] →
    (PieceOf (state_by k driver) command 0 → ⊥) → Carries k l command [] driver driver
altered k l command driver serves h tells none = record {
  screen = h.screen;
  serves = subst (λ (w : ScreenKept). Serves w driver) (sym h.screen) serves;
  shows = h.shows driver;
  tells = tells;
  drives = only_read driver driver answers.Done (asked_nothing driver) (state_by k driver) command [] none tt (λ i d lt. absurd (omega (arith, lt)));
}
