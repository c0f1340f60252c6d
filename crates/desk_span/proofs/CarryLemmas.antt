-- What a drawing on the screen of a desk carries.
use Rattle.std.proofs.Common.{◌≡◌, ◌∙◌, ℕ, zero, suc, ◌&&◌, IsTrue, [], ◌∷◌, get_or, Option, Some, None, refl, sym, ap, subst, arith}
use Rattle.std.proofs.lemmas.Option.{none-some}
use Rattle.std.specs.Prelude.{if◌then◌else◌, ◌<◌, is_some, option_map, unwrap_or, IfSome}
use Rattle.std.specs.Option.{option_to_list}
use Rattle.geom_base.specs.declared.target.Target.{Target}
use Rattle.geom_base.specs.declared.target.Target.TheVariants as targets
use Rattle.geom_base.specs.Points.{moved}
use Rattle.geom_base.specs.Step.{Area, Change}
use Rattle.surf_obj.specs.Surface.{Surface, changed}
use Rattle.copy_port.specs.State.{IsLive, PortState, Shown, drawn_on as drawn_in, surface_of}
use Rattle.ddi_driver.specs.Enabling.{screen_alone}
use Rattle.script_orders.specs.declared.desk_command.DeskCommand.{DeskCommand}
use Rattle.script_orders.specs.declared.desk_command.Spot.{Spot}
use Rattle.script_orders.specs.declared.desk_command.Spot.TheVariants as spots
use Rattle.script_orders.specs.declared.named.Named.{Named}
use Rattle.script_orders.specs.declared.named.Named.TheVariants as named
use Rattle.script_orders.specs.declared.script_command.ScriptCommand.TheVariants as asked
use Rattle.desk_span.specs.Carries.{Carries}
use Rattle.desk_span.specs.Desk.{area_of, drawn_on, new_of, standing_at, surface_at}
use Rattle.desk_span.specs.InnerRouted.{DrewOn}
use Rattle.desk_span.specs.Kept.{Kept, Serves, shown_by_driver, state_by}
use Rattle.desk_span.specs.Meeting.{IsTarget}
use Rattle.desk_span.specs.Reports.{Told, part_of, report_on, same_name}
use Rattle.desk_span.specs.Telling.{AreReports, IsReport}

-- what is shown of a target that was drawn on, and of one that is shown alone
drawn_surface : (shown : Shown) (new : Change) (area : Area) → IsLive shown targets.Screen →
    surface_of (drawn_in targets.Screen new area shown) targets.Screen ≡ changed new area (surface_of shown targets.Screen)
drawn_surface shown new area live = at (shown targets.Screen) live
  where
    other : Surface
    other = surface_of (λ q. None) targets.Screen

    at : (o : Option Surface) → IsTrue (is_some o) → unwrap_or (option_map (changed new area) o) other ≡ changed new area (unwrap_or o other)
    at (Some t) h = refl
    at None h = absurd (cc)

drawn_live : (shown : Shown) (new : Change) (area : Area) → IsLive shown targets.Screen → IsLive (drawn_in targets.Screen new area shown) targets.Screen
drawn_live shown new area live = at (shown targets.Screen) live
  where
    at : (o : Option Surface) → IsTrue (is_some o) → IsTrue (is_some (option_map (changed new area) o))
    at (Some t) h = refl
    at None h = absurd (cc)

drawn_alone : (screen : Surface) (new : Change) (area : Area) → drawn_in targets.Screen new area (screen_alone screen) ≡ screen_alone (changed new area screen)
drawn_alone screen new area = λ i q. on q i
  where
    on : (q : Target) → drawn_in targets.Screen new area (screen_alone screen) q ≡ screen_alone (changed new area screen) q
    on targets.Screen = refl
    on (targets.Bitmap n) = refl

module _ (k : Kept) (c : DeskCommand) (told : Option Told) (before after : PortState) (serves : Serves k.screen before) (h : DrewOn k c told before after) where
  abbrev new : Change
  new p = new_of (state_by k before) c (shown_by_driver before) (moved p k.screen.at)

  abbrev area : Area
  area p = part_of told p && area_of c (moved p k.screen.at)

  abbrev t : Surface
  t = shown_by_driver before

  shows : shown_by_driver after ≡ changed new area t
  shows = ap (λ (shown : Shown). surface_of shown targets.Screen) h.shown ∙ drawn_surface before.shown new area serves.alive

  pub still : Serves k.screen after
  still = record {
    enabled = subst IsTrue (sym h.drives.mode.enabled) serves.enabled;
    alive = subst (λ (shown : Shown). IsLive shown targets.Screen) (sym h.shown) (drawn_live before.shown new area serves.alive);
    alone = h.shown ∙ ap (drawn_in targets.Screen new area) serves.alone ∙ drawn_alone t new area ∙ ap screen_alone (sym shows);
    size = ap (λ (u : Surface). u.size) shows ∙ serves.size;
    format = ap (λ (u : Surface). u.format) shows ∙ serves.format;
    table = ap (λ (u : Surface). u.table) shows ∙ serves.table;
  }

  -- a report of it is on the one screen
  told_here : (r : Option Told) → IfSome r (IsReport (state_by k before) c) → c.target ≡ spots.Desk → report_on (option_to_list r) (named.Screen 0) ≡ r
  told_here None told desk = refl
  told_here (Some r) told desk = on r.target told.meets.there (subst (λ (spot : Spot). IsTarget spot r.target) desk told.meets.target)
    where
      on : (q : Named) → surface_at (state_by k before) q ≡ Some told.meets.surface → IsTarget spots.Desk q →
          (if same_name q (named.Screen 0) then Some r else None) ≡ Some r
      on (named.Screen zero) there target = refl
      on (named.Screen (suc n)) there target = absurd (none-some _ there)
      on (named.Bitmap n) there target = absurd target

  -- so it carries the drawing
  pub screen_carries : c.target ≡ spots.Desk → Carries k k (asked.Draw c) (option_to_list told) before after
  screen_carries desk = record {
    screen = refl;
    serves = still;
    shows = ap (λ (u : Surface). record {
      places = standing_at k.screen.at u ∷ [];
      screens = u ∷ [];
      bitmaps = k.bitmaps;
      brushes = k.brushes;
    }) shows
        ∙ ap (λ (r : Option Told). record (state_by k before) { screens = changed new (λ p. part_of r p && area_of c (moved p k.screen.at)) t ∷ [] })
        (sym (told_here told h.report desk))
        ∙ ap (drawn_on (state_by k before) c (option_to_list told)) (sym desk);
    tells = all_told told h.report;
    drives = h.drives;
  }
    where
      all_told : (r : Option Told) → IfSome r (IsReport (state_by k before) c) → AreReports (state_by k before) c (option_to_list r)
      all_told None told = record { order = tt; each = λ i d lt. absurd (omega (arith, lt)) }
      all_told (Some r) told = record { order = (λ i d lt. absurd (omega (arith, lt)), tt); each = one }
        where
          one : (i : ℕ) (d : Told) → i < 1 → IsReport (state_by k before) c (get_or (r ∷ []) i d)
          one zero d lt = told
          one (suc i) d lt = absurd (omega (arith, lt))
