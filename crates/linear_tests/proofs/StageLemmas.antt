-- What is drawn on the stage can be drawn, and leaves a stage.
use Rattle.std.proofs.Common.{◌≡◌, ◌∙◌, Bool, true, false, IsTrue, if◌then◌else◌, List, Option, Some, None, is_some, option_map, refl, ap, sym, subst, arith}
use Rattle.std.specs.List.{All}
use Rattle.std.proofs.lemmas.Int.{ints}
use Rattle.geom_base.specs.declared.rect.Rect.{Rect}
use Rattle.geom_base.specs.declared.target.Target.{Target}
use Rattle.geom_base.specs.declared.target.Target.TheVariants.{Screen}
use Rattle.geom_base.specs.Drawn.{Drawn}
use Rattle.geom_base.specs.Points.{is_in_some, point_at, whole}
use Rattle.geom_base.specs.Step.{Area, Change}
use Rattle.surf_obj.specs.Surface.{Surface, changed}
use Rattle.pix_format.specs.declared.format.Format.TheVariants.{B8}
use Rattle.pix_format.specs.declared.rgb.Rgb.{Rgb}
use Rattle.pix_format.specs.Standard.{standard_colours}
use Rattle.pix_format.specs.Xlate.{Translation}
use Rattle.brush_obj.specs.Calls.{held_of, rect_of, target_of}
use Rattle.brush_obj.specs.declared.draw_call.DrawCall.{DrawCall}
use Rattle.clip_obj.specs.Clip.{LiesWithin}
use Rattle.clip_obj.specs.ClipLaws.{all_in, clip_in}
use Rattle.copy_port.specs.Given.{Asked, CanDraw, Given, HasCoordinates, HasSource, HoldsLive, IsCallRect, IsPoint, LeadsFrom, Suits, Translates, given_copy, held_in, picture_of}
use Rattle.copy_port.specs.Laws.{format_on, live_on, size_on}
use Rattle.copy_port.specs.Port.{Keeps}
use Rattle.copy_port.specs.State.{PortState, Shown, drawn_on, same_target, surface_of}
use Rattle.copy_port.specs.declared.words.Mode.{Mode}
use Rattle.geom_base.specs.declared.port_answer.PortAnswer.{PortAnswer}
use Rattle.ddi_driver.specs.Enabling.{BeginsIn}
use Rattle.ddi_driver.specs.Hook.{HookContract, ShownAfter}
use Rattle.ddi_driver.specs.declared.answers.HookAnswer.{HookAnswer}
use Rattle.ddi_driver.specs.declared.answers.HookAnswer.TheVariants.{Done, Declined, Fault, NoMemory}
use Rattle.hook_route.specs.Routes.{Routed, ShownRouted}
use Rattle.hook_route.specs.declared.outcome.Outcome.{Outcome}
use Rattle.hook_route.specs.declared.outcome.Outcome.TheVariants.{All as all, Part}
use Rattle.linear_tests.specs.Stage.{HasScreen, IsStage, IsStageMode, sides}

-- a driver that was just enabled
pub begun : (m : Mode) (s : PortState) → IsStageMode m → BeginsIn m s → IsStage s
begun m s is b = record {
  enabled = b.enabled;
  screen = rw b.shown (record { alive = refl; size = is.size; format = is.format; table = is.table });
}

-- what is drawn keeps the screen's table
table_on : (t : Target) (new : Change) (a : Area) (m : Shown) → (surface_of (drawn_on t new a m) Screen).table ≡ (surface_of m Screen).table
table_on t new a m = at (same_target Screen t) (m Screen)
  where
    at : (b : Bool) (o : Option Surface) →
        (surface_of (λ (q : Target). if b then option_map (changed new a) o else o) Screen).table ≡ (surface_of (λ (q : Target). o) Screen).table
    at true None = refl
    at true (Some s) = refl
    at false o = refl

drawn_screen : (t : Target) (new : Change) (a : Area) (m n : Shown) → n ≡ drawn_on t new a m → HasScreen m → HasScreen n
drawn_screen t new a m n e h = rw e (record {
  alive = subst IsTrue (sym (live_on t Screen new a m)) h.alive;
  size = size_on t Screen new a m ∙ h.size;
  format = format_on t Screen new a m ∙ h.format;
  table = table_on t new a m ∙ h.table;
})

screen_after : (a : Asked) (more : Area) (m n : Shown) (answer : HookAnswer) → ShownAfter a more m n answer → HasScreen m → HasScreen n
screen_after a more m n Done e h = drawn_screen a.target a.new (λ p. is_in_some p a.clip) m n e h
screen_after a more m n Declined e h = rw e h
screen_after a more m n Fault e h = drawn_screen a.target a.new more m n e h
screen_after a more m n NoMemory e h = drawn_screen a.target a.new more m n e h

-- a hook, a routed call, and a call that only reads, leave a stage
pub after_hook : (a : Asked) (s t : PortState) (d e : Drawn) (answer : HookAnswer) → HookContract a s t d e answer → IsStage s → IsStage t
after_hook a s t d e answer h stage = record {
  enabled = subst IsTrue (sym h.mode.enabled) stage.enabled;
  screen = screen_after a h.more s.shown t.shown answer h.shown stage.screen;
}

routed_screen : (a : Asked) (more : Area) (m n : Shown) (outcome : Outcome) → ShownRouted a more m n outcome → HasScreen m → HasScreen n
routed_screen a more m n all e h = drawn_screen a.target a.new (λ p. is_in_some p a.clip) m n e h
routed_screen a more m n (Part cause) e h = drawn_screen a.target a.new more m n e h

pub after_route : (a : Asked) (s t : PortState) (d e : Drawn) (outcome : Outcome) → Routed a s t d e outcome → IsStage s → IsStage t
after_route a s t d e outcome h stage = record {
  enabled = subst IsTrue (sym h.mode.enabled) stage.enabled;
  screen = routed_screen a h.more s.shown t.shown outcome h.shown stage.screen;
}

pub after_read : (s t : PortState) (answer : PortAnswer) → Keeps s t answer → IsStage s → IsStage t
after_read s t answer k stage = record { enabled = rw k.rest stage.enabled; screen = rw k.shown stage.screen }

-- calls over the whole screen can be drawn

pub coordinates_fit : IsCallRect (whole sides)
coordinates_fit = record {
  across = omega (arith, ints);
  down = omega (arith, ints);
  left = (omega (arith, ints), omega (arith, ints));
  top = (omega (arith, ints), omega (arith, ints));
  right = (omega (arith, ints), omega (arith, ints));
  bottom = (omega (arith, ints), omega (arith, ints));
}

pub origin_fits : IsPoint (point_at 0 0)
origin_fits = ((omega (arith, ints), omega (arith, ints)), (omega (arith, ints), omega (arith, ints)))

pub can_draw : (call : DrawCall) (g : Given) (m : Shown) (rects : List Rect) → HasScreen m → target_of call ≡ Screen → rect_of call ≡ whole sides →
    HoldsLive (held_of call) g.source m → All (LiesWithin (whole sides)) rects → HasCoordinates call → g.table ≡ standard_colours B8 →
    Suits call g (held_in (held_of call) m) B8 → CanDraw call g m rects
can_draw call g m rects h t r held within coordinates table suits = record {
  alive = rw t h.alive;
  held = held;
  inside = rw (t, h.size) (all_in sides rects within);
  reach = λ p i. rw r (clip_in (whole sides) rects p within i);
  coordinates = coordinates;
  table = table ∙ sym h.table ∙ ap (λ (q : Target). (surface_of m q).table) (sym t);
  suits = rw (t, h.format) suits;
}

-- the screen as a source is of its format
held_screen : (m : Shown) (x : Translation) → HasScreen m → x.from ≡ B8 → LeadsFrom (held_in (Some Screen) m) x
held_screen m x h from = at (m Screen) h.format
  where
    at : (o : Option Surface) → (surface_of (λ (q : Target). o) Screen).format ≡ B8 → LeadsFrom (option_map picture_of o) x
    at None e = tt
    at (Some s) e = from ∙ sym e

is_held : (m : Shown) → HasScreen m → IsTrue (is_some (held_in (Some Screen) m))
is_held m h = at (m Screen) h.alive
  where
    at : (o : Option Surface) → IsTrue (is_some o) → IsTrue (is_some (option_map picture_of o))
    at None e = e
    at (Some s) e = refl

pub screen_suits : (m : Shown) (x : Translation) (table : List Rgb) → HasScreen m → x.from ≡ B8 → x.to ≡ B8 →
    Translates (given_copy None x table) (held_in (Some Screen) m) B8 × HasSource (given_copy None x table) (held_in (Some Screen) m)
screen_suits m x table h from to = ((held_screen m x h from, to), is_held m h)
