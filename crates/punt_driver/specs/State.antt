-- What a driver that hands every call back shows and counts.
use Rattle.std.proofs.Common.{ℕ, Bool, false, is_some, Option, Some, None, option_map, [], sym, true≢false}
use Rattle.geom_base.specs.declared.target.Target.{Target}
use Rattle.geom_base.specs.declared.target.Target.TheVariants.{Screen, Bitmap}
use Rattle.copy_port.specs.Classes.{has_hook}
use Rattle.copy_port.specs.State.{IsLive, IsSurface, PortState, Rest, Shown, surface_of}
use Rattle.copy_port.specs.declared.hooks.Hooks.{Hooks}
use Rattle.copy_port.specs.declared.words.Kind.TheVariants.{Linear}
use Rattle.mem_port.specs.Memory.{surface_in, surface_in-sound}
use Rattle.mem_port.specs.declared.mem_surf.MemSurf.{MemSurf}
use Rattle.punt_driver.specs.declared.driver.PuntDriver.{PuntDriver}

-- its screen, where it has one, and nothing else
abbrev pub shown_on : Option MemSurf → Shown
shown_on screen Screen = option_map surface_in screen
shown_on screen (Bitmap n) = None

pub shown_sound : (screen : Option MemSurf) (t : Target) → IsLive (shown_on screen) t → IsSurface (surface_of (shown_on screen) t)
shown_sound (Some s) Screen live = surface_in-sound s
shown_sound None Screen live = absurd (true≢false (sym live))
shown_sound screen (Bitmap n) live = absurd (true≢false (sym live))

-- it can do every mode, declines nothing, and is asked for bitmaps that it doesn't make
abbrev pub rest_with : Bool → Hooks → ℕ → ℕ → Rest
rest_with enabled hooks offered asked = record {
  kind = Linear;
  enabled = enabled;
  hooks = λ h. has_hook hooks h;
  declines = λ c. false;
  mode_limit = λ m. None;
  offered = offered;
  offered_bitmaps = 0;
  declined = 0;
  asked = asked;
  made = 0;
  cuts = 1;
  extra = [];
}

abbrev pub state_with : Option MemSurf → Hooks → ℕ → ℕ → ℕ → PortState
state_with screen hooks offered written asked = record {
  shown = shown_on screen;
  faults = 0;
  written = written;
  rest = rest_with (is_some screen) hooks offered asked;
  sound = shown_sound screen;
}

abbrev pub state_of : PuntDriver → PortState
state_of d = state_with d.screen d.hooks d.offered d.written d.asked
