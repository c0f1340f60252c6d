-- What the calls of a driver that hands every call back leave.
use Rattle.std.proofs.Common.{◌≡◌, ℕ, Option, Some, is_some, refl, sym, ap, subst, true≢false}
use Rattle.geom_base.specs.declared.port_answer.PortAnswer.{PortAnswer}
use Rattle.geom_base.specs.declared.target.Target.{Target}
use Rattle.geom_base.specs.declared.target.Target.TheVariants.{Screen, Bitmap}
use Rattle.geom_base.specs.Drawn.{Drawn}
use Rattle.geom_base.specs.Step.{Area, Change}
use Rattle.surf_obj.specs.Surface.{changed}
use Rattle.copy_port.specs.Port.{Draws}
use Rattle.copy_port.specs.State.{IsLive, PortState, drawn_on, next_count}
use Rattle.copy_port.specs.declared.hooks.Hooks.{Hooks}
use Rattle.ddi_driver.specs.HookLaws.{CountsOffer}
use Rattle.mem_port.specs.Memory.{surface_in}
use Rattle.mem_port.specs.declared.mem_surf.MemSurf.{MemSurf}
use Rattle.punt_driver.specs.State.{rest_with, shown_on, state_with}

-- a step of the screen is one of a live target
pub screen_drawn : (o : Option MemSurf) (s after : MemSurf) (t : Target) (new : Change) (area : Area) → o ≡ Some s → IsLive (shown_on o) t →
    surface_in after ≡ changed new area (surface_in s) → shown_on (Some after) ≡ drawn_on t new area (shown_on o)
screen_drawn o s after t new area e live is = rw e (λ i q. at t q (subst (λ (x : Option MemSurf). IsLive (shown_on x) t) e live) i)
  where
    at : (t q : Target) → IsLive (shown_on (Some s)) t → shown_on (Some after) q ≡ drawn_on t new area (shown_on (Some s)) q
    at Screen Screen there = ap Some is
    at Screen (Bitmap n) there = refl
    at (Bitmap m) q there = absurd (true≢false (sym there))

-- and the driver stays enabled
pub rest_drawn : (o : Option MemSurf) (s after : MemSurf) (hooks : Hooks) (offered asked : ℕ) → o ≡ Some s →
    rest_with (is_some (Some after)) hooks offered asked ≡ rest_with (is_some o) hooks offered asked
rest_drawn o s after hooks offered asked e = rw e refl

-- a call on a live target was offered
pub counts_offer : (screen : Option MemSurf) (hooks : Hooks) (offered next written asked : ℕ) (t : Target) → IsLive (shown_on screen) t →
    next ≡ next_count offered → CountsOffer t (state_with screen hooks offered written asked) (state_with screen hooks next written asked)
counts_offer screen hooks offered next written asked Screen live e = record {
  shown = refl;
  faults = refl;
  written = refl;
  counts = record { offered = e; offered_bitmaps = refl; declined = refl };
  mode = record { driver = record { kind = refl; limits = refl }; enabled = refl; hooks = refl; cuts = refl };
  bitmaps = record { asked = refl; made = refl };
}
counts_offer screen hooks offered next written asked (Bitmap n) live e = absurd (true≢false (sym live))

-- the same drawing where the count of what was written is set back
pub set_back : (t : Target) (new : Change) (area : Area) (most : ℕ) (s : PortState) (screen : Option MemSurf) (hooks : Hooks)
    (offered written back asked : ℕ) (d e : Drawn) (answer : PortAnswer) → Draws t new area most s (state_with screen hooks offered written asked) d e answer →
    Draws t new area most s (state_with screen hooks offered back asked) d e answer
set_back t new area most s screen hooks offered written back asked d e answer h = record {
  more = h.more;
  pushes = h.pushes;
  within = h.within;
  shown = h.shown;
  done = h.done;
  rest = h.rest;
  later = h.later;
  cause = h.cause;
}
