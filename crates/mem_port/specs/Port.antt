-- What a port over memory shows and counts.
use Rattle.std.proofs.Common.{◌≡◌, ℕ, Bool, true, false, IsTrue, is_some, if◌then◌else◌, nat_eq, None, Some}
use Rattle.std.proofs.Common.{refl, ap, true≢false, sym, [], option_map, eqb-true}
use Rattle.geom_base.specs.declared.target.Target.{Target}
use Rattle.geom_base.specs.declared.target.Target.TheVariants.{Screen, Bitmap}
use Rattle.geom_base.specs.Step.{Area, Change}
use Rattle.surf_obj.specs.Surface.{Surface, changed}
use Rattle.copy_port.specs.State.{IsLive, IsSurface, PortState, Rest, Shown, drawn_on, surface_of}
use Rattle.copy_port.specs.declared.words.Kind.TheVariants.{Linear}
use Rattle.mem_port.specs.Memory.{surface_in, surface_in-sound}
use Rattle.mem_port.specs.declared.mem_surf.MemSurf.{MemSurf}
use Rattle.mem_port.specs.declared.mem_port.MemPort.{MemPort}

-- the screen, and the bitmap of number 1
abbrev pub shown_with : Surface → Surface → Shown
shown_with screen bitmap Screen = Some screen
shown_with screen bitmap (Bitmap n) = if nat_eq n 1 then Some bitmap else None

pub shown_sound : (a b : Surface) → IsSurface a → IsSurface b → (t : Target) → IsLive (shown_with a b) t → IsSurface (surface_of (shown_with a b) t)
shown_sound a b x y Screen live = x
shown_sound a b x y (Bitmap n) live = at (nat_eq n 1) live
  where
    at : (c : Bool) → IsTrue (is_some (if c then Some b else None)) → IsSurface (surface_of (λ (t : Target). if c then Some b else None) Screen)
    at true live = y
    at false live = absurd (true≢false (sym live))

-- a step of the screen is one on what is shown
pub screen_changed : (screen bitmap after : Surface) (new : Change) (area : Area) → after ≡ changed new area screen →
    shown_with after bitmap ≡ drawn_on Screen new area (shown_with screen bitmap)
screen_changed screen bitmap after new area is = λ i q. at q i
  where
    at : (q : Target) → shown_with after bitmap q ≡ drawn_on Screen new area (shown_with screen bitmap) q
    at Screen = ap Some is
    at (Bitmap n) = refl

-- and one of the bitmap, where that is a target
pub bitmap_changed : (screen bitmap after : Surface) (new : Change) (area : Area) (m : ℕ) → IsLive (shown_with screen bitmap) (Bitmap m) →
    after ≡ changed new area bitmap → shown_with screen after ≡ drawn_on (Bitmap m) new area (shown_with screen bitmap)
bitmap_changed screen bitmap after new area m live is = λ i q. at q i
  where
    one : (c : Bool) → IsTrue (is_some (if c then Some bitmap else None)) → c ≡ true
    one true h = refl
    one false h = h

    both : (c : Bool) → (if c then Some after else None) ≡
        (if c then option_map (changed new area) (if c then Some bitmap else None) else (if c then Some bitmap else None))
    both true = ap Some is
    both false = refl

    at : (q : Target) → shown_with screen after q ≡ drawn_on (Bitmap m) new area (shown_with screen bitmap) q
    at Screen = refl
    at (Bitmap n) = rw (eqb-true m 1 (one (nat_eq m 1) live)) (both (nat_eq n 1))

-- what never changes: a port that hooks nothing and declines nothing, which writes a rectangle in so many parts at most
abbrev pub rest_of : ℕ → Rest
rest_of cuts = record {
  kind = Linear;
  enabled = true;
  hooks = λ h. false;
  declines = λ c. false;
  mode_limit = λ m. None;
  offered = 0;
  offered_bitmaps = 0;
  declined = 0;
  asked = 0;
  made = 0;
  cuts = cuts;
  extra = [];
}

abbrev pub state_with : MemSurf → MemSurf → ℕ → ℕ → ℕ → PortState
state_with screen bitmap faults written cuts = record {
  shown = shown_with (surface_in screen) (surface_in bitmap);
  faults = faults;
  written = written;
  rest = rest_of cuts;
  sound = shown_sound (surface_in screen) (surface_in bitmap) (surface_in-sound screen) (surface_in-sound bitmap);
}

abbrev pub state_of : MemPort → PortState
state_of p = state_with p.screen p.bitmap p.faults p.written p.cuts
