-- What a driver of a linear frame buffer shows and counts.
use Rattle.std.proofs.Common.{◌≡◌, refl, ℕ, Bool, List, [], length, Option, Some, None, option_map, sym, true≢false}
use Rattle.std.specs.Option.{ForSome}
use Rattle.geom_base.specs.declared.target.Target.{Target}
use Rattle.geom_base.specs.declared.target.Target.TheVariants.{Screen as screen, Bitmap}
use Rattle.surf_obj.specs.Layout.{Holds, values_in}
use Rattle.surf_obj.specs.LayoutLaws.{length-values_in}
use Rattle.surf_obj.specs.Object.{padded}
use Rattle.surf_obj.specs.Surface.{Surface}
use Rattle.copy_port.specs.Classes.{has_hook}
use Rattle.copy_port.specs.State.{IsLive, IsSurface, PortState, Rest, Shown, next_count, surface_of}
use Rattle.copy_port.specs.declared.words.Kind.TheVariants.{Linear}
use Rattle.copy_port.specs.declared.words.Mode.{Mode}
use Rattle.drv_linear.specs.Policies.{declines}
use Rattle.drv_linear.specs.declared.policy.Policy.{Policy}
use Rattle.drv_linear.specs.declared.screen.Screen.{Screen}

-- the surface that bytes hold where a screen lies
abbrev pub surface_at : Screen → List ℕ → Surface
surface_at s bytes = record { size = s.layout.size; format = s.layout.format; table = s.table; values = values_in s.layout bytes }

-- the screen of a mode, at the first byte
pub record IsScreenOf (m : Mode) (s : Screen) : Type 0 where
  pub layout : s.layout ≡ padded m.size m.format
  pub table : s.table ≡ m.table

-- so many bytes hold a screen, where there is one
abbrev pub HoldsScreen : Option Screen → ℕ → Type 0
HoldsScreen o len = ForSome o (λ s. Holds s.layout len)

-- the screen, where there is one, and nothing else
abbrev pub shown_at : Option Screen → List ℕ → Shown
shown_at o bytes screen = option_map (λ s. surface_at s bytes) o
shown_at o bytes (Bitmap n) = None

pub shown_sound : (o : Option Screen) (bytes : List ℕ) → HoldsScreen o (length bytes) → (t : Target) → IsLive (shown_at o bytes) t →
    IsSurface (surface_of (shown_at o bytes) t)
shown_sound (Some s) bytes holds screen live = record { sides = (holds s refl).sides; colours = s.colours; count = length-values_in s.layout bytes }
shown_sound None bytes holds screen live = absurd (true≢false (sym live))
shown_sound o bytes holds (Bitmap n) live = absurd (true≢false (sym live))

-- It can do every mode, draws a rectangle in one part, and is asked for bitmaps that it doesn't make. Its next call is declined by the policy.
abbrev pub rest_with : Bool → Policy → ℕ → ℕ → ℕ → Rest
rest_with enabled policy offered declined asked = record {
  kind = Linear;
  enabled = enabled;
  hooks = λ h. has_hook policy.hooks h;
  declines = λ c. declines policy (next_count offered) c;
  mode_limit = λ m. None;
  offered = offered;
  offered_bitmaps = 0;
  declined = declined;
  asked = asked;
  made = 0;
  cuts = 1;
  extra = [];
}

abbrev pub state_with : (o : Option Screen) (bytes : List ℕ) → HoldsScreen o (length bytes) → ℕ → ℕ → Rest → PortState
state_with o bytes holds faults written rest = record {
  shown = shown_at o bytes;
  faults = faults;
  written = written;
  rest = rest;
  sound = shown_sound o bytes holds;
}
