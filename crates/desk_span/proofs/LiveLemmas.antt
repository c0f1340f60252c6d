-- What is there in a state.
use Rattle.std.proofs.Common.{◌≡◌, ◌∙◌, ℕ, ◌<◌, ◌≤◌, length, Option, Some, None, refl, sym, subst, inl, inr, ◌⊎◌}
use Rattle.std.specs.Prelude.{option_map, MatchOption}
use Rattle.std.proofs.Math.ListN.{get_or-map}
use Rattle.std.proofs.lemmas.Bool.{cases_lt}
use Rattle.std.proofs.lemmas.List.{get_or_past}
use Rattle.surf_obj.specs.Surface.{Surface}
use Rattle.script_orders.specs.Live.{BrushIsThere, CanDraw, FeedIsThere, IsThere, Live, Look}
use Rattle.script_orders.specs.declared.desk_command.BrushUse.{BrushUse}
use Rattle.script_orders.specs.declared.desk_command.BrushUse.TheVariants as uses
use Rattle.script_orders.specs.declared.desk_command.DeskCommand.{DeskCommand}
use Rattle.script_orders.specs.declared.desk_command.Feed.{Feed}
use Rattle.script_orders.specs.declared.desk_command.Feed.TheVariants as feeds
use Rattle.script_orders.specs.declared.desk_command.Spot.{Spot}
use Rattle.script_orders.specs.declared.desk_command.Spot.TheVariants as spots
use Rattle.desk_span.specs.Desk.{State, bitmap_at, live_of, look_of}
use Rattle.desk_span.specs.InnerBeside.{DrawsOn, IsAt, RowFits, WasMade}

-- a bitmap that is there
pub record Found (s : State) (n : ℕ) (P : Look → Type 0) : Type 0 where
  pub surface : Surface
  pub here : bitmap_at s n ≡ Some surface
  pub is : P (look_of surface)

pub there : (s : State) (n : ℕ) (P : Look → Type 0) → IsThere (live_of s) n P → Found s n P
there s n P h = found (bitmap_at s n) refl (subst (λ (o : Option Look). MatchOption o ⊥ P) (get_or-map (option_map look_of) s.bitmaps n None) h)
  where
    found : (o : Option Surface) → bitmap_at s n ≡ o → MatchOption (option_map look_of o) ⊥ P → Found s n P
    found None e k = absurd k
    found (Some t) e k = record { surface = t; here = e; is = k }

pub within : (s : State) (n : ℕ) (P : Look → Type 0) → IsThere (live_of s) n P → n < length s.bitmaps
within s n P h = place (cases_lt n (length s.bitmaps))
  where
    place : (n < length s.bitmaps) ⊎ (length s.bitmaps ≤ n) → n < length s.bitmaps
    place (inl lt) = lt
    place (inr past) = let f = there s n P h in let none : None ≡ Some f.surface = sym (get_or_past s.bitmaps n None past) ∙ f.here in absurd (cc)

-- a drawing that can be done, on the surface of its target
pub draws_on : (s : State) (c : DeskCommand) (t : Surface) → CanDraw (live_of s) c → IsAt s c.target t → DrawsOn t c
draws_on s c t can at = record { other = can.other; row = can.row; fits = fits c.target c.source can.source at }
  where
    fits : (spot : Spot) (feed : Feed) → FeedIsThere (live_of s) spot feed → IsAt s spot t → RowFits t.format feed
    fits spots.Desk (feeds.Row values) h at = absurd h
    fits (spots.Bitmap n) (feeds.Row values) h at =
        let f = there s n _ h in
        let same : f.surface ≡ t = let e : Some f.surface ≡ Some t = sym f.here ∙ at in cc in
        subst (λ (u : Surface). RowFits u.format (feeds.Row values)) same f.is
    fits spot feeds.Nothing h at = tt
    fits spot feeds.Desk h at = tt
    fits spot (feeds.Bitmap m) h at = tt

pub was_made : (l : Live) (n : ℕ) (with : BrushUse) → n ≡ l.brushes → BrushIsThere l with → WasMade n with
was_made l n (uses.Made number) e h = rw e h
was_made l n uses.Nothing e h = tt
was_made l n (uses.Colour colour) e h = tt
