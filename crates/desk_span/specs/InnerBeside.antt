-- Of private calls: a desk as it is seen beside a bitmap that is drawn on.
use Rattle.std.specs.Prelude.{◌≡◌, ◌≢◌, ◌<◌, ◌^◌, ℕ, All, nat_eq, Bool, true, false, List, [], ◌∷◌, Option, Some, None, map, slice_get, slice_index_or}
use Rattle.geom_base.specs.declared.point.Point.{Point}
use Rattle.pix_format.specs.declared.format.Format.{Format}
use Rattle.pix_format.specs.declared.rgb.Rgb.{Rgb}
use Rattle.pix_format.specs.Value.{bits_of, black}
use Rattle.surf_obj.specs.Surface.{Surface}
use Rattle.brush_obj.specs.Calls.{CallMoves, PointMovesBack, src_of}
use Rattle.brush_obj.specs.Slots.{Brush}
use Rattle.brush_obj.specs.declared.draw_call.DrawCall.{DrawCall}
use Rattle.brush_obj.specs.declared.face.BrushFace.{BrushFace}
use Rattle.clip_obj.specs.Clip.{to_origin}
use Rattle.script_orders.specs.Asked.{MaskIsOther, RowIsCopied}
use Rattle.script_orders.specs.Rows.{zero_point}
use Rattle.script_orders.specs.declared.desk_command.BrushUse.{BrushUse}
use Rattle.script_orders.specs.declared.desk_command.BrushUse.TheVariants as uses
use Rattle.script_orders.specs.declared.desk_command.DeskCommand.{DeskCommand}
use Rattle.script_orders.specs.declared.desk_command.Feed.{Feed}
use Rattle.script_orders.specs.declared.desk_command.Feed.TheVariants as feeds
use Rattle.script_orders.specs.declared.desk_command.Spot.{Spot}
use Rattle.script_orders.specs.declared.desk_command.Spot.TheVariants as spots
use Rattle.script_orders.specs.declared.named.Named.TheVariants.{Bitmap}
use Rattle.desk_span.specs.declared.sight.Sight.{Sight}
use Rattle.hook_route.specs.declared.outcome.Cause.{Cause}
use Rattle.desk_span.specs.Reports.{Told}
use Rattle.desk_span.specs.Desk.{State, bitmap_at, row_like, standing_at}

-- a state has one screen, which stands at a point
pub record IsAlone (s : State) (at : Point) (screen : Surface) : Type 0 where
  pub places : s.places ≡ standing_at at screen ∷ []
  pub screens : s.screens ≡ screen ∷ []

-- what is seen of the screens of a state: one that stands at a point, or none
abbrev pub IsSeenAs : State → Point → Option Surface → Type 0
IsSeenAs s at None = (s.places ≡ []) × (s.screens ≡ [])
IsSeenAs s at (Some screen) = IsAlone s at screen

-- the report that nothing was drawn on a bitmap, and why
abbrev pub undrawn : ℕ → Cause → Told
undrawn n cause = record { target = Bitmap n; cause = cause; rects = [] }

-- the surface that is the source of a drawing on another one, as that is seen
abbrev pub source_surface : State → Surface → Feed → Option Surface
source_surface s t feeds.Nothing = None
source_surface s t feeds.Desk = slice_get s.screens 0
source_surface s t (feeds.Bitmap n) = bitmap_at s n
source_surface s t (feeds.Row values) = Some (row_like t values)

-- the point at which a source stands: that of the screen where it is the desk, else 0 0
abbrev pub stand_of : Point → Feed → Point
stand_of at feeds.Desk = at
stand_of at feed = zero_point

-- what is drawn on is a bitmap, which is this surface
abbrev pub IsAt : State → Spot → Surface → Type 0
IsAt s spots.Desk t = ⊥
IsAt s (spots.Bitmap n) t = bitmap_at s n ≡ Some t

-- what is drawn on isn't this bitmap
abbrev pub IsOther : Spot → ℕ → Type 0
IsOther spots.Desk m = Unit {0}
IsOther (spots.Bitmap n) m = m ≢ n

abbrev pub faces_of : List Brush → List BrushFace
faces_of brushes = map (λ (b : Brush). b.face) brushes

-- a bitmap among those that were made, where it is there
abbrev pub bitmap_among : List (Option Surface) → ℕ → Option Surface
bitmap_among bitmaps n = slice_index_or bitmaps n None

-- a bitmap that is drawn on is this surface, and beside it stand the other bitmaps and the brushes of a state
pub record IsAmong (s : State) (spot : Spot) (t : Surface) (items : List (Option Surface)) (made : List Brush) : Type 0 where
  pub bitmaps : (m : ℕ) → IsOther spot m → slice_index_or items m None ≡ bitmap_at s m
  pub own : IsAt s spot t
  pub brushes : faces_of made ≡ s.brushes

-- and what is seen of the screens
pub record IsBeside (s : State) (spot : Spot) (t : Surface) (sight : Sight) (items : List (Option Surface)) (made : List Brush) : Type 0 where
  pub screen : IsSeenAs s sight.at sight.part
  pub among : IsAmong s spot t items made

-- each value of a row fits a format
abbrev pub RowFits : Format → Feed → Type 0
RowFits format (feeds.Row values) = All (λ v. v < 2 ^ bits_of format) values
RowFits format feed = Unit {0}

-- a brush is one of so many that were made, or none of them
abbrev pub WasMade : ℕ → BrushUse → Type 0
WasMade n (uses.Made number) = number < n
WasMade n with = Unit {0}

-- a drawing can be done on a surface: no bitmap is its own mask, and a row of values that fit the surface's format is copied
pub record DrawsOn (t : Surface) (c : DeskCommand) : Type 0 where
  pub other : MaskIsOther c.target c.mask
  pub row : RowIsCopied c.source c.call
  pub fits : RowFits t.format c.source

-- a call's coordinates stay in range when it is seen from one point, and its source from another
pub record CanBeSeen (c : DrawCall) (at from : Point) : Type 0 where
  pub call : CallMoves c (to_origin at)
  pub source : PointMovesBack (src_of c) from

abbrev pub IsNoRow : Feed → Type 0
IsNoRow (feeds.Row values) = ⊥
IsNoRow feed = Unit {0}

-- the colour of a brush that isn't one that was made
abbrev pub plain_colour : BrushUse → Rgb
plain_colour (uses.Colour colour) = colour
plain_colour with = black

-- what is drawn on is the drawing's source
abbrev pub is_own : Spot → Feed → Bool
is_own spots.Desk feeds.Desk = true
is_own (spots.Bitmap m) (feeds.Bitmap n) = nat_eq m n
is_own spot feed = false
