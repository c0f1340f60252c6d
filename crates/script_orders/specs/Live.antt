-- What is there while a script's commands are carried out, and which commands can be.
use Rattle.std.specs.Prelude.{◌≡◌, ◌<◌, ◌≤◌, ◌+◌, ◌^◌, ℕ, List, [], ◌∷◌, ◌++◌, All, length, slice_index_or, slice_set}
use Rattle.std.specs.Prelude.{Option, Some, None, MatchOption}
use Rattle.geom_base.specs.declared.size.Size.{Size}
use Rattle.pix_format.specs.declared.format.Format.{Format}
use Rattle.pix_format.specs.Value.{bits_of}
use Rattle.brush_obj.specs.Image.{most_pattern_side}
use Rattle.script_orders.specs.declared.desk_command.BrushUse.{BrushUse}
use Rattle.script_orders.specs.declared.desk_command.BrushUse.TheVariants as uses
use Rattle.script_orders.specs.declared.desk_command.DeskCommand.{DeskCommand}
use Rattle.script_orders.specs.declared.desk_command.Feed.{Feed}
use Rattle.script_orders.specs.declared.desk_command.Feed.TheVariants as feeds
use Rattle.script_orders.specs.declared.desk_command.Spot.{Spot}
use Rattle.script_orders.specs.declared.desk_command.Spot.TheVariants as spots
use Rattle.script_orders.specs.declared.named.Named.{Named}
use Rattle.script_orders.specs.declared.named.Named.TheVariants as named
use Rattle.script_orders.specs.declared.orders.FaceOrder.{FaceOrder}
use Rattle.script_orders.specs.declared.orders.FaceOrder.TheVariants.{Solid, Hatch, Pattern}
use Rattle.script_orders.specs.declared.script_command.ScriptCommand.{ScriptCommand}
use Rattle.script_orders.specs.declared.script_command.ScriptCommand.TheVariants.{Create, Delete, Brush, Draw, Dump, Sum, Nothing}
use Rattle.script_orders.specs.Asked.{CanCreate, HasNeeded, MaskIsOther, RowIsCopied}
use Rattle.script_orders.specs.Places.{HasPlaces}

-- a bitmap's size, and how its pixels are kept
pub record Look : Type 0 where
  pub size : Size
  pub format : Format

-- the bitmaps by their numbers, none where one is gone; and how many brushes were made
pub record Live : Type 0 where
  pub bitmaps : List (Option Look)
  pub brushes : ℕ

-- before the first command
abbrev pub first_live : Live
first_live = record { bitmaps = []; brushes = 0 }

-- the bitmap of a number, where it is there
abbrev pub look_at : Live → ℕ → Option Look
look_at l n = slice_index_or l.bitmaps n None

-- a bitmap is there, and is so
abbrev pub IsThere : Live → ℕ → (Look → Type 0) → Type 0
IsThere l n P = MatchOption (look_at l n) ⊥ P

abbrev pub Any : Look → Type 0
Any look = Unit {0}

-- what is drawn on is there
abbrev pub SpotIsThere : Live → Spot → Type 0
SpotIsThere l spots.Desk = Unit {0}
SpotIsThere l (spots.Bitmap n) = IsThere l n Any

-- a source is there; a row of values is for a bitmap, whose format each value fits
abbrev pub FeedIsThere : Live → Spot → Feed → Type 0
FeedIsThere l target feeds.Nothing = Unit {0}
FeedIsThere l target feeds.Desk = Unit {0}
FeedIsThere l target (feeds.Bitmap n) = IsThere l n Any
FeedIsThere l spots.Desk (feeds.Row values) = ⊥
FeedIsThere l (spots.Bitmap n) (feeds.Row values) = IsThere l n (λ look. All (λ v. v < 2 ^ bits_of look.format) values)

-- a mask is there, with one bit for each pixel
abbrev pub MaskIsThere : Live → Option ℕ → Type 0
MaskIsThere l None = Unit {0}
MaskIsThere l (Some n) = IsThere l n (λ look. bits_of look.format ≡ 1)

-- a brush was made
abbrev pub BrushIsThere : Live → BrushUse → Type 0
BrushIsThere l uses.Nothing = Unit {0}
BrushIsThere l (uses.Colour colour) = Unit {0}
BrushIsThere l (uses.Made n) = n < l.brushes

-- a drawing names all that its call needs, and only what is there; no bitmap is its own mask, a row of values is copied, and all coordinates are a script's
pub record CanDraw (l : Live) (c : DeskCommand) : Type 0 where
  pub target : SpotIsThere l c.target
  pub source : FeedIsThere l c.target c.source
  pub mask : MaskIsThere l c.mask
  pub other : MaskIsOther c.target c.mask
  pub brush : BrushIsThere l c.brush
  pub row : RowIsCopied c.source c.call
  pub places : HasPlaces c.source c.call
  pub needs : HasNeeded c.call c.source c.mask

-- a pattern's bitmap is there, and no side of it is too long
abbrev pub FaceIsThere : Live → FaceOrder → Type 0
FaceIsThere l (Solid colour) = Unit {0}
FaceIsThere l (Hatch kind fore back) = Unit {0}
FaceIsThere l (Pattern n) = IsThere l n (λ look. (look.size.w ≤ most_pattern_side) × (look.size.h ≤ most_pattern_side))

-- what is dumped is there: the one screen, or a bitmap
abbrev pub NamedIsThere : Live → Named → Type 0
NamedIsThere l (named.Screen n) = n ≡ 0
NamedIsThere l (named.Bitmap n) = IsThere l n Any

-- a command names only what is there, and what it makes has the next number
abbrev pub CanDo : Live → ScriptCommand → Type 0
CanDo l (Create o) = CanCreate o × (o.number ≡ length l.bitmaps)
CanDo l (Delete n) = IsThere l n Any
CanDo l (Brush o) = FaceIsThere l o.face × (o.number ≡ l.brushes)
CanDo l (Draw c) = CanDraw l c
CanDo l (Dump q) = NamedIsThere l q
CanDo l (Sum q) = NamedIsThere l q
CanDo l Nothing = Unit {0}

-- what is there after a command
abbrev pub after : ScriptCommand → Live → Live
after (Create o) l = record l { bitmaps = l.bitmaps ++ Some (record { size = o.size; format = o.format }) ∷ [] }
after (Delete n) l = record l { bitmaps = slice_set l.bitmaps n None }
after (Brush o) l = record l { brushes = l.brushes + 1 }
after (Draw c) l = l
after (Dump q) l = l
after (Sum q) l = l
after Nothing l = l

-- each command can be carried out when its turn comes
abbrev pub CanRun : Live → List ScriptCommand → Type 0
CanRun l [] = Unit {0}
CanRun l (c ∷ commands) = CanDo l c × CanRun (after c l) commands
