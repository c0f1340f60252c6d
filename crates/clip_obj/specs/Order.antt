-- The orders in which the rectangles of a clip are handed out.
use Rattle.std.specs.Prelude.{◌≡◌, ◌<ℤ◌, ◌≤ℤ◌, ◌⊎◌, List, [], ◌∷◌, if◌then◌else◌, reverse}
use Rattle.std.specs.Ordering.{int_eq}
use Rattle.geom_base.specs.declared.rect.Rect.{Rect}
use Rattle.clip_obj.specs.declared.direction.Direction.{Direction}
use Rattle.clip_obj.specs.declared.direction.Direction.TheVariants.{RightDown, LeftDown, RightUp, LeftUp, Any}

-- a rectangle, put behind those at the front that begin in its row
abbrev pub behind_band : Rect → List Rect → List Rect
behind_band r [] = r ∷ []
behind_band r (s ∷ rects) = if int_eq s.top r.top then s ∷ behind_band r rects else r ∷ s ∷ rects

-- each band from its last rectangle to its first
abbrev pub turned : List Rect → List Rect
turned [] = []
turned (r ∷ rects) = behind_band r (turned rects)

-- a region's rectangles, which lie from top to bottom and in a band from left to right, in the order of a direction
abbrev pub ordered : Direction → List Rect → List Rect
ordered RightDown rects = rects
ordered LeftDown rects = turned rects
ordered RightUp rects = reverse (turned rects)
ordered LeftUp rects = reverse rects
ordered Any rects = rects

-- two rectangles are in one band
abbrev pub ShareBand : Rect → Rect → Type 0
ShareBand a b = (a.top ≡ b.top) × (a.bottom ≡ b.bottom)

-- one is in the same band and further left, or in a higher band; and likewise for the other directions
abbrev pub ComesBefore : Direction → Rect → Rect → Type 0
ComesBefore RightDown a b = (ShareBand a b × (a.right <ℤ b.left)) ⊎ (a.bottom ≤ℤ b.top)
ComesBefore LeftDown a b = (ShareBand a b × (b.right <ℤ a.left)) ⊎ (a.bottom ≤ℤ b.top)
ComesBefore RightUp a b = (ShareBand a b × (a.right <ℤ b.left)) ⊎ (b.bottom ≤ℤ a.top)
ComesBefore LeftUp a b = (ShareBand a b × (b.right <ℤ a.left)) ⊎ (b.bottom ≤ℤ a.top)
ComesBefore Any a b = (ShareBand a b × (a.right <ℤ b.left)) ⊎ (a.bottom ≤ℤ b.top)
