use Rattle.std.proofs.Common.{◌≡◌, ◌∙◌, inl, inr, ap, sym, map, List, [], ◌∷◌, Bool, ◌&&◌, ◌||◌, Result, Ok}
use Rattle.std.proofs.Common.{Err, length, ◌<◌, subst, ◌≤◌, ℤ, arith, FitsSigned, w32}
use Rattle.std.specs.List.{All}
use Rattle.std.proofs.lemmas.Int.{ints}
use Rattle.std.proofs.lemmas.List.Elements.{All-nil, All-cons, All-head, All-tail}
use Rattle.std.proofs.lemmas.Bool.{or_cases, and_parts}
use Rattle.geom_base.specs.declared.point.Point.{Point}
use Rattle.geom_base.specs.declared.rect.Rect.{Rect}
use Rattle.geom_base.specs.Points.{is_in_some, moved_rect, RectMoves, moved_back}
use Rattle.region.specs.declared.operation.Operation.{Operation}
use Rattle.region.specs.declared.operation.Operation.TheVariants.{Union, Intersect, Subtract, Xor}
use Rattle.region.specs.declared.refusal.RegionRefusal.{RegionRefusal}
use Rattle.region.specs.declared.refusal.RegionRefusal.TheVariants.{TooMany, NoMemory}
use Rattle.region.specs.Operation.{holds_after}
use Rattle.region.specs.Region.{IsRegionOf}
use Rattle.region.specs.Refusal.{IsAnswer}
use Rattle.region.specs.Window.{IsWithinWindow, IsEdge, HasEdges, Within}
use Rattle.region.specs.Canonical.{differ, bands_of_set, canonical_rects, CanonicalIsOfSet, Gives, AnswersAreCanonical}
use Rattle.region.proofs.RegionLemmas.{region_of_canonical, region_same}
use Rattle.region.proofs.RegionLemmas.{region_is_unique}
use Rattle.region.proofs.MoveLemmas.{moved_is_in_some}
use Rattle.region.proofs.CanonicalLemmas.{bands_are_canonical, bands_have_points, bands_lie_within, one_of_two, some_within}

-- the list is the one of the set
pub canonical_is_region : CanonicalIsOfSet
unfolding canonical_rects
canonical_is_region set h = region_same _ set (bands_have_points set h) (canonical_rects set)
    (region_of_canonical (bands_of_set set) (bands_are_canonical set h))

-- and there is no other
pub region_is_canonical : (set : Point → Bool) (rects : List Rect) → IsWithinWindow set → IsRegionOf set rects → rects ≡ canonical_rects set
region_is_canonical set rects h r =
    let own = canonical_is_region set h in
    region_is_unique rects (canonical_rects set) r.canonical own.canonical (λ p. r.points p ∙ sym (own.points p))

-- its rectangles have the points of the set
pub canonical_points : (set : Point → Bool) → IsWithinWindow set → (p : Point) → is_in_some p (canonical_rects set) ≡ set p
canonical_points set h = (canonical_is_region set h).points

-- their edges are coordinates of edges
pub canonical_is_within : (set : Point → Bool) → Within (canonical_rects set)
unfolding canonical_rects
canonical_is_within set = bands_lie_within set

-- each answer of an operation gives this list
pub answer_is_canonical : AnswersAreCanonical
answer_is_canonical set (Ok rects) h (r, few) =
    let e : rects ≡ canonical_rects set = region_is_canonical set rects h r in
    (e, subst (λ list. length list ≤ 4096) e few, subst Within (sym e) (canonical_is_within set))
answer_is_canonical set (Err (TooMany n)) h (rects, r, number, many) =
    let e : n ≡ length (canonical_rects set) = number ∙ ap length (region_is_canonical set rects h r) in
    (e, subst (λ count. 4096 < count) e many)
answer_is_canonical set (Err NoMemory) h a = tt

-- the points of rectangles lie within where their edges do
pub rects_lie_within : (rects : List Rect) → Within rects → IsWithinWindow (λ p. is_in_some p rects)
rects_lie_within = some_within

-- the points of either set
pub either_lies_within : (f g : Point → Bool) → IsWithinWindow f → IsWithinWindow g → IsWithinWindow (λ p. f p || g p)
either_lies_within f g h k p e = elim (or_cases (f p) (g p) e) [ inl first ↦ h p first | inr second ↦ k p second ]

-- some points of a set
pub part_lies_within : (f g : Point → Bool) → IsWithinWindow f → IsWithinWindow (λ p. f p && g p)
part_lies_within f g h p e = h p (and_parts (f p) (g p) e).0

-- the points of exactly one
pub one_lies_within : (f g : Point → Bool) → IsWithinWindow f → IsWithinWindow g → IsWithinWindow (λ p. differ (f p) (g p))
one_lies_within f g h k p e = one_of_two (f p) (g p) e (h p) (k p)

-- the points after an operation
pub after_lies_within : (o : Operation) (f g : Point → Bool) → IsWithinWindow f → IsWithinWindow g → IsWithinWindow (λ p. holds_after o (f p) (g p))
after_lies_within Union f g h k = either_lies_within f g h k
after_lies_within Intersect f g h k = part_lies_within f g h
after_lies_within Subtract f g h k = part_lies_within f _ h
after_lies_within Xor f g h k = one_lies_within f g h k

-- the points moved, where the moved edges are coordinates of edges
pub moved_lies_within : (by : Point) (rects : List Rect) → Within (map (λ r. moved_rect r by) rects) → IsWithinWindow (λ p. is_in_some (moved_back by p) rects)
moved_lies_within by rects h p e = some_within (map (λ r. moved_rect r by) rects) h p (moved_is_in_some p by rects ∙ e)

-- what a region of rectangles gives
pub listed_is_canonical : (rects : List Rect) (result : Result (List Rect) RegionRefusal) → Within rects → IsAnswer (λ p. is_in_some p rects) result →
    Gives (canonical_rects (λ p. is_in_some p rects)) result
listed_is_canonical rects result h a = answer_is_canonical _ result (rects_lie_within rects h) a

-- what an operation on two regions gives
pub operation_is_canonical : (o : Operation) (a b : List Rect) (result : Result (List Rect) RegionRefusal) → Within a → Within b →
    IsAnswer (λ p. holds_after o (is_in_some p a) (is_in_some p b)) result →
    Gives (canonical_rects (λ p. holds_after o (is_in_some p a) (is_in_some p b))) result
operation_is_canonical o a b result h k answer =
    answer_is_canonical (λ p. holds_after o (is_in_some p a) (is_in_some p b)) result
    (after_lies_within o (λ p. is_in_some p a) (λ p. is_in_some p b) (rects_lie_within a h) (rects_lie_within b k)) answer

-- what a region moved gives
pub moved_is_canonical : (by : Point) (rects : List Rect) (result : Result (List Rect) RegionRefusal) → Within (map (λ r. moved_rect r by) rects) →
    IsAnswer (λ p. is_in_some (moved_back by p) rects) result →
    Gives (canonical_rects (λ p. is_in_some (moved_back by p) rects)) result
moved_is_canonical by rects result h a = answer_is_canonical (λ p. is_in_some (moved_back by p) rects) result (moved_lies_within by rects h) a

-- rectangles that stay within can be moved
edge_fits : (z : ℤ) → IsEdge z → FitsSigned w32 z
edge_fits z h = grind (arith, ints, h.least, h.greatest)

can_move : (by : Point) (r : Rect) → HasEdges (moved_rect r by) → RectMoves by r
can_move by r h = record { left = edge_fits _ h.left; top = edge_fits _ h.top; right = edge_fits _ h.right; bottom = edge_fits _ h.bottom }

pub can_all_move : (by : Point) (rects : List Rect) → Within (map (λ r. moved_rect r by) rects) → All (RectMoves by) rects
can_all_move by [] h = All-nil (RectMoves by)
can_all_move by (r ∷ rects) h = All-cons (RectMoves by) r rects (can_move by r (All-head HasEdges _ _ h)) (can_all_move by rects (All-tail HasEdges _ _ h))

-- the rectangle at a place stays within
pub moved_at : (by : Point) (rects : List Rect) → Within (map (λ r. moved_rect r by) rects) → All (λ r. HasEdges (moved_rect r by)) rects
moved_at by [] h = All-nil (λ r. HasEdges (moved_rect r by))
moved_at by (r ∷ rects) h = All-cons (λ r. HasEdges (moved_rect r by)) r rects (All-head HasEdges _ _ h) (moved_at by rects (All-tail HasEdges _ _ h))
