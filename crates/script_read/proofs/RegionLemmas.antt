use Rattle.std.proofs.Common.{◌≡◌, ◌∙◌, ap, sym, subst, refl, arith, map, length, List, [], ◌∷◌, Bool, true, false, ℕ, drop}
use Rattle.std.proofs.Common.{nat_le, Some, if◌then◌else◌, Result, Ok, Err, ◌≤◌, ℤ, ◌↔◌, IsTrue}
use Rattle.std.specs.List.{All, list_all}
use Rattle.std.proofs.lemmas.Bool.{and_parts}
use Rattle.std.specs.Cmp.Derive.{both_true}
use Rattle.std.proofs.lemmas.Bool.Decides.{nat_tests}
use Rattle.std.proofs.lemmas.Int.{ints}
use Rattle.std.proofs.lemmas.List.Elements.{All-nil, All-cons, All-head, All-tail}
use Rattle.geom_base.specs.declared.point.Point.{Point}
use Rattle.geom_base.specs.declared.rect.Rect.{Rect}
use Rattle.geom_base.specs.Points.{is_in_some, moved_rect, moved_back}
use Rattle.geom_base.specs.Tests.{same_tests}
use Rattle.region.specs.Limits.{most_rects}
use Rattle.region.specs.declared.refusal.RegionRefusal.{RegionRefusal}
use Rattle.region.specs.declared.refusal.RegionRefusal.TheVariants.{TooMany, NoMemory}
use Rattle.region.specs.Canonical.{canonical_rects, Gives}
use Rattle.region.specs.Operation.{holds_after}
use Rattle.region.specs.Window.{IsEdge, HasEdges, Within}
use Rattle.script_words.specs.declared.refusal.Refusal.{Refusal}
use Rattle.script_words.specs.declared.refusal.Refusal.TheVariants.{Range, PastLimit, RegionTooLarge}
use Rattle.script_words.specs.Lines.{word_at}
use Rattle.script_words.specs.Places.{IsCoordinate, AreCoordinates, is_well_ordered}
use Rattle.region.specs.declared.operation.Operation.{Operation}
use Rattle.script_read.specs.Commands.{has_room_for_rects, keep_region, read_region}
use Rattle.script_names.specs.Names.{NameMap}
use Rattle.script_names.specs.Fields.{region_in}
use Rattle.script_names.specs.Tails.{rects_from}
use Rattle.script_read.specs.Regions.{combined_in, is_edge, has_edges, listed_in, shift_in, shifted_in, named_region_in}
use Rattle.script_read.specs.InnerReading.{FindsRegion}
use Rattle.script_read.specs.State.{ReaderState}

-- coordinates of rectangles are coordinates of edges
pub edge : (z : ℤ) → IsCoordinate z → IsEdge z
edge z h = record { least = h.0; greatest = h.1 }

pub has_all : (r : Rect) → AreCoordinates r → HasEdges r
has_all r h = record { left = edge r.left h.left; top = edge r.top h.top; right = edge r.right h.right; bottom = edge r.bottom h.bottom }

pub within_coordinates : (rects : List Rect) → All AreCoordinates rects → Within rects
within_coordinates [] h = All-nil HasEdges
within_coordinates (r ∷ rects) h = All-cons HasEdges r rects (has_all r (All-head AreCoordinates r rects h))
    (within_coordinates rects (All-tail AreCoordinates r rects h))

-- the test of an edge, and of all edges
edge_from : (z : ℤ) → is_edge z ≡ true → IsEdge z
edge_from z e = record { least = grind (arith, ints); greatest = grind (arith, ints) }

edge_test : (z : ℤ) → IsEdge z → is_edge z ≡ true
edge_test z h = let a = h.least in let b = h.greatest in grind (arith, ints)

edges_from : (r : Rect) → has_edges r ≡ true → HasEdges r
edges_from r e =
    let p = and_parts _ (is_edge r.bottom) e in
    let q = and_parts _ (is_edge r.right) p.0 in
    let s = and_parts (is_edge r.left) (is_edge r.top) q.0 in
    record { left = edge_from _ s.0; top = edge_from _ s.1; right = edge_from _ q.1; bottom = edge_from _ p.1 }

edges_test : (r : Rect) → HasEdges r → has_edges r ≡ true
edges_test r h = both_true (both_true (both_true (edge_test _ h.left) (edge_test _ h.top)) (edge_test _ h.right)) (edge_test _ h.bottom)

within_from : (rects : List Rect) → list_all has_edges rects ≡ true → Within rects
within_from [] e = All-nil HasEdges
within_from (r ∷ rects) e = let p = and_parts (has_edges r) _ e in All-cons HasEdges r rects (edges_from r p.0) (within_from rects p.1)

within_test : (rects : List Rect) → Within rects → list_all has_edges rects ≡ true
within_test [] h = refl
within_test (r ∷ rects) h = both_true (edges_test r (All-head HasEdges r rects h)) (within_test rects (All-tail HasEdges r rects h))

-- a test that tells whether rectangles lie within is the definition's
pub tests_within : (told : Bool) (rects : List Rect) → (IsTrue told ↔ Within rects) → told ≡ list_all has_edges rects
tests_within told rects h = same_tests told (list_all has_edges rects) (λ e. within_test rects (h.0 e)) (λ e. h.1 (within_from rects e))

-- the lines of the definition, one after the other
pub listed_found : (words : List (List ℕ)) (rects : List Rect) → rects_from (drop 3 words) ≡ Ok rects → list_all is_well_ordered rects ≡ true →
    listed_in words ≡ Ok (canonical_rects (λ p. is_in_some p rects))
listed_found words rects e ordered = rw (e, ordered) refl

pub combined_found : (operation : Operation) (names : NameMap) (words : List (List ℕ)) (a b : List Rect) → region_in names (word_at words 3) ≡ Ok a →
    region_in names (word_at words 4) ≡ Ok b →
    combined_in (Some operation) names words ≡ Ok (canonical_rects (λ p. holds_after operation (is_in_some p a) (is_in_some p b)))
combined_found operation names words a b known other = rw (known, other) refl

pub shift_found : (names : NameMap) (words : List (List ℕ)) (rects : List Rect) (by : Point) → region_in names (word_at words 3) ≡ Ok rects →
    shift_in words ≡ Ok by → list_all has_edges (map (λ r. moved_rect r by) rects) ≡ true →
    shifted_in names words ≡ Ok (canonical_rects (λ p. is_in_some (moved_back by p) rects))
shift_found names words rects by known shift within = rw (known, shift, within) refl

pub shift_out : (names : NameMap) (words : List (List ℕ)) (rects : List Rect) (by : Point) → region_in names (word_at words 3) ≡ Ok rects →
    shift_in words ≡ Ok by → list_all has_edges (map (λ r. moved_rect r by) rects) ≡ false →
    shifted_in names words ≡ Err Range
shift_out names words rects by known shift out = rw (known, shift, out) refl

-- a region of too many rectangles is refused, by the total first
too_many : (s : ReaderState) (name : List ℕ) (rects : List Rect) (room : Bool) → has_room_for_rects s (length rects) ≡ room →
    nat_le (length rects) most_rects ≡ false → keep_region s name rects ≡ Err (if room then RegionTooLarge else PastLimit)
unfolding keep_region
too_many s name rects true room more = rw (room, more) refl
too_many s name rects false room more = rw room refl

pub too_large : (s : ReaderState) (words : List (List ℕ)) (n : ℕ) (refusal : Refusal) → FindsRegion (Ok (Err (TooMany n))) (named_region_in s.names words) →
    refusal ≡ (if has_room_for_rects s n then RegionTooLarge else PastLimit) → read_region s words ≡ Err refusal
unfolding read_region
too_large s words n refusal (rects, e, same, many) is =
    let more : nat_le (length rects) most_rects ≡ false = grind (arith, nat_tests) in
    rw (e, is, same) (too_many s (word_at words 1) rects _ refl more)

-- an answer that gives the definition's list is what the line asks
pub finds : {read : Result (List Rect) Refusal} (list : List Rect) (answer : Result (List Rect) RegionRefusal) → read ≡ Ok list → Gives list answer →
    FindsRegion (Ok answer) read
finds list (Ok rects) e g = (e ∙ ap Ok (sym g.0), g.2, subst (λ xs. length xs ≤ most_rects) (sym g.0) g.1)
finds list (Err (TooMany n)) e g = (list, e, g.0, g.1)
finds list (Err NoMemory) e g = tt
