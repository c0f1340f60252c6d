-- The union of two regions, rows after rows.
use Rattle.std.proofs.Common.{◌≡◌, ◌∙◌, ◌⊎◌, inl, inr, ℕ, ◌<◌, ◌≤◌, ◌*◌, zero, suc, ℤ, ◌<ℤ◌, ◌≤ℤ◌, pos, List, [], ◌∷◌, ◌++◌, take, drop, length, map, get_or, ◌+◌}
use Rattle.std.proofs.Common.{Bool, true, false, ◌&&◌, ◌||◌, if◌then◌else◌, refl, ap, sym, subst, arith, int_lt, int_le, length-drop, SFits, w32, to_z, of_z, Result}
use Rattle.std.specs.Int.{int_min, int_max}
use Rattle.std.specs.List.{All}
use Rattle.std.proofs.lemmas.Int.{ints, clamps, to_z-of_z}
use Rattle.std.proofs.Math.Path.{fun_ext}
use Rattle.std.proofs.lemmas.Bool.{false≢true}
use Rattle.std.proofs.lemmas.List.Folds.{list_any-append}
use Rattle.std.proofs.lemmas.List.Elements.{All-nil, All-cons, All-head, All-tail, All-take, All-drop}
use Rattle.geom_base.specs.declared.point.Point.{Point}
use Rattle.geom_base.specs.declared.rect.Rect.{Rect}
use Rattle.geom_base.specs.Points.{is_in, is_in_some, HasPoints, no_rect}
use Rattle.region.specs.declared.search.Edge.TheVariants.{Top, Bottom}
use Rattle.region.specs.declared.builder.RegionBuilder.{RegionBuilder}
use Rattle.region.specs.Order.{ComesFirst, IsInOrder}
use Rattle.region.specs.Spans.{in_spans, rects_of_spans}
use Rattle.region.specs.Builder.{HasRows}
use Rattle.region.specs.Refusal.{IsAnswer}
use Rattle.region.specs.declared.refusal.RegionRefusal.{RegionRefusal}
use Rattle.region.specs.InnerCursor.{in_columns, IsAtRow}
use Rattle.region.specs.InnerSpanList.{span_of}
use Rattle.region.specs.InnerUnion.{first_top, next_edge, edges_left, IsBelow, IsSteady, AreNextRows, IsTurn, HasPointsOf, IsJoining}
use Rattle.region.proofs.SearchLemmas.{pairs_head, later_from}
use Rattle.region.proofs.StepLemmas.{order, at_or_before, lt_is, ge_is}
use Rattle.region.proofs.SpanLemmas.{span_rects_points}
use Rattle.region.proofs.CursorLemmas.{in_order_drop, in_order_take, sorted_by_top, sorted_by_bottom, none_above, rows_rest, row_is, one_row_is_band}
use Rattle.region.proofs.CursorLemmas.{between_bands, in_band}

-- the columns of both bands
pub either_spans : (x : ℤ) (a b : List Rect) → in_spans x (map span_of (a ++ b)) ≡ (in_columns x a || in_columns x b)
either_spans x a b = spans_columns (a ++ b) ∙ list_any-append (λ r. int_le r.left x && int_lt x r.right) a b
  where
    spans_columns : (rects : List Rect) → in_spans x (map span_of rects) ≡ in_columns x rects
    spans_columns [] = refl
    spans_columns (r ∷ rects) = ap (λ u. (int_le r.left x && int_lt x r.right) || u) (spans_columns rects)

-- all reach below the first of the rows
begun_above : (row top bottom : ℤ) (r : Rect) (rects : List Rect) → IsSteady row top bottom (r ∷ rects) → top <ℤ r.bottom
begun_above row top bottom r rects h =
    let down : r.top <ℤ r.bottom = (All-head HasPoints r rects h.left.order.points).down in
    omega (arith, ints, clamps, h.begins, down, All-head (λ q. row <ℤ q.bottom) r rects h.left.ahead)

at_top : (row top bottom : ℤ) (rects : List Rect) (here : ℕ) → IsSteady row top bottom rects → here ≤ length rects →
    All (λ r. r.top ≤ℤ top) (take here rects) → All (λ r. top <ℤ r.top) (drop here rects) → IsAtRow top rects here
at_top row top bottom [] here h within begun later =
    record { order = h.left.order; within = within; ahead = All-nil (λ r. top <ℤ r.bottom); begun = begun; later = later }
at_top row top bottom (r ∷ rects) here h within begun later = record {
  order = h.left.order;
  within = within;
  ahead = later_from Bottom (r ∷ rects) top 0 no_rect (sorted_by_bottom (r ∷ rects) h.left.order) (omega arith) (begun_above row top bottom r rects h);
  begun = begun;
  later = later;
}

is_le : (a b : ℤ) → a ≤ℤ b → int_le a b ≡ true
is_le a b h = grind (arith, ints)

is_gt : (a b : ℤ) → b <ℤ a → int_le a b ≡ false
is_gt a b h = grind (arith, ints)

-- and so it stays until an edge
at_row : (row top bottom y : ℤ) (rects : List Rect) (here : ℕ) → IsSteady row top bottom rects → IsAtRow top rects here → top ≤ℤ y → y <ℤ bottom →
    IsAtRow y rects here
at_row row top bottom y [] zero h at from before =
    record { order = at.order; within = at.within; ahead = All-nil (λ r. y <ℤ r.bottom); begun = All-nil (λ r. r.top ≤ℤ y); later = All-nil (λ r. y <ℤ r.top) }
at_row row top bottom y [] (suc here) h at from before = absurd (omega (arith, at.within))
at_row row top bottom y (r ∷ rects) zero h at from before =
    let later : top <ℤ r.top = All-head (λ q. top <ℤ q.top) r rects at.later in
    let ends : bottom ≤ℤ r.top = subst (λ b. bottom ≤ℤ (if b then r.bottom else r.top)) (is_gt r.top top later) h.ends in
    between_bands top y r rects at (omega (arith, ints, ends, before))
at_row row top bottom y (r ∷ rects) (suc here) h at from before =
    let begun : r.top ≤ℤ top = All-head (λ q. q.top ≤ℤ top) r (take here rects) at.begun in
    let ends : bottom ≤ℤ r.bottom = subst (λ b. bottom ≤ℤ (if b then r.bottom else r.top)) (is_le r.top top begun) h.ends in
    in_band top y r rects here at from (omega (arith, ints, ends, before))

-- no rows before the first one
none_before : (row top bottom : ℤ) (p : Point) (rects : List Rect) → IsSteady row top bottom rects → row ≤ℤ p.y → p.y <ℤ top → is_in_some p rects ≡ false
none_before row top bottom p [] h from before = refl
none_before row top bottom p (r ∷ rects) h from before = none_above p (r ∷ rects)
    (later_from Top (r ∷ rects) p.y 0 no_rect (sorted_by_top (r ∷ rects) h.left.order) (omega arith) (omega (arith, ints, clamps, h.begins, from, before)))

-- edges that are left

no_more : (row bottom : ℤ) (r : Rect) → row ≤ℤ bottom → (if int_le r.top row then 1 else 0) ≤ (if int_le r.top bottom then 1 else 0)
no_more row bottom r le = grind (arith, ints)

one_at_most : (row : ℤ) (r : Rect) → (if int_le r.top row then 1 else 0) ≤ 1
one_at_most row r = grind (arith, ints)

left_at_most : (row : ℤ) (rects : List Rect) → edges_left row rects ≤ 2 * length rects
left_at_most row [] = omega arith
left_at_most row (r ∷ rects) = omega arith

fewer_edges : (row bottom : ℤ) (rects : List Rect) (n : ℕ) → row ≤ℤ bottom → edges_left bottom (drop n rects) ≤ edges_left row rects
fewer_edges row bottom [] zero le = omega arith
fewer_edges row bottom [] (suc n) le = omega arith
fewer_edges row bottom (r ∷ rects) zero le = omega (arith, no_more row bottom r le)
fewer_edges row bottom (r ∷ rects) (suc n) le =
    omega (arith, left_at_most bottom (drop n rects), one_at_most row r, length-drop n rects)

less_edges : (row top bottom : ℤ) (rects : List Rect) (n : ℕ) → IsSteady row top bottom rects → All (λ r. bottom <ℤ r.bottom) (drop n rects) →
    1 ≤ length rects → bottom ≡ next_edge top rects → edges_left bottom (drop n rects) < edges_left row rects
less_edges row top bottom [] n h ahead some e = absurd (omega (arith, some))
less_edges row top bottom (r ∷ rects) (suc n) h ahead some e =
    omega (arith, left_at_most bottom (drop n rects), one_at_most row r, length-drop n rects)
less_edges row top bottom (r ∷ rects) zero h ahead some e = elim (at_or_before top r.top) [
  | inl later ↦
      let edge : bottom ≡ r.top = e ∙ ap (λ b. if b then r.bottom else r.top) (is_gt r.top top later) in
      let before = ap {B = ℕ} (λ b. if b then 1 else 0) (is_gt r.top row (omega (arith, ints, later, h.from))) in
      let after = ap {B = ℕ} (λ b. if b then 1 else 0) (is_le r.top bottom (omega (arith, ints, edge))) in
      omega (arith, before, after)
  | inr begun ↦
      let edge : bottom ≡ r.bottom = e ∙ ap (λ b. if b then r.bottom else r.top) (is_le r.top top begun) in
      absurd (omega (arith, ints, edge, All-head (λ q. bottom <ℤ q.bottom) r rects ahead))
]

-- a turn
turned : (row top bottom : ℤ) (rects here rest : List Rect) (n m : ℕ) → IsSteady row top bottom rects → n ≤ length rects →
    All (λ r. r.top ≤ℤ top) (take n rects) → All (λ r. top <ℤ r.top) (drop n rects) → here ≡ take n rects →
    All (λ r. r.bottom ≤ℤ bottom) (take m rects) → All (λ r. bottom <ℤ r.bottom) (drop m rects) → rest ≡ drop m rects →
    IsTurn row top bottom rects here rest
turned row top bottom rects here rest n m h within begun later here_is ended ahead rest_is =
    let at = at_top row top bottom rects n h within begun later in
    let le : row ≤ℤ bottom = omega (arith, ints, h.from, h.rows) in
    subst (λ l. IsTurn row top bottom rects l rest) (sym here_is) (subst (IsTurn row top bottom rects (take n rects)) (sym rest_is) (record {
      band = one_row_is_band top (take n rects) (in_order_take n rects at.order) begun (All-take (λ r. top <ℤ r.bottom) n rects at.ahead);
      points = λ p from before. elim (at_or_before p.y top) [
        | inl above ↦ none_before row top bottom p rects h from above ∙ sym (ap (λ b. b && in_columns p.x (take n rects)) (is_gt top p.y above))
        | inr inside ↦ row_is p.x p.y rects n (at_row row top bottom p.y rects n h at inside before)
            ∙ sym (ap (λ b. b && in_columns p.x (take n rects)) (is_le top p.y inside))
      ];
      below = record { order = in_order_drop m rects h.left.order; ahead = ahead };
      later = λ p after. rows_rest p bottom rects m ended after;
      fewer = fewer_edges row bottom rects m le;
      less = less_edges row top bottom rects m h ahead;
    }))

-- where the band ends with the rows, those below it are left
band_ended : (row top bottom : ℤ) (r : Rect) (rects : List Rect) (n : ℕ) → IsSteady row top bottom (r ∷ rects) → r.top ≤ℤ top → r.bottom ≤ℤ bottom →
    All (λ q. q.top ≤ℤ top) (take n rects) → All (λ q. q.bottom ≤ℤ bottom) (take n rects)
band_ended row top bottom r rects n h begun ended tops = λ k d lt.
    elim (All-take (ComesFirst r) n rects (pairs_head ComesFirst r rects h.left.order.order) k d lt) [
      | inl e ↦ omega (arith, ints, e.1, ended)
      | inr below ↦ absurd (omega (arith, ints, below, tops k d lt, begun_above row top bottom r rects h))
    ]

band_below : (row top bottom : ℤ) (r : Rect) (rects : List Rect) (n : ℕ) → IsSteady row top bottom (r ∷ rects) → r.top ≤ℤ top →
    All (λ q. top <ℤ q.top) (drop n rects) → All (λ q. bottom <ℤ q.bottom) (drop n rects)
band_below row top bottom r rects n h begun later = λ k d lt.
    let ends : bottom ≤ℤ r.bottom = subst (λ b. bottom ≤ℤ (if b then r.bottom else r.top)) (is_le r.top top begun) h.ends in
    let down = (All-drop HasPoints (suc n) (r ∷ rects) h.left.order.points k d lt).down in
    elim (All-drop (ComesFirst r) n rects (pairs_head ComesFirst r rects h.left.order.order) k d lt) [
      | inl e ↦ absurd (omega (arith, ints, e.0, begun, later k d lt))
      | inr below ↦ omega (arith, ints, ends, below, down)
    ]

pub turned_below : (row top bottom : ℤ) (rects here rest : List Rect) (n : ℕ) → IsSteady row top bottom rects → n ≤ length rects →
    All (λ r. r.top ≤ℤ top) (take n rects) → All (λ r. top <ℤ r.top) (drop n rects) → here ≡ take n rects → rest ≡ drop n rects →
    1 ≤ length here → (get_or here 0 no_rect).bottom ≤ℤ bottom → IsTurn row top bottom rects here rest
turned_below row top bottom rects here rest zero h within begun later here_is rest_is some ended = absurd (omega (arith, some, ap length here_is))
turned_below row top bottom [] here rest (suc n) h within begun later here_is rest_is some ended = absurd (omega (arith, within))
turned_below row top bottom (r ∷ rects) here rest (suc n) h within begun later here_is rest_is some ended =
    let first : r.top ≤ℤ top = All-head (λ q. q.top ≤ℤ top) r (take n rects) begun in
    let end : r.bottom ≤ℤ bottom = subst (λ l. (get_or l 0 no_rect).bottom ≤ℤ bottom) here_is ended in
    turned row top bottom (r ∷ rects) here rest (suc n) (suc n) h within begun later here_is
    (All-cons (λ q. q.bottom ≤ℤ bottom) r (take n rects) end
    (band_ended row top bottom r rects n h first end (All-tail (λ q. q.top ≤ℤ top) r (take n rects) begun)))
    (band_below row top bottom r rects n h first later) rest_is

-- where it goes on, all are left
all_below : (row top bottom : ℤ) (rects here : List Rect) (n : ℕ) → IsSteady row top bottom rects → All (λ r. top <ℤ r.top) (drop n rects) →
    here ≡ take n rects → (1 ≤ length here → bottom <ℤ (get_or here 0 no_rect).bottom) → All (λ r. bottom <ℤ r.bottom) rects
all_below row top bottom [] here n h later here_is goes_on = All-nil (λ r. bottom <ℤ r.bottom)
all_below row top bottom (r ∷ rects) here zero h later here_is goes_on =
    let first : top <ℤ r.top = All-head (λ q. top <ℤ q.top) r rects later in
    let ends : bottom ≤ℤ r.top = subst (λ b. bottom ≤ℤ (if b then r.bottom else r.top)) (is_gt r.top top first) h.ends in
    let down : r.top <ℤ r.bottom = (All-head HasPoints r rects h.left.order.points).down in
    later_from Bottom (r ∷ rects) bottom 0 no_rect (sorted_by_bottom (r ∷ rects) h.left.order) (omega arith) (omega (arith, ints, ends, down))
all_below row top bottom (r ∷ rects) here (suc n) h later here_is goes_on =
    later_from Bottom (r ∷ rects) bottom 0 no_rect (sorted_by_bottom (r ∷ rects) h.left.order) (omega arith)
    (subst (λ l. bottom <ℤ (get_or l 0 no_rect).bottom) here_is (goes_on (omega (arith, ap length here_is))))

pub turned_on : (row top bottom : ℤ) (rects here : List Rect) (n : ℕ) → IsSteady row top bottom rects → n ≤ length rects →
    All (λ r. r.top ≤ℤ top) (take n rects) → All (λ r. top <ℤ r.top) (drop n rects) → here ≡ take n rects →
    (1 ≤ length here → bottom <ℤ (get_or here 0 no_rect).bottom) → IsTurn row top bottom rects here rects
turned_on row top bottom rects here n h within begun later here_is goes_on =
    turned row top bottom rects here rects n 0 h within begun later here_is (All-nil (λ r. r.bottom ≤ℤ bottom))
    (all_below row top bottom rects here n h later here_is goes_on) refl

-- the next rows

-- some rows are left where a rectangle is
some_rows : (row top : ℤ) (rects : List Rect) → IsBelow row rects → 1 ≤ length rects → top ≤ℤ int_max (first_top rects) row → top <ℤ next_edge top rects
some_rows row top [] h some begins = absurd (omega (arith, some))
some_rows row top (r ∷ rects) h some begins = elim (at_or_before top r.top) [
  | inl later ↦ subst (λ b. top <ℤ (if b then r.bottom else r.top)) (sym (is_gt r.top top later)) later
  | inr begun ↦
      let down : r.top <ℤ r.bottom = (All-head HasPoints r rects h.order.points).down in
      subst (λ b. top <ℤ (if b then r.bottom else r.top)) (sym (is_le r.top top begun))
      (omega (arith, ints, clamps, begins, down, All-head (λ q. row <ℤ q.bottom) r rects h.ahead))
]

steady_rows : (row top : ℤ) (rects : List Rect) → IsBelow row rects → top <ℤ pos 2147483647 → top ≤ℤ int_max (first_top rects) row → top <ℤ next_edge top rects
steady_rows row top [] h fits begins = fits
steady_rows row top (r ∷ rects) h fits begins = some_rows row top (r ∷ rects) h (omega arith) begins

edge_of_some : (top other : ℤ) (rects : List Rect) → next_edge top rects <ℤ other → other ≤ℤ pos 2147483647 → 1 ≤ length rects
edge_of_some top other [] lt last = absurd (omega (arith, ints, lt, last))
edge_of_some top other (r ∷ rects) lt last = omega arith

some_reached : (top bottom : ℤ) (a b : List Rect) → (1 ≤ length a) ⊎ (1 ≤ length b) → bottom ≡ int_min (next_edge top a) (next_edge top b) →
    next_edge top a ≤ℤ pos 2147483647 → next_edge top b ≤ℤ pos 2147483647 →
    ((1 ≤ length a) × (bottom ≡ next_edge top a)) ⊎ ((1 ≤ length b) × (bottom ≡ next_edge top b))
some_reached top bottom a b some e last_a last_b = elim (order (next_edge top a) (next_edge top b)) [
  | inl less ↦ inl (edge_of_some top (next_edge top b) a less last_b, omega (arith, ints, clamps, e, less))
  | inr (inr more) ↦ inr (edge_of_some top (next_edge top a) b more last_a, omega (arith, ints, clamps, e, more))
  | inr (inl same) ↦ elim some [
    | inl h ↦ inl (h, omega (arith, ints, clamps, e, same))
    | inr h ↦ inr (h, omega (arith, ints, clamps, e, same))
  ]
]

pub are_next_rows : (row top bottom : ℤ) (a b : List Rect) → IsBelow row a → IsBelow row b → (1 ≤ length a) ⊎ (1 ≤ length b) →
    top ≡ int_max (int_min (first_top a) (first_top b)) row → bottom ≡ int_min (next_edge top a) (next_edge top b) →
    next_edge top a ≤ℤ pos 2147483647 → next_edge top b ≤ℤ pos 2147483647 → AreNextRows row a b top bottom
are_next_rows row top bottom a b h k some t e last_a last_b =
    let from : row ≤ℤ top = omega (arith, ints, clamps, t) in
    let begins : top ≤ℤ int_max (first_top a) row = omega (arith, ints, clamps, t) in
    let begins_too : top ≤ℤ int_max (first_top b) row = omega (arith, ints, clamps, t) in
    let before : top <ℤ pos 2147483647 = elim some [
      | inl s ↦ let r = some_rows row top a h s begins in omega (arith, ints, r, last_a)
      | inr s ↦ let r = some_rows row top b k s begins_too in omega (arith, ints, r, last_b)
    ] in
    let later = steady_rows row top a h before begins in
    let later_too = steady_rows row top b k before begins_too in
    let rows : top <ℤ bottom = omega (arith, ints, clamps, e, later, later_too) in
    record {
      first = record { left = h; from = from; rows = rows; begins = begins; ends = omega (arith, ints, clamps, e) };
      second = record { left = k; from = from; rows = rows; begins = begins_too; ends = omega (arith, ints, clamps, e) };
      reached = some_reached top bottom a b some e last_a last_b;
    }

-- the same with the rows as code has them
pub in_code : (row top bottom : ℤ) (a b : List Rect) → SFits w32 top → SFits w32 bottom → AreNextRows row a b top bottom →
    AreNextRows row a b (to_z w32 (of_z w32 top)) (to_z w32 (of_z w32 bottom))
in_code row top bottom a b top_fits bottom_fits h = rw (to_z-of_z w32 top top_fits, to_z-of_z w32 bottom bottom_fits) h

-- points of a turn

turn_in : (p from_top ha hb a b r : Bool) → a ≡ (from_top && ha) → b ≡ (from_top && hb) →
    ((p || ((from_top && true) && (ha || hb))) || (false && r)) ≡ (p || (true && (a || b)))
turn_in true from_top ha hb a b r e f = refl
turn_in false true true hb a b r e f = sym (ap (λ u. u || b) e)
turn_in false true false true true b r e f = absurd (false≢true (sym e))
turn_in false true false true false b r e f = sym f
turn_in false true false false true b r e f = absurd (false≢true (sym e))
turn_in false true false false false b r e f = sym f
turn_in false false ha hb true b r e f = absurd (false≢true (sym e))
turn_in false false ha hb false b r e f = sym f

turn_after : (p t ha r s : Bool) → r ≡ s → ((p || ((t && false) && ha)) || (true && r)) ≡ (p || (true && s))
turn_after true t ha r s e = refl
turn_after false true ha r s e = e
turn_after false false ha r s e = e

turn_before : (p b ha r s : Bool) → ((p || ((false && b) && ha)) || (false && r)) ≡ (p || (false && s))
turn_before true b ha r s = refl
turn_before false b ha r s = refl

turn_points : (row top bottom : ℤ) (p : Point) (pushed a b here_a here_b rest_a rest_b : List Rect) → top <ℤ bottom → row ≤ℤ top →
    IsTurn row top bottom a here_a rest_a → IsTurn row top bottom b here_b rest_b →
    (is_in_some p (pushed ++ rects_of_spans top bottom (map span_of (here_a ++ here_b))) || (int_le bottom p.y && (is_in_some p rest_a || is_in_some p rest_b))) ≡
    (is_in_some p pushed || (int_le row p.y && (is_in_some p a || is_in_some p b)))
turn_points row top bottom p pushed a b here_a here_b rest_a rest_b wide from t u =
    let old = is_in_some p pushed in
    let here : Bool = in_columns p.x here_a || in_columns p.x here_b in
    let below : Bool = is_in_some p rest_a || is_in_some p rest_b in
    let added = list_any-append (λ r. is_in p r) pushed (rects_of_spans top bottom (map span_of (here_a ++ here_b)))
    ∙ ap (λ c. old || c) (span_rects_points p.x p.y top bottom (map span_of (here_a ++ here_b)))
    ∙ ap (λ c. old || ((int_le top p.y && int_lt p.y bottom) && c)) (either_spans p.x here_a here_b) in
    ap (λ c. c || (int_le bottom p.y && below)) added ∙ elim (at_or_before p.y row) [
      | inl above ↦
          ap (λ c. (old || ((c && int_lt p.y bottom) && here)) || (int_le bottom p.y && below)) (is_gt top p.y (omega (arith, ints, above, from)))
          ∙ ap (λ c. (old || ((false && int_lt p.y bottom) && here)) || (c && below)) (is_gt bottom p.y (omega (arith, ints, above, from, wide)))
          ∙ turn_before old (int_lt p.y bottom) here below (is_in_some p a || is_in_some p b)
          ∙ sym (ap (λ c. old || (c && (is_in_some p a || is_in_some p b))) (is_gt row p.y above))
      | inr inside ↦ elim (at_or_before p.y bottom) [
        | inl before ↦
            ap (λ c. (old || ((int_le top p.y && c) && here)) || (int_le bottom p.y && below)) (lt_is p.y bottom before)
            ∙ ap (λ c. (old || ((int_le top p.y && true) && here)) || (c && below)) (is_gt bottom p.y before)
            ∙ turn_in old (int_le top p.y) (in_columns p.x here_a) (in_columns p.x here_b) (is_in_some p a) (is_in_some p b) below
            (t.points p inside before) (u.points p inside before)
            ∙ sym (ap (λ c. old || (c && (is_in_some p a || is_in_some p b))) (is_le row p.y inside))
        | inr after ↦
            ap (λ c. (old || ((int_le top p.y && c) && here)) || (int_le bottom p.y && below)) (ge_is p.y bottom after)
            ∙ ap (λ c. (old || ((int_le top p.y && false) && here)) || (c && below)) (is_le bottom p.y after)
            ∙ turn_after old (int_le top p.y) here below (is_in_some p a || is_in_some p b)
            (ap (λ c. c || is_in_some p rest_b) (t.later p after) ∙ ap (λ c. is_in_some p a || c) (u.later p after))
            ∙ sym (ap (λ c. old || (c && (is_in_some p a || is_in_some p b))) (is_le row p.y inside))
      ]
    ]

-- one turn more

pub joined_more : (set : Point → Bool) (a b here_a here_b rest_a rest_b : List Rect) (row top bottom : ℤ) (old new : RegionBuilder) →
    (h : IsJoining set a b row old) → top <ℤ bottom → row ≤ℤ top → IsTurn row top bottom a here_a rest_a → IsTurn row top bottom b here_b rest_b →
    HasRows (h.pushed ++ rects_of_spans top bottom (map span_of (here_a ++ here_b))) bottom new → IsJoining set rest_a rest_b bottom new
joined_more set a b here_a here_b rest_a rest_b row top bottom old new h wide from t u rows = record {
  pushed = h.pushed ++ rects_of_spans top bottom (map span_of (here_a ++ here_b));
  rows = rows;
  first = t.below;
  second = u.below;
  points = λ p. turn_points row top bottom p h.pushed a b here_a here_b rest_a rest_b wide from t u ∙ h.points p;
}

pub fewer_left : (row top bottom : ℤ) (a b here_a here_b rest_a rest_b : List Rect) → AreNextRows row a b top bottom →
    IsTurn row top bottom a here_a rest_a → IsTurn row top bottom b here_b rest_b →
    edges_left bottom rest_a + edges_left bottom rest_b < edges_left row a + edges_left row b
fewer_left row top bottom a b here_a here_b rest_a rest_b h t u = elim h.reached [
  | inl e ↦ omega (arith, t.less e.0 e.1, u.fewer)
  | inr e ↦ omega (arith, u.less e.0 e.1, t.fewer)
]

-- before all rows

none_yet : (row : ℤ) (p : Point) (rects : List Rect) → IsInOrder rects → row ≤ℤ first_top rects → p.y <ℤ row → is_in_some p rects ≡ false
none_yet row p [] h first lt = refl
none_yet row p (r ∷ rects) h first lt =
    none_above p (r ∷ rects) (later_from Top (r ∷ rects) p.y 0 no_rect (sorted_by_top (r ∷ rects) h) (omega arith) (omega (arith, ints, first, lt)))

below_all : (row : ℤ) (rects : List Rect) → IsInOrder rects → row ≤ℤ first_top rects → IsBelow row rects
below_all row [] h first = record { order = h; ahead = All-nil (λ r. row <ℤ r.bottom) }
below_all row (r ∷ rects) h first =
    let down : r.top <ℤ r.bottom = (All-head HasPoints r rects h.points).down in
    record {
      order = h;
      ahead = later_from Bottom (r ∷ rects) row 0 no_rect (sorted_by_bottom (r ∷ rects) h) (omega arith) (omega (arith, ints, first, down));
    }

none_of_both : (a b c : Bool) → a ≡ false → b ≡ false → (false || (c && (a || b))) ≡ (a || b)
none_of_both true b c e f = absurd (false≢true (sym e))
none_of_both false true c e f = absurd (false≢true (sym f))
none_of_both false false true e f = refl
none_of_both false false false e f = refl

pub joined_none : (a b : List Rect) (row : ℤ) (builder : RegionBuilder) → IsInOrder a → IsInOrder b → row ≤ℤ first_top a →
    row ≤ℤ first_top b → HasRows [] row builder → IsJoining (λ p. is_in_some p a || is_in_some p b) a b row builder
joined_none a b row builder h k first second rows = record {
  pushed = [];
  rows = rows;
  first = below_all row a h first;
  second = below_all row b k second;
  points = λ p. elim (at_or_before p.y row) [
    | inl above ↦ none_of_both (is_in_some p a) (is_in_some p b) (int_le row p.y) (none_yet row p a h first above) (none_yet row p b k second above)
    | inr inside ↦ ap (λ c. false || (c && (is_in_some p a || is_in_some p b))) (is_le row p.y inside)
  ];
}

-- where nothing is left

or_nothing : (a c : Bool) → a ≡ (a || (c && (false || false)))
or_nothing true c = refl
or_nothing false true = refl
or_nothing false false = refl

pub joined_all : (set : Point → Bool) (a b : List Rect) (row : ℤ) (builder : RegionBuilder) → IsJoining set a b row builder → a ≡ [] → b ≡ [] →
    HasPointsOf set builder
joined_all set a b row builder h none_a none_b = record {
  pushed = h.pushed;
  end = row;
  rows = h.rows;
  points = λ p. or_nothing (is_in_some p h.pushed) (int_le row p.y)
      ∙ sym (ap (λ l. is_in_some p h.pushed || (int_le row p.y && (is_in_some p l || is_in_some p b))) none_a
      ∙ ap (λ l. is_in_some p h.pushed || (int_le row p.y && (is_in_some p [] || is_in_some p l))) none_b)
      ∙ h.points p;
}

-- an answer of the points that were pushed
pub answer_alike : (f g : Point → Bool) (result : Result (List Rect) RegionRefusal) → ((p : Point) → f p ≡ g p) → IsAnswer f result → IsAnswer g result
answer_alike f g result same h = subst (λ set. IsAnswer set result) (fun_ext {f = f} {g = g} same) h
