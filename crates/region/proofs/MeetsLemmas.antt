-- Where a region has a point of a rectangle.
use Rattle.std.proofs.Common.{◌≡◌, ◌∙◌, ℕ, ◌<◌, ◌≤◌, zero, suc, ℤ, ◌<ℤ◌, ◌≤ℤ◌, List, [], ◌∷◌, take, drop, length, get_or}
use Rattle.std.proofs.Common.{Bool, true, false, ◌&&◌, ◌||◌, refl, ap, sym, arith, IsTrue, int_lt, int_le}
use Rattle.std.specs.Int.{int_max}
use Rattle.std.specs.List.{All}
use Rattle.std.proofs.lemmas.Int.{ints, clamps}
use Rattle.std.proofs.lemmas.Bool.{false≢true}
use Rattle.std.proofs.lemmas.List.{take-append-drop}
use Rattle.std.proofs.lemmas.List.Folds.{list_any-append}
use Rattle.std.proofs.lemmas.List.Elements.{All-cons, All-head, All-tail, All-take, All-drop, All-weaker}
use Rattle.geom_base.specs.declared.point.Point.{Point}
use Rattle.geom_base.specs.declared.rect.Rect.{Rect}
use Rattle.geom_base.specs.Points.{IsIn, is_in, is_in_some, HasPoints}
use Rattle.geom_base.specs.PointLaws.{is_in-IsIn}
use Rattle.region.specs.Order.{IsInOrder}
use Rattle.region.specs.Region.{SharesPoint}
use Rattle.region.specs.Canonical.{point_from}
use Rattle.region.specs.InnerCursor.{in_columns, AreInBand}
use Rattle.region.specs.InnerMeets.{HasColumnIn, IsLeft}
use Rattle.region.specs.InnerRows.{IsPast}
use Rattle.region.proofs.SearchLemmas.{pairs_head}
use Rattle.region.proofs.CursorLemmas.{in_order_drop, in_order_take, sorted_by_top, none_above, rows_rest, in_row, one_row_is_band, none_left}
use Rattle.region.proofs.CursorLemmas.{first_decides, is_begun}
use Rattle.region.proofs.RowLemmas.{past_points}

-- columns of a band

more_to_left : (right : ℤ) (r : Rect) (rects : List Rect) → AreInBand (r ∷ rects) → right ≤ℤ r.left → All (λ q. right ≤ℤ q.left) (r ∷ rects)
more_to_left right r rects h le =
    let across : r.left <ℤ r.right = All-head (λ q. q.left <ℤ q.right) r rects h.columns in
    All-cons (λ q. right ≤ℤ q.left) r rects le
    (All-weaker (λ q. r.right <ℤ q.left) (λ q. right ≤ℤ q.left) (λ q k. omega (arith, ints, k, le, across)) rects
    (pairs_head (λ a b. a.right <ℤ b.left) r rects h.order))

-- where the first that has not ended begins before the right edge, it has such a column
first_has : (left right : ℤ) (r : Rect) (rects : List Rect) → AreInBand (r ∷ rects) → left <ℤ r.right → left <ℤ right → r.left <ℤ right →
    HasColumnIn (r ∷ rects) left right
first_has left right r rects h ahead across begins =
    let wide : r.left <ℤ r.right = All-head (λ q. q.left <ℤ q.right) r rects h.columns in
    record {
      place = int_max left r.left;
      held = first_decides (int_max left r.left) r rects h (omega (arith, ints, clamps, ahead, wide))
          ∙ is_begun r.left (int_max left r.left) (omega (arith, ints, clamps));
      from = omega (arith, ints, clamps);
      before = omega (arith, ints, clamps, across, begins);
    }

pub column_in_rest : (left right : ℤ) (band rest : List Rect) → IsPast left band rest → HasColumnIn rest left right → HasColumnIn band left right
column_in_rest left right band rest p h =
    record { place = h.place; held = sym (past_points left band rest p h.place h.from) ∙ h.held; from = h.from; before = h.before }

pub column_of_rest : (left right : ℤ) (band rest : List Rect) → IsPast left band rest → HasColumnIn band left right → HasColumnIn rest left right
column_of_rest left right band rest p h =
    record { place = h.place; held = past_points left band rest p h.place h.from ∙ h.held; from = h.from; before = h.before }

pub none_of_none : (left right : ℤ) (rects : List Rect) → length rects < 1 → HasColumnIn rects left right → ⊥
none_of_none left right [] short h = false≢true h.held
none_of_none left right (r ∷ rects) short h = omega (arith, short)

pub first_column : (left right : ℤ) (rects : List Rect) (d : Rect) → AreInBand rects → All (λ r. left <ℤ r.right) rects → left <ℤ right → 1 ≤ length rects →
    (get_or rects 0 d).left <ℤ right → HasColumnIn rects left right
first_column left right [] d h ahead across long begins = absurd (omega (arith, long))
first_column left right (r ∷ rects) d h ahead across long begins =
    first_has left right r rects h (All-head (λ q. left <ℤ q.right) r rects ahead) across begins

no_column : (left right : ℤ) (rects : List Rect) (d : Rect) → AreInBand rects → 1 ≤ length rects → right ≤ℤ (get_or rects 0 d).left →
    HasColumnIn rects left right → ⊥
no_column left right [] d h long le has = omega (arith, long)
no_column left right (r ∷ rects) d h long le has =
    false≢true (sym (none_left has.place (r ∷ rects)
    (All-weaker (λ q. right ≤ℤ q.left) (λ q. has.place <ℤ q.left) (λ q k. omega (arith, ints, k, has.before)) (r ∷ rects) (more_to_left right r rects h le)))
    ∙ has.held)

is_before : (a b : ℤ) → int_lt a b ≡ true → a <ℤ b
is_before a b e = grind (arith, ints)

is_not_before : (a b : ℤ) → int_lt a b ≡ false → b ≤ℤ a
is_not_before a b e = grind (arith, ints)

before_by : (a b : ℤ) (test : Bool) → int_lt a b ≡ test → (b ≤ℤ a → ⊥) → a <ℤ b
before_by a b true e none = is_before a b e
before_by a b false e none = absurd (none (is_not_before a b e))

-- where it has one, the first begins before the right edge
pub first_begins : (left right : ℤ) (rects : List Rect) (d : Rect) → AreInBand rects → 1 ≤ length rects → HasColumnIn rects left right →
    (get_or rects 0 d).left <ℤ right
first_begins left right rects d h long has =
    let first = (get_or rects 0 d).left in
    before_by first right (int_lt first right) refl (λ le. no_column left right rects d h long le has)

-- points

-- the first rectangle that is left and those beside it
tops_from : (rects : List Rect) (d : Rect) → IsInOrder rects → 1 ≤ length rects → All (λ r. (get_or rects 0 d).top ≤ℤ r.top) rects
tops_from [] d h long = absurd (omega (arith, long))
tops_from (r ∷ rects) d h long =
    All-cons (λ q. r.top ≤ℤ q.top) r rects (omega (arith, ints)) (pairs_head (λ a b. a.top ≤ℤ b.top) r rects (sorted_by_top (r ∷ rects) h))

-- what is left where the highest have ended
pub left_at_first : (rects : List Rect) (rect : Rect) (n : ℕ) → IsInOrder rects → All (λ r. r.bottom ≤ℤ rect.top) (take n rects) →
    All (λ r. rect.top <ℤ r.bottom) (drop n rects) → IsLeft rects rect (drop n rects)
left_at_first rects rect n h ended ahead = record {
  order = in_order_drop n rects h;
  ahead = ahead;
  points = λ p t. rows_rest p rect.top rects n ended ((is_in-IsIn p rect).0 t).from_top;
}

pub none_below : (rects : List Rect) (rect : Rect) (rest : List Rect) (d : Rect) → IsLeft rects rect rest → 1 ≤ length rest →
    rect.bottom ≤ℤ (get_or rest 0 d).top → SharesPoint (λ p. is_in_some p rects) rect → ⊥
none_below rects rect rest d h long le s =
    let inside : IsIn s.point rect = (is_in-IsIn s.point rect).0 s.inside in
    false≢true (sym (none_above s.point rest
    (All-weaker (λ r. (get_or rest 0 d).top ≤ℤ r.top) (λ r. s.point.y <ℤ r.top) (λ r k. omega (arith, ints, k, le, inside.to_bottom)) rest
    (tops_from rest d h.order long)))
    ∙ h.points s.point s.inside ∙ s.held)

-- the first so many rectangles begin with the first
pub record IsFirstBand (rest : List Rect) (top : ℤ) (n : ℕ) : Type 0 where
  pub order : IsInOrder rest
  pub tops : All (λ r. top ≤ℤ r.top) rest
  pub begun : All (λ r. r.top ≤ℤ top) (take n rest)

pub first_band : (rest : List Rect) (d : Rect) (n : ℕ) → IsInOrder rest → 1 ≤ length rest → All (λ r. r.top ≤ℤ (get_or rest 0 d).top) (take n rest) →
    IsFirstBand rest (get_or rest 0 d).top n
first_band rest d n h long begun = record { order = h; tops = tops_from rest d h long; begun = begun }

ends_after : (n : ℕ) (rest : List Rect) (top : ℤ) → IsFirstBand rest top n → All (λ r. top <ℤ r.bottom) (take n rest)
ends_after n rest top h = λ k d lt.
    let down : (get_or (take n rest) k d).top <ℤ (get_or (take n rest) k d).bottom = (All-take HasPoints n rest h.order.points k d lt).down in
    omega (arith, ints, down, All-take (λ r. top ≤ℤ r.top) n rest h.tops k d lt)

pub first_is_band : (rest : List Rect) (top : ℤ) (n : ℕ) → IsFirstBand rest top n → AreInBand (take n rest)
first_is_band rest top n h = one_row_is_band top (take n rest) (in_order_take n rest h.order) h.begun (ends_after n rest top h)

one_more : (p : Point) (r : Rect) (a b : Bool) → r.top ≤ℤ p.y → p.y <ℤ r.bottom → a ≡ b → (is_in p r || a) ≡ ((int_le r.left p.x && int_lt p.x r.right) || b)
one_more p r a b begun ahead e = ap (λ c. c || a) (in_row p r begun ahead) ∙ ap (λ c. (int_le r.left p.x && int_lt p.x r.right) || c) e

band_points : (p : Point) (rects : List Rect) → All (λ r. r.top ≤ℤ p.y) rects → All (λ r. p.y <ℤ r.bottom) rects → is_in_some p rects ≡ in_columns p.x rects
band_points p [] begun ahead = refl
band_points p (r ∷ rects) begun ahead =
    one_more p r (is_in_some p rects) (in_columns p.x rects) (All-head (λ q. q.top ≤ℤ p.y) r rects begun) (All-head (λ q. p.y <ℤ q.bottom) r rects ahead)
    (band_points p rects (All-tail (λ q. q.top ≤ℤ p.y) r rects begun) (All-tail (λ q. p.y <ℤ q.bottom) r rects ahead))

or_true : (a b : Bool) → a ≡ true → (a || b) ≡ true
or_true a b e = ap (λ c. c || b) e

parts_points : (p : Point) (rest : List Rect) (n : ℕ) → is_in_some p rest ≡ (is_in_some p (take n rest) || is_in_some p (drop n rest))
parts_points p rest n =
    ap (is_in_some p) (sym (take-append-drop n rest)) ∙ list_any-append (λ r. is_in p r) (take n rest) (drop n rest)

-- a column of the band that the rectangle has is one of a point
pub band_meets : (rects : List Rect) (rect : Rect) (rest : List Rect) (top : ℤ) (n : ℕ) → IsLeft rects rect rest → IsFirstBand rest top n →
    HasColumnIn (take n rest) rect.left rect.right → rect.top <ℤ rect.bottom → top <ℤ rect.bottom → SharesPoint (λ p. is_in_some p rects) rect
band_meets rects rect rest top n h b has down above =
    let p : Point = point_from has.place (int_max rect.top top) in
    let inside : IsTrue (is_in p rect) = (is_in-IsIn p rect).1 (record {
      from_left = has.from;
      to_right = has.before;
      from_top = omega (arith, ints, clamps);
      to_bottom = omega (arith, ints, clamps, down, above);
    }) in
    let begun = All-weaker (λ r. r.top ≤ℤ top) (λ r. r.top ≤ℤ int_max rect.top top) (λ r k. omega (arith, ints, clamps, k)) (take n rest) b.begun in
    let first = All-take (λ r. rect.top <ℤ r.bottom) n rest h.ahead in
    let second = ends_after n rest top b in
    record {
      point = p;
      held = sym (h.points p inside) ∙ parts_points p rest n
          ∙ or_true (is_in_some p (take n rest)) (is_in_some p (drop n rest))
          (band_points p (take n rest) begun (λ k d lt. omega (arith, ints, clamps, first k d lt, second k d lt)) ∙ has.held);
      inside = inside;
    }

-- a point of a band is in one of its columns

or_false_first : (a b : Bool) → (a || b) ≡ false → a ≡ false
or_false_first true b e = absurd (false≢true (sym e))
or_false_first false b e = refl

or_false_second : (a b : Bool) → (a || b) ≡ false → b ≡ false
or_false_second true b e = absurd (false≢true (sym e))
or_false_second false b e = e

and_more : (a b c d : Bool) → (a && b) ≡ false → (a && b && c && d) ≡ false
and_more true true c d e = absurd (false≢true (sym e))
and_more true false c d e = refl
and_more false b c d e = refl

none_in_columns : (p : Point) (rects : List Rect) → in_columns p.x rects ≡ false → is_in_some p rects ≡ false
none_in_columns p [] e = refl
none_in_columns p (r ∷ rects) e =
    let test : Bool = int_le r.left p.x && int_lt p.x r.right in
    ap (λ b. b || is_in_some p rects)
    (and_more (int_le r.left p.x) (int_lt p.x r.right) (int_le r.top p.y) (int_lt p.y r.bottom) (or_false_first test (in_columns p.x rects) e))
    ∙ none_in_columns p rects (or_false_second test (in_columns p.x rects) e)

outside_columns : (rect : Rect) (band : List Rect) (p : Point) (b : Bool) → (HasColumnIn band rect.left rect.right → ⊥) → IsIn p rect →
    in_columns p.x band ≡ b → is_in_some p band ≡ false
outside_columns rect band p true none inside e =
    absurd (none (record { place = p.x; held = e; from = inside.from_left; before = inside.to_right }))
outside_columns rect band p false none inside e = none_in_columns p band e

-- where it has none, the bands below are left
pub left_below : (rects : List Rect) (rect : Rect) (rest : List Rect) (n : ℕ) → IsLeft rects rect rest →
    (HasColumnIn (take n rest) rect.left rect.right → ⊥) → IsLeft rects rect (drop n rest)
left_below rects rect rest n h none = record {
  order = in_order_drop n rest h.order;
  ahead = All-drop (λ r. rect.top <ℤ r.bottom) n rest h.ahead;
  points = λ p t. sym (parts_points p rest n
      ∙ ap (λ b. b || is_in_some p (drop n rest)) (outside_columns rect (take n rest) p (in_columns p.x (take n rest)) none ((is_in-IsIn p rect).0 t) refl))
      ∙ h.points p t;
}

-- each band has a rectangle
pub some_begun : (rest : List Rect) (d : Rect) (n : ℕ) → 1 ≤ length rest → All (λ r. (get_or rest 0 d).top <ℤ r.top) (drop n rest) → 0 < n
some_begun [] d n long later = absurd (omega (arith, long))
some_begun (r ∷ rest) d zero long later = absurd (omega (arith, ints, All-head (λ q. r.top <ℤ q.top) r rest later))
some_begun (r ∷ rest) d (suc n) long later = omega arith
