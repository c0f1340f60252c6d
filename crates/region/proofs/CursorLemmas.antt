-- What is left of a region or a band along a sweep.
use Rattle.std.proofs.Common.{◌≡◌, ◌∙◌, ℕ, ◌<◌, ◌≤◌, zero, suc, ℤ, ◌-ℤ◌, ◌<ℤ◌, ◌≤ℤ◌, pos, List, [], ◌∷◌, take, drop, length, get_or}
use Rattle.std.proofs.Common.{Bool, true, false, ◌&&◌, ◌||◌, if◌then◌else◌, refl, ap, sym, subst, arith, inl, inr, int_lt, int_le, nat_eq, Some}
use Rattle.std.proofs.Common.{length-drop, SFits, w32, to_z, of_z}
use Rattle.std.specs.List.{All}
use Rattle.std.proofs.lemmas.Int.{ints, to_z-of_z}
use Rattle.std.proofs.lemmas.Bool.Decides.{nat_tests}
use Rattle.std.proofs.lemmas.List.Folds.{list_any_none}
use Rattle.std.proofs.lemmas.List.Elements.{All-nil, All-head, All-tail, All-take, All-drop, All-weaker}
use Rattle.geom_base.specs.declared.point.Point.{Point}
use Rattle.geom_base.specs.declared.rect.Rect.{Rect}
use Rattle.geom_base.specs.Points.{is_in, is_in_some, HasPoints, no_rect}
use Rattle.region.specs.declared.search.Edge.TheVariants.{Top, Right, Bottom}
use Rattle.region.specs.Order.{ComesFirst, IsInOrder}
use Rattle.region.specs.Canonical.{point_from}
use Rattle.region.specs.InnerSearch.{AreSorted}
use Rattle.region.specs.InnerCursor.{in_columns, AreInBand, IsAtRow, IsAtColumn, StaysUntil, row_next, column_next, rows_left, columns_left}
use Rattle.region.proofs.SearchLemmas.{pairs_head, pairs_drop, pairs_take, later_from}

-- parts of a list in order

pub in_order_drop : (n : ℕ) (rects : List Rect) → IsInOrder rects → IsInOrder (drop n rects)
in_order_drop n rects h = record { order = pairs_drop ComesFirst n rects h.order; points = All-drop HasPoints n rects h.points }

pub in_order_take : (n : ℕ) (rects : List Rect) → IsInOrder rects → IsInOrder (take n rects)
in_order_take n rects h = record { order = pairs_take ComesFirst n rects h.order; points = All-take HasPoints n rects h.points }

begins_above : (a b : Rect) → HasPoints a → ComesFirst a b → a.top ≤ℤ b.top
begins_above a b h (inl e) = omega (arith, ints, e.0)
begins_above a b h (inr le) = omega (arith, ints, le, h.down)

ends_above : (a b : Rect) → HasPoints b → ComesFirst a b → a.bottom ≤ℤ b.bottom
ends_above a b h (inl e) = omega (arith, ints, e.1)
ends_above a b h (inr le) = omega (arith, ints, le, h.down)

pub sorted_by_top : (rects : List Rect) → IsInOrder rects → AreSorted Top rects
sorted_by_top rects h i j d a b = begins_above (get_or rects i d) (get_or rects j d) (h.points i d (omega (arith, a, b))) (h.order i j d a b)

pub sorted_by_bottom : (rects : List Rect) → IsInOrder rects → AreSorted Bottom rects
sorted_by_bottom rects h i j d a b = ends_above (get_or rects i d) (get_or rects j d) (h.points j d b) (h.order i j d a b)

-- points of rows

pub in_row : (p : Point) (r : Rect) → r.top ≤ℤ p.y → p.y <ℤ r.bottom → is_in p r ≡ (int_le r.left p.x && int_lt p.x r.right)
in_row p r h k = grind (arith, ints)

above : (p : Point) (r : Rect) → p.y <ℤ r.top → is_in p r ≡ false
above p r h = grind (arith, ints)

below : (p : Point) (r : Rect) → r.bottom ≤ℤ p.y → is_in p r ≡ false
below p r h = grind (arith, ints)

pub none_above : (p : Point) (rects : List Rect) → All (λ r. p.y <ℤ r.top) rects → is_in_some p rects ≡ false
none_above p rects h =
    list_any_none (λ r. is_in p r) rects (All-weaker (λ r. p.y <ℤ r.top) (λ r. is_in p r ≡ false) (λ r k. above p r k) rects h)

-- rectangles that have ended do not matter
pub rows_rest : (p : Point) (place : ℤ) (rects : List Rect) (n : ℕ) → All (λ r. r.bottom ≤ℤ place) (take n rects) → place ≤ℤ p.y →
    is_in_some p (drop n rects) ≡ is_in_some p rects
rows_rest p place rects zero h le = refl
rows_rest p place [] (suc n) h le = refl
rows_rest p place (r ∷ rects) (suc n) h le =
    let ended : r.bottom ≤ℤ place = All-head (λ q. q.bottom ≤ℤ place) r (take n rects) h in
    rows_rest p place rects n (All-tail (λ q. q.bottom ≤ℤ place) r (take n rects) h) le
    ∙ sym (ap (λ b. b || is_in_some p rects) (below p r (omega (arith, ints, ended, le))))

-- the points of a row are those of the rectangles that have it
pub row_columns : (p : Point) (rects : List Rect) (here : ℕ) → All (λ r. r.top ≤ℤ p.y) (take here rects) → All (λ r. p.y <ℤ r.bottom) (take here rects) →
    All (λ r. p.y <ℤ r.top) (drop here rects) → is_in_some p rects ≡ in_columns p.x (take here rects)
row_columns p rects zero begun ahead later = none_above p rects later
row_columns p [] (suc n) begun ahead later = refl
row_columns p (r ∷ rects) (suc n) begun ahead later =
    ap (λ b. b || is_in_some p rects)
    (in_row p r (All-head (λ q. q.top ≤ℤ p.y) r (take n rects) begun) (All-head (λ q. p.y <ℤ q.bottom) r (take n rects) ahead))
    ∙ ap (λ b. (int_le r.left p.x && int_lt p.x r.right) || b)
    (row_columns p rects n (All-tail (λ q. q.top ≤ℤ p.y) r (take n rects) begun) (All-tail (λ q. p.y <ℤ q.bottom) r (take n rects) ahead) later)

pub row_is : (x y : ℤ) (rects : List Rect) (here : ℕ) → IsAtRow y rects here → is_in_some (point_from x y) rects ≡ in_columns x (take here rects)
row_is x y rects here h =
    row_columns (point_from x y) rects here h.begun (All-take (λ r. y <ℤ r.bottom) here rects h.ahead) h.later

-- those of one row are a band

beside : (a b : Rect) (y : ℤ) → ComesFirst a b → b.top ≤ℤ y → y <ℤ a.bottom → a.right <ℤ b.left
beside a b y (inl e) begun ahead = e.2
beside a b y (inr le) begun ahead = absurd (omega (arith, ints, le, begun, ahead))

pub one_row_is_band : (y : ℤ) (rects : List Rect) → IsInOrder rects → All (λ r. r.top ≤ℤ y) rects → All (λ r. y <ℤ r.bottom) rects → AreInBand rects
one_row_is_band y rects h begun ahead = record {
  order = λ i j d a b. beside (get_or rects i d) (get_or rects j d) y (h.order i j d a b) (begun j d b) (ahead i d (omega (arith, a, b)));
  columns = All-weaker HasPoints (λ r. r.left <ℤ r.right) (λ r k. k.across) rects h.points;
}

-- before all rows

abbrev pub above_all : List Rect → ℤ
above_all [] = pos 0
above_all (r ∷ rects) = r.top -ℤ pos 1

pub begins_rows : (z : ℤ) (rects : List Rect) → IsInOrder rects → z ≤ℤ above_all rects → IsAtRow z rects 0
begins_rows z [] h le = record {
  order = h;
  within = omega arith;
  ahead = All-nil (λ r. z <ℤ r.bottom);
  begun = All-nil (λ r. r.top ≤ℤ z);
  later = All-nil (λ r. z <ℤ r.top);
}
begins_rows z (r ∷ rects) h le =
    let first : HasPoints r = All-head HasPoints r rects h.points in
    record {
      order = h;
      within = omega arith;
      ahead = later_from Bottom (r ∷ rects) z 0 no_rect (sorted_by_bottom (r ∷ rects) h) (omega arith) (omega (arith, ints, le, first.down));
      begun = All-nil (λ r. r.top ≤ℤ z);
      later = later_from Top (r ∷ rects) z 0 no_rect (sorted_by_top (r ∷ rects) h) (omega arith) (omega (arith, ints, le));
    }

-- rows until the next edge

pub between_bands : (y z : ℤ) (r : Rect) (rects : List Rect) → IsAtRow y (r ∷ rects) 0 → z <ℤ r.top → IsAtRow z (r ∷ rects) 0
between_bands y z r rects h lt = begins_rows z (r ∷ rects) h.order (omega (arith, ints, lt))

past_band : (a b : Rect) (y z : ℤ) → ComesFirst a b → a.top ≤ℤ y → y <ℤ b.top → z <ℤ a.bottom → z <ℤ b.top
past_band a b y z (inl e) begun later ahead = absurd (omega (arith, ints, e.0, begun, later))
past_band a b y z (inr le) begun later ahead = omega (arith, ints, le, ahead)

pub in_band : (y z : ℤ) (r : Rect) (rects : List Rect) (n : ℕ) → IsAtRow y (r ∷ rects) (suc n) → y ≤ℤ z → z <ℤ r.bottom → IsAtRow z (r ∷ rects) (suc n)
in_band y z r rects n h le lt =
    let begun : r.top ≤ℤ y = All-head (λ q. q.top ≤ℤ y) r (take n rects) h.begun in
    let first = All-drop (ComesFirst r) n rects (pairs_head ComesFirst r rects h.order.order) in
    record {
      order = h.order;
      within = h.within;
      ahead = later_from Bottom (r ∷ rects) z 0 no_rect (sorted_by_bottom (r ∷ rects) h.order) (omega arith) lt;
      begun = All-weaker (λ q. q.top ≤ℤ y) (λ q. q.top ≤ℤ z) (λ q k. omega (arith, ints, k, le)) (take (suc n) (r ∷ rects)) h.begun;
      later = λ k d b. past_band r (get_or (drop n rects) k d) y z (first k d b) begun (h.later k d b) lt;
    }

not_none : (n : ℕ) → nat_eq (suc n) 0 ≡ false
not_none n = grind (arith, nat_tests)

next_in_band : (r : Rect) (rects : List Rect) (n : ℕ) → row_next (r ∷ rects) (suc n) ≡ Some r.bottom
next_in_band r rects n = ap (λ b. Some (if b then r.top else r.bottom)) (not_none n)

pub row_stays : (y : ℤ) (rects : List Rect) (here : ℕ) → IsAtRow y rects here →
    StaysUntil (λ z x. is_in_some (point_from x z) rects) (λ x. in_columns x (take here rects)) y (row_next rects here)
row_stays y [] zero h = (λ x. refl, λ z x le. refl)
row_stays y [] (suc n) h = (λ x. refl, λ z x le. refl)
row_stays y (r ∷ rects) zero h =
    (All-head (λ q. y <ℤ q.top) r rects h.later, λ z x le lt. row_is x z (r ∷ rects) 0 (between_bands y z r rects h lt))
row_stays y (r ∷ rects) (suc n) h =
    subst (StaysUntil (λ z x. is_in_some (point_from x z) (r ∷ rects)) (λ x. in_columns x (take (suc n) (r ∷ rects))) y) (sym (next_in_band r rects n))
    (All-head (λ q. y <ℤ q.bottom) r rects h.ahead, λ z x le lt. row_is x z (r ∷ rects) (suc n) (in_band y z r rects n h le lt))

-- where none has ended the band goes on
pub still_in_band : (y z : ℤ) (rects : List Rect) (here n : ℕ) → IsAtRow y rects here → 0 < here → y ≤ℤ z → n ≡ 0 →
    All (λ r. z <ℤ r.bottom) (drop n rects) → IsAtRow z rects here
still_in_band y z rects zero n h some le e ahead = absurd (omega (arith, some))
still_in_band y z [] (suc here) n h some le e ahead = absurd (omega (arith, h.within))
still_in_band y z (r ∷ rects) (suc here) (suc n) h some le e ahead = absurd (omega (arith, e))
still_in_band y z (r ∷ rects) (suc here) zero h some le e ahead =
    in_band y z r rects here h le (All-head (λ q. z <ℤ q.bottom) r rects ahead)

next_is : (a n : ℤ) → Some a ≡ Some n → a ≡ n
next_is a n e = cc

pub band_end_is_ahead : (place m : ℤ) (rects : List Rect) (here n : ℕ) → 0 < here → n ≡ 0 → All (λ r. place <ℤ r.bottom) (drop n rects) →
    row_next rects here ≡ Some m → place <ℤ m
band_end_is_ahead place m rects zero n some e ahead next = absurd (omega (arith, some))
band_end_is_ahead place m [] (suc here) n some e ahead next = absurd (cc)
band_end_is_ahead place m (r ∷ rects) (suc here) (suc n) some e ahead next = absurd (omega (arith, e))
band_end_is_ahead place m (r ∷ rects) (suc here) zero some e ahead next =
    subst (λ z. place <ℤ z) (next_is r.bottom m (sym (next_in_band r rects here) ∙ next)) (All-head (λ q. place <ℤ q.bottom) r rects ahead)

-- each edge passed leaves fewer

one_at_most : (here : ℕ) → (if nat_eq here 0 then 0 else 1) ≤ 1
one_at_most here = grind (arith, nat_tests)

spent_in_band : (n : ℕ) → 1 ≤ (if nat_eq (suc n) 0 then 0 else 1)
spent_in_band n = grind (arith, nat_tests)

pub fewer_rows : (place m : ℤ) (rects : List Rect) (here n now : ℕ) → (n ≡ 0 → here ≡ 0) → n ≤ length rects →
    All (λ r. place <ℤ r.top) (drop now (drop n rects)) → row_next rects here ≡ Some m → m ≤ℤ place → rows_left (drop n rects) now < rows_left rects here
fewer_rows place m [] here n now between bound later next le = absurd (cc)
fewer_rows place m (r ∷ rects) here (suc n) now between bound later next le =
    omega (arith, one_at_most here, one_at_most now, length-drop n rects, bound)
fewer_rows place m (r ∷ rects) zero zero (suc now) between bound later next le =
    omega (arith, spent_in_band now)
fewer_rows place m (r ∷ rects) zero zero zero between bound later next le =
    let e : r.top ≡ m = next_is r.top m next in
    absurd (omega (arith, ints, e, le, All-head (λ q. place <ℤ q.top) r rects later))
fewer_rows place m (r ∷ rects) (suc here) zero now between bound later next le = absurd (omega (arith, between refl))

-- columns of a band

pub in_band_drop : (n : ℕ) (rects : List Rect) → AreInBand rects → AreInBand (drop n rects)
in_band_drop n rects h = record {
  order = pairs_drop (λ a b. a.right <ℤ b.left) n rects h.order;
  columns = All-drop (λ r. r.left <ℤ r.right) n rects h.columns;
}

pub sorted_by_right : (rects : List Rect) → AreInBand rects → AreSorted Right rects
sorted_by_right rects h i j d a b = omega (arith, ints, h.order i j d a b, h.columns j d b)

outside_left : (x : ℤ) (r : Rect) → x <ℤ r.left → (int_le r.left x && int_lt x r.right) ≡ false
outside_left x r h = grind (arith, ints)

outside_right : (x : ℤ) (r : Rect) → r.right ≤ℤ x → (int_le r.left x && int_lt x r.right) ≡ false
outside_right x r h = grind (arith, ints)

pub none_left : (x : ℤ) (rects : List Rect) → All (λ r. x <ℤ r.left) rects → in_columns x rects ≡ false
none_left x rects h = list_any_none (λ r. int_le r.left x && int_lt x r.right) rects
    (All-weaker (λ r. x <ℤ r.left) (λ r. (int_le r.left x && int_lt x r.right) ≡ false) (λ r k. outside_left x r k) rects h)

-- rectangles that have ended do not matter
pub columns_rest : (x place : ℤ) (rects : List Rect) (n : ℕ) → All (λ r. r.right ≤ℤ place) (take n rects) → place ≤ℤ x →
    in_columns x (drop n rects) ≡ in_columns x rects
columns_rest x place rects zero h le = refl
columns_rest x place [] (suc n) h le = refl
columns_rest x place (r ∷ rects) (suc n) h le =
    let ended : r.right ≤ℤ place = All-head (λ q. q.right ≤ℤ place) r (take n rects) h in
    columns_rest x place rects n (All-tail (λ q. q.right ≤ℤ place) r (take n rects) h) le
    ∙ sym (ap (λ b. b || in_columns x rects) (outside_right x r (omega (arith, ints, ended, le))))

first_test : (x : ℤ) (r : Rect) → x <ℤ r.right → ((int_le r.left x && int_lt x r.right) || false) ≡ int_le r.left x
first_test x r h = grind (arith, ints)

-- the first that has not ended decides
pub first_decides : (x : ℤ) (r : Rect) (rects : List Rect) → AreInBand (r ∷ rects) → x <ℤ r.right → in_columns x (r ∷ rects) ≡ int_le r.left x
first_decides x r rects h lt =
    ap (λ b. (int_le r.left x && int_lt x r.right) || b)
    (none_left x rects (All-weaker (λ q. r.right <ℤ q.left) (λ q. x <ℤ q.left) (λ q k. omega (arith, ints, k, lt)) rects
    (pairs_head (λ a b. a.right <ℤ b.left) r rects h.order)))
    ∙ first_test x r lt

abbrev pub first_begun : ℤ → List Rect → Bool
first_begun x [] = false
first_begun x (r ∷ rects) = int_le r.left x

pub band_at : (x : ℤ) (rects : List Rect) → AreInBand rects → All (λ r. x <ℤ r.right) rects → IsAtColumn x rects (first_begun x rects)
band_at x [] h ahead = record { band = h; ahead = ahead; here = refl }
band_at x (r ∷ rects) h ahead =
    record { band = h; ahead = ahead; here = sym (first_decides x r rects h (All-head (λ q. x <ℤ q.right) r rects ahead)) }

-- before all columns

abbrev pub left_of_all : List Rect → ℤ
left_of_all [] = pos 0
left_of_all (r ∷ rects) = r.left -ℤ pos 1

not_begun : (x a : ℤ) → x <ℤ a → int_le a x ≡ false
not_begun x a h = grind (arith, ints)

pub begins_columns : (x : ℤ) (rects : List Rect) → AreInBand rects → x ≤ℤ left_of_all rects → IsAtColumn x rects false
begins_columns x [] h le = band_at x [] h (All-nil (λ r. x <ℤ r.right))
begins_columns x (r ∷ rects) h le =
    let across : r.left <ℤ r.right = All-head (λ q. q.left <ℤ q.right) r rects h.columns in
    subst (IsAtColumn x (r ∷ rects)) (not_begun x r.left (omega (arith, ints, le)))
    (band_at x (r ∷ rects) h (later_from Right (r ∷ rects) x 0 no_rect (sorted_by_right (r ∷ rects) h) (omega arith) (omega (arith, ints, le, across))))

-- columns until the next edge

begun_is : (a x : ℤ) → int_le a x ≡ true → a ≤ℤ x
begun_is a x e = grind (arith, ints)

pub is_begun : (a x : ℤ) → a ≤ℤ x → int_le a x ≡ true
is_begun a x h = grind (arith, ints)

begins_after : (a x : ℤ) → int_le a x ≡ false → x <ℤ a
begins_after a x e = grind (arith, ints)

at_first : (y : ℤ) (r : Rect) (rects : List Rect) (inside : Bool) → IsAtColumn y (r ∷ rects) inside → inside ≡ int_le r.left y
at_first y r rects inside h = h.here ∙ first_decides y r rects h.band (All-head (λ q. y <ℤ q.right) r rects h.ahead)

pub column_stays : (y : ℤ) (rects : List Rect) (inside : Bool) → IsAtColumn y rects inside →
    StaysUntil (λ z x. in_columns z rects) (λ x. inside) y (column_next rects inside)
column_stays y [] inside h = (λ x. h.here, λ z x le. refl)
column_stays y (r ∷ rects) true h =
    let begun : r.left ≤ℤ y = begun_is r.left y (sym (at_first y r rects true h)) in (
      All-head (λ q. y <ℤ q.right) r rects h.ahead,
      λ z x le lt. first_decides z r rects h.band lt ∙ is_begun r.left z (omega (arith, ints, begun, le)),
    )
column_stays y (r ∷ rects) false h =
    let across : r.left <ℤ r.right = All-head (λ q. q.left <ℤ q.right) r rects h.band.columns in (
      begins_after r.left y (sym (at_first y r rects false h)),
      λ z x le lt. first_decides z r rects h.band (omega (arith, ints, lt, across)) ∙ not_begun z r.left lt,
    )

-- each edge passed leaves fewer

one_column_at_most : (inside : Bool) → (if inside then 1 else 0) ≤ 1
one_column_at_most true = omega arith
one_column_at_most false = omega arith

stays_inside : (y place : ℤ) (r : Rect) (rects : List Rect) (now : Bool) → IsAtColumn y (r ∷ rects) true → IsAtColumn place (r ∷ rects) now → y ≤ℤ place →
    now ≡ true
stays_inside y place r rects now h k le =
    at_first place r rects now k ∙ is_begun r.left place (omega (arith, ints, le, begun_is r.left y (sym (at_first y r rects true h))))

pub fewer_columns : (y place : ℤ) (rects : List Rect) (inside now : Bool) (n : ℕ) → IsAtColumn y rects inside → IsAtColumn place (drop n rects) now →
    y ≤ℤ place → n ≤ length rects → columns_left (drop n rects) now ≤ columns_left rects inside
fewer_columns y place [] inside now zero h k le bound = omega arith
fewer_columns y place [] inside now (suc n) h k le bound = omega arith
fewer_columns y place (r ∷ rects) true now zero h k le bound =
    subst (λ b. columns_left (r ∷ rects) b ≤ columns_left (r ∷ rects) true) (sym (stays_inside y place r rects now h k le)) (omega arith)
fewer_columns y place (r ∷ rects) false now zero h k le bound = omega arith
fewer_columns y place (r ∷ rects) inside now (suc n) h k le bound =
    omega (arith, one_column_at_most inside, one_column_at_most now, length-drop n rects, bound)

-- the first of a list, as code reads it

pub begun_none : (x : ℤ) (rects : List Rect) → length rects < 1 → false ≡ first_begun x rects
begun_none x [] h = refl
begun_none x (r ∷ rects) h = absurd (omega (arith, h))

pub begun_first : (x : ℤ) (rects : List Rect) (d : Rect) → 1 ≤ length rects → SFits w32 x → SFits w32 (get_or rects 0 d).left →
    int_le (to_z w32 (of_z w32 (get_or rects 0 d).left)) (to_z w32 (of_z w32 x)) ≡ first_begun x rects
begun_first x [] d h f g = absurd (omega (arith, h))
begun_first x (r ∷ rects) d h f g = rw (to_z-of_z w32 r.left g, to_z-of_z w32 x f) refl
