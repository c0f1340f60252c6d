-- Rectangles in bands.
use Rattle.std.proofs.Common.{◌≡◌, ◌∙◌, ℕ, ℤ, zero, suc, pos, negsuc, ◌+◌, ◌*◌, ◌+ℤ◌, ◌-ℤ◌, ◌≤ℤ◌, ◌<◌, ◌≤◌, ◌^◌, FitsSigned, to_z, of_z, w32}
use Rattle.std.proofs.Common.{Bool, true, false, ◌&&◌, ◌||◌, if◌then◌else◌, int_le, int_lt, nat_le}
use Rattle.std.proofs.Common.{List, [], ◌∷◌, ◌++◌, length, get_or, take, refl, ap, sym, subst, arith, mul-le-mul_right}
use Rattle.std.proofs.lemmas.Int.{ints, to_z-of_z, to_z_pos}
use Rattle.std.proofs.lemmas.Bool.Decides.{nat_tests}
use Rattle.std.proofs.lemmas.List.{take_more}
use Rattle.geom_base.specs.declared.point.Point.{Point}
use Rattle.geom_base.specs.declared.rect.Rect.{Rect}
use Rattle.geom_base.specs.PointLaws.{same_edges}
use Rattle.geom_base.specs.Points.{HasPoints, height_of, is_in, is_in_some, moved_rect, width_of}
use Rattle.clip_obj.specs.Clip.{LiesWithin}
use Rattle.eng_calls.specs.InnerBands.{band_count, band_of, band_rows, bands_of, before_band, has_room}

-- all bands together have the rectangle's rows
pub all_rows : (room : ℕ) (r : Rect) → band_count room r * band_rows room r ≡ height_of r
all_rows room r = by_room (has_room room r) (height_of r)
  where
    by_room : (b : Bool) (h : ℕ) → (if b then 1 else h) * (if b then h else 1) ≡ h
    by_room true h = omega arith
    by_room false h = omega arith

-- a band has a row
pub some_row : (room : ℕ) (r : Rect) → HasPoints r → 1 ≤ band_rows room r
some_row room r h = by_room (has_room room r) (height_of r) (omega (arith, ints, h.down))
  where
    by_room : (b : Bool) (h : ℕ) → 1 ≤ h → 1 ≤ (if b then h else 1)
    by_room true h some = some
    by_room false h some = omega arith

-- and ends within the rectangle
pub row_end : (room : ℕ) (r : Rect) (k : ℕ) → k < band_count room r → (k + 1) * band_rows room r ≤ height_of r
row_end room r k lt =
    let most : (k + 1) * band_rows room r ≤ band_count room r * band_rows room r = mul-le-mul_right (band_rows room r) (omega arith) in
    omega (arith, most, all_rows room r)

pub next_end : (k n : ℕ) → (k + 1) * n ≡ k * n + n
next_end k n = grind arith

-- there is room for a band where there is room for a row
band_fits : (room : ℕ) (r : Rect) → width_of r ≤ room → width_of r * band_rows room r ≤ room
band_fits room r fits = by_room (has_room room r) (width_of r) (height_of r) refl fits
  where
    by_room : (b : Bool) (w h : ℕ) → b ≡ nat_le (w * h) room → w ≤ room → w * (if b then h else 1) ≤ room
    by_room true w h e le = grind (arith, nat_tests)
    by_room false w h e le = omega arith

-- a rectangle lies in itself
pub within_itself : (r : Rect) → HasPoints r → LiesWithin r r
within_itself r h = record {
  left = omega (arith, ints);
  across = omega (arith, ints, h.across);
  right = omega (arith, ints);
  top = omega (arith, ints);
  down = omega (arith, ints, h.down);
  bottom = omega (arith, ints);
}

-- so it is in each part of a rectangle a row of which has room
pub part_fits : (room : ℕ) (outer r : Rect) → LiesWithin outer r → width_of outer ≤ room → width_of r * band_rows room r ≤ room
part_fits room outer r h fits =
    let narrow : width_of r ≤ width_of outer = omega (arith, ints, h.left, h.across, h.right) in
    band_fits room r (omega (arith, narrow, fits))

-- how many rows a band has, by its edges
pub band_height : (room : ℕ) (r : Rect) (k : ℕ) → height_of (band_of room r k) ≡ band_rows room r
band_height room r k =
    let next = next_end k (band_rows room r) in
    omega (arith, ints, next)

pub band_points : (room : ℕ) (r : Rect) (k : ℕ) → HasPoints r → HasPoints (band_of room r k)
band_points room r k h =
    let next = next_end k (band_rows room r) in
    let some = some_row room r h in
    record { across = h.across; down = omega (arith, ints, next, some) }

pub band_within : (room : ℕ) (outer r : Rect) (k : ℕ) → HasPoints r → LiesWithin outer r → k < band_count room r → LiesWithin outer (band_of room r k)
band_within room outer r k h within lt =
    let next = next_end k (band_rows room r) in
    let end = row_end room r k lt in
    record {
      left = within.left;
      across = within.across;
      right = within.right;
      top = omega (arith, ints, within.top);
      down = omega (arith, ints, next);
      bottom = omega (arith, ints, within.bottom, end, h.down);
    }

-- points of two rectangles, one below the other, are those of both

next_rows : (t m b y : ℤ) → t ≤ℤ m → m ≤ℤ b → (int_le t y && int_lt y b) ≡ ((int_le t y && int_lt y m) || (int_le m y && int_lt y b))
next_rows t m b y first second = grind (arith, ints)

across : (p q a b c d e f : Bool) → (a && b) ≡ ((c && d) || (e && f)) → (p && q && a && b) ≡ ((p && q && c && d) || (p && q && e && f))
across true true a b c d e f h = h
across true false a b c d e f h = refl
across false q a b c d e f h = refl

pub in_two : (l n t m b : ℤ) (p : Point) → t ≤ℤ m → m ≤ℤ b →
    is_in p (record { left = l; top = t; right = n; bottom = b }) ≡
    (is_in p (record { left = l; top = t; right = n; bottom = m }) || is_in p (record { left = l; top = m; right = n; bottom = b }))
in_two l n t m b p first second =
    across (int_le l p.x) (int_lt p.x n) (int_le t p.y) (int_lt p.y b) (int_le t p.y) (int_lt p.y m) (int_le m p.y) (int_lt p.y b)
    (next_rows t m b p.y first second)

pub in_none : (l n t : ℤ) (p : Point) → is_in p (record { left = l; top = t; right = n; bottom = t }) ≡ false
in_none l n t p = grind (arith, ints)

-- before the first band is nothing, before the next one is one band more, and before the end all of them

pub before_first : (room : ℕ) (r : Rect) (by p : Point) → is_in p (moved_rect (before_band room r 0) by) ≡ false
before_first room r by p =
    let e : (r.top +ℤ pos (0 * band_rows room r)) +ℤ by.y ≡ r.top +ℤ by.y = omega (arith, ints) in
    ap (λ (z : ℤ). is_in p (record { left = r.left +ℤ by.x; top = r.top +ℤ by.y; right = r.right +ℤ by.x; bottom = z })) e
    ∙ in_none (r.left +ℤ by.x) (r.right +ℤ by.x) (r.top +ℤ by.y) p

pub before_next : (room : ℕ) (r : Rect) (k : ℕ) (by p : Point) →
    is_in p (moved_rect (before_band room r (k + 1)) by) ≡ (is_in p (moved_rect (before_band room r k) by) || is_in p (moved_rect (band_of room r k) by))
before_next room r k by p =
    let next = next_end k (band_rows room r) in
    in_two (r.left +ℤ by.x) (r.right +ℤ by.x) (r.top +ℤ by.y) ((r.top +ℤ pos (k * band_rows room r)) +ℤ by.y)
    ((r.top +ℤ pos ((k + 1) * band_rows room r)) +ℤ by.y) p (omega (arith, ints)) (omega (arith, ints, next))

pub before_end : (room : ℕ) (r : Rect) → HasPoints r → before_band room r (band_count room r) ≡ r
before_end room r h =
    let all = all_rows room r in
    let bottom : r.top +ℤ pos (band_count room r * band_rows room r) ≡ r.bottom = omega (arith, ints, all, h.down) in
    same_edges (before_band room r (band_count room r)) r refl refl refl bottom

-- the same where nothing is moved
pub first_none : (room : ℕ) (r : Rect) (p : Point) → is_in p (before_band room r 0) ≡ false
first_none room r p =
    let e : r.top +ℤ pos (0 * band_rows room r) ≡ r.top = omega (arith, ints) in
    ap (λ (z : ℤ). is_in p (record { left = r.left; top = r.top; right = r.right; bottom = z })) e ∙ in_none r.left r.right r.top p

pub one_more : (room : ℕ) (r : Rect) (k : ℕ) (p : Point) →
    is_in p (before_band room r (k + 1)) ≡ (is_in p (before_band room r k) || is_in p (band_of room r k))
one_more room r k p =
    let next = next_end k (band_rows room r) in
    in_two r.left r.right r.top (r.top +ℤ pos (k * band_rows room r)) (r.top +ℤ pos ((k + 1) * band_rows room r)) p (omega (arith, ints))
    (omega (arith, ints, next))

-- lists of rectangles

some_pushed : (p : Point) (rects : List Rect) (r : Rect) → is_in_some p (rects ++ r ∷ []) ≡ (is_in_some p rects || is_in p r)
some_pushed p [] r = or_false (is_in p r)
  where
    or_false : (b : Bool) → (b || false) ≡ b
    or_false true = refl
    or_false false = refl
some_pushed p (s ∷ rects) r = ap (λ x. is_in p s || x) (some_pushed p rects r) ∙ regroup (is_in p s) (is_in_some p rects) (is_in p r)
  where
    regroup : (x y z : Bool) → (x || (y || z)) ≡ ((x || y) || z)
    regroup true y z = refl
    regroup false y z = refl

pub some_more : (p : Point) (rects : List Rect) (i : ℕ) (d : Rect) → i < length rects →
    is_in_some p (take (i + 1) rects) ≡ (is_in_some p (take i rects) || is_in p (get_or rects i d))
some_more p rects i d lt = ap (is_in_some p) (take_more rects i d lt) ∙ some_pushed p (take i rects) (get_or rects i d)

bands_pushed : (room : ℕ) (rects : List Rect) (r : Rect) → bands_of room (rects ++ r ∷ []) ≡ bands_of room rects + band_count room r
bands_pushed room [] r = omega arith
bands_pushed room (s ∷ rects) r = let e = bands_pushed room rects r in omega (arith, e)

pub bands_more : (room : ℕ) (rects : List Rect) (i : ℕ) (d : Rect) → i < length rects →
    bands_of room (take (i + 1) rects) ≡ bands_of room (take i rects) + band_count room (get_or rects i d)
bands_more room rects i d lt = ap (bands_of room) (take_more rects i d lt) ∙ bands_pushed room (take i rects) (get_or rects i d)

-- the first ones have no more bands than all
pub bands_part : (room : ℕ) (rects : List Rect) (i : ℕ) → bands_of room (take i rects) ≤ bands_of room rects
bands_part room [] zero = omega arith
bands_part room [] (suc i) = omega arith
bands_part room (r ∷ rects) zero = omega arith
bands_part room (r ∷ rects) (suc i) = let e = bands_part room rects i in omega (arith, e)

-- edges of 32 bits

fits_between : (z b : ℤ) → pos 0 ≤ℤ z → z ≤ℤ b → FitsSigned w32 b → FitsSigned w32 z
fits_between (pos m) (pos n) from to f = record { sfits = grind (arith, ints, f.sfits) }
fits_between (pos m) (negsuc n) from to f = absurd (omega (arith, ints, from, to))
fits_between (negsuc m) b from to f = absurd (omega (arith, ints, from))

-- an edge further down
edge_on : (z b : ℤ) (n : ℕ) → pos 0 ≤ℤ z → (z +ℤ pos n) ≤ℤ b → FitsSigned w32 b → to_z w32 (of_z w32 (z +ℤ to_z w32 n)) ≡ z +ℤ pos n
edge_on z b n from to f =
    let short : n < 2 ^ 31 = omega (arith, ints, f.sfits) in
    let there = fits_between (z +ℤ pos n) b (omega (arith, ints)) to f in
    rw (to_z_pos w32 n short, to_z-of_z w32 (z +ℤ pos n) there) refl

-- the upper and the lower edge of a band
pub band_top : (t b : ℤ) (n : ℕ) → pos 0 ≤ℤ t → (t +ℤ pos n) ≤ℤ b → FitsSigned w32 b →
    to_z w32 (of_z w32 (to_z w32 (of_z w32 t) +ℤ to_z w32 n)) ≡ t +ℤ pos n
band_top t b n from to f =
    let here = fits_between t b from (omega (arith, ints)) f in
    rw (to_z-of_z w32 t here) (edge_on t b n from to f)

pub band_bottom : (t b : ℤ) (k n : ℕ) → pos 0 ≤ℤ t → (t +ℤ pos ((k + 1) * n)) ≤ℤ b → FitsSigned w32 b →
    to_z w32 (of_z w32 (to_z w32 (of_z w32 (to_z w32 (of_z w32 t) +ℤ to_z w32 (k * n))) +ℤ to_z w32 n)) ≡ t +ℤ pos ((k + 1) * n)
band_bottom t b k n from to f =
    let next = next_end k n in
    let first = band_top t b (k * n) from (omega (arith, ints, to, next)) f in
    let last : t +ℤ pos ((k + 1) * n) ≡ (t +ℤ pos (k * n)) +ℤ pos n = omega (arith, ints, next) in
    rw (first, last) (edge_on (t +ℤ pos (k * n)) b n (omega (arith, ints, from)) (omega (arith, ints, to, last)) f)

-- the lower one is a number of 32 bits
pub bottom_fits : (t b : ℤ) (k n : ℕ) → pos 0 ≤ℤ t → (t +ℤ pos ((k + 1) * n)) ≤ℤ b → FitsSigned w32 b →
    FitsSigned w32 (to_z w32 (of_z w32 (to_z w32 (of_z w32 t) +ℤ to_z w32 (k * n))) +ℤ to_z w32 n)
bottom_fits t b k n from to f =
    let next = next_end k n in
    let first = band_top t b (k * n) from (omega (arith, ints, to, next)) f in
    let last : t +ℤ pos ((k + 1) * n) ≡ (t +ℤ pos (k * n)) +ℤ pos n = omega (arith, ints, next) in
    let short : n < 2 ^ 31 = omega (arith, ints, from, to, next, f.sfits) in
    rw (first, to_z_pos w32 n short) (fits_between ((t +ℤ pos (k * n)) +ℤ pos n) b (omega (arith, ints, from)) (omega (arith, ints, to, last)) f)

fits_back : (o : ℤ) → pos 0 ≤ℤ o → FitsSigned w32 o → FitsSigned w32 (pos 0 -ℤ o)
fits_back (pos zero) from f = f
fits_back (pos (suc m)) from f =
    let e : pos 0 -ℤ pos (suc m) ≡ negsuc m = omega (arith, ints) in
    subst (FitsSigned w32) (sym e) (record { sfits = omega (arith, f.sfits) })
fits_back (negsuc m) from f = absurd (omega (arith, ints, from))

-- an edge seen from another
pub edge_back : (z o : ℤ) → pos 0 ≤ℤ o → o ≤ℤ z → FitsSigned w32 z → z +ℤ to_z w32 (of_z w32 (pos 0 -ℤ to_z w32 (of_z w32 o))) ≡ z +ℤ (pos 0 -ℤ o)
edge_back z o from to f =
    let here = fits_between o z from to f in
    let there = fits_back o from here in
    rw (to_z-of_z w32 o here, to_z-of_z w32 (pos 0 -ℤ o) there) refl
