use Rattle.std.proofs.Common.{◌≡◌, ◌∙◌, ℕ, ◌+◌, ◌-◌, ◌*◌, ◌/◌, ◌%◌, ◌<◌, ◌≤◌, ◌⊎◌, inl, inr, List, Option, length, get_or, take, drop, refl, sym, ap, arith}
use Rattle.std.proofs.lemmas.List.{places, get_or-take, get_or-drop}
use Rattle.std.proofs.Math.Nat.{add-mul}
use Rattle.pix_format.specs.Value.{bits_of}
use Rattle.pix_format.specs.declared.format.Format.{Format}
use Rattle.pix_format.specs.declared.format.Format.TheVariants.{B1, B4, B8, B555, B565, B24, B32}
use Rattle.surf_obj.specs.Layout.{Layout, row_start, row_bytes, pixel_in, values_in, SamePadding, Holds}
use Rattle.surf_obj.specs.InnerBytes.{ChangesOnly}
use Rattle.geom_base.specs.declared.point.Point.{Point}
use Rattle.geom_base.specs.Grid.{value_at}
use Rattle.geom_base.specs.Step.{value_after, redrawn}
use Rattle.geom_base.specs.Points.{point_at}
use Rattle.surf_obj.proofs.LayoutLemmas.{pixel_in-same, pixel_in-moved, run-fits, bits-le, wide, pixel-stays, SamePadding-write, KeepsAfter-bytes}
use Rattle.surf_obj.specs.LayoutLaws.{get_or-values_in}
use Rattle.surf_obj.proofs.RunLemmas.{in_row, values_in-run}
use borrow.Rule.Slice.PartMut.{put_mid}

-- an item of a list whose part was written
pub get_or-put_mid_inside : (a k : ℕ) (xs ys : List ℕ) (i : ℕ) → length ys ≡ k → a + k ≤ length xs → a ≤ i → i < a + k →
    get_or (put_mid a k xs ys) i 0 ≡ get_or ys (i - a) 0
get_or-put_mid_inside a k xs ys i long room from to = grind (arith, places)

pub get_or-put_mid_outside : (a k : ℕ) (xs ys : List ℕ) (i : ℕ) → length ys ≡ k → a + k ≤ length xs → (i < a) ⊎ (a + k ≤ i) →
    get_or (put_mid a k xs ys) i 0 ≡ get_or xs i 0
get_or-put_mid_outside a k xs ys i long room out = grind (arith, places)

-- the bits up to a place of a run are those of two parts
pub bits-split : (f : Format) (from to x : ℕ) → from ≤ to → (x + from) * bits_of f + (to - from) * bits_of f ≡ (x + to) * bits_of f
bits-split f from to x h = let sum : x + to ≡ x + from + (to - from) = omega arith in rw (sum, add-mul (x + from) (to - from) (bits_of f)) refl

-- a pixel of a run whose part begins at a byte is one of those that begin there
pub part-moved : (f : Format) (bytes : List ℕ) (start x from k : ℕ) → (x + from) * bits_of f % 8 ≡ 0 → from ≤ k →
    pixel_in f bytes start (x + k) ≡ pixel_in f bytes (start + (x + from) * bits_of f / 8) (k - from)
part-moved f bytes start x from k whole h =
    pixel_in-moved f bytes start (x + k) (k - from) ((x + from) * bits_of f / 8) (omega (arith, whole, bits-split f from k x h))

-- a part that is whole bytes ends where its last pixel does
pub part-end : (f : Format) (x from to : ℕ) → (x + from) * bits_of f % 8 ≡ 0 → from ≤ to → (to - from) * bits_of f % 8 ≡ 0 →
    8 * ((x + from) * bits_of f / 8 + row_bytes f (to - from)) ≡ (x + to) * bits_of f
part-end f x from to whole h count = omega (arith, whole, count, bits-split f from to x h)

-- such a part of a row lies in the bits
pub part-fits : (l : Layout) (x y from to : ℕ) → (x + from) * bits_of l.format % 8 ≡ 0 → from ≤ to → (to - from) * bits_of l.format % 8 ≡ 0 →
    x + to ≤ l.size.w → y < l.size.h →
    row_bytes l.format l.size.w ≤ l.stride → row_start l y + (x + from) * bits_of l.format / 8 + row_bytes l.format (to - from) ≤ l.start + l.size.h * l.stride
part-fits l x y from to whole h count hx hy fits = omega (arith, part-end l.format x from to whole h count, run-fits l (x + to) y hx hy fits)

pub length-part : (xs : List ℕ) (from to : ℕ) → to ≤ length xs → length (take (to - from) (drop from xs)) ≡ to - from
length-part xs from to h = grind (arith, places)

-- the pixels that begin at the byte of a part are those of the row from the part on
pub part-values : (l : Layout) (bytes : List ℕ) (x y from at k : ℕ) → (x + from) * bits_of l.format % 8 ≡ 0 →
    at ≡ row_start l y + (x + from) * bits_of l.format / 8 → from ≤ k → x + k < l.size.w → y < l.size.h →
    pixel_in l.format bytes at (k - from) ≡ value_at l.size (values_in l bytes) (x + k) y
part-values l bytes x y from at k whole place from_le hx hy =
    rw place (sym (part-moved l.format bytes (row_start l y) x from k whole from_le)) ∙ sym (get_or-values_in l bytes (x + k) y hx hy)

-- a column past the first of a run
pub past_first : (x k : ℕ) → x + k - x ≡ k
past_first x k = omega arith

-- an item of a part of a list
pub get_or-part : (xs : List ℕ) (from to k : ℕ) → from ≤ k → k < to → get_or (take (to - from) (drop from xs)) (k - from) 0 ≡ get_or xs k 0
get_or-part xs from to k h lt =
    let place : from + (k - from) ≡ k = omega arith in
    get_or-take (to - from) (drop from xs) (k - from) 0 (omega arith) ∙ get_or-drop from xs (k - from) 0 ∙ ap (λ i. get_or xs i 0) place

-- the last byte of a part of a row is one of the row's
part-in-row : (l : Layout) (x from to : ℕ) → (x + from) * bits_of l.format % 8 ≡ 0 → from ≤ to → (to - from) * bits_of l.format % 8 ≡ 0 → x + to ≤ l.size.w →
    row_bytes l.format l.size.w ≤ l.stride →
    (x + from) * bits_of l.format / 8 + row_bytes l.format (to - from) ≤ l.stride
part-in-row l x from to whole h count hx fits = omega (arith, part-end l.format x from to whole h count, bits-le l.format (x + to) l.size.w hx, wide l fits)

-- what a write to the bytes of a part changes, as those of its row
part-only : (start a n at : ℕ) (old new : List ℕ) → at ≡ start + a → ChangesOnly at (at + n) old new → ChangesOnly (start + a) (start + (a + n)) old new
part-only start a n at old new place only = let end : start + (a + n) ≡ at + n = omega arith in rw (end, ← place) only

-- a write that gave the pixels of a part their new values, and changed no byte but those of the part, is the step in the part
pub part-written : (l : Layout) (old new : List ℕ) (x y from to at : ℕ) (change : Point → ℕ → Option ℕ) → row_bytes l.format l.size.w ≤ l.stride →
    (x + from) * bits_of l.format % 8 ≡ 0 → from ≤ to →
    (to - from) * bits_of l.format % 8 ≡ 0 → x + to ≤ l.size.w → y < l.size.h → at ≡ row_start l y + (x + from) * bits_of l.format / 8 →
    ((k : ℕ) → from ≤ k → k < to → pixel_in l.format new at (k - from) ≡
    value_after change (point_at (x + k) y) (value_at l.size (values_in l old) (x + k) y)) →
    ChangesOnly at (at + row_bytes l.format (to - from)) old new → values_in l new ≡ redrawn l.size (values_in l old) (in_row (x + from) (x + to) y) change
part-written l old new x y from to at change fits whole h count hx hy place each only =
    values_in-run l old new (x + from) (x + to) y change hx (λ x' lo hi. here x' (x' - x) (omega arith) (omega arith) (omega arith))
    (λ x' y' hx' hy' out. pixel-stays l old new x y x' y' a (a + n) fits hx' hy hy' (part-in-row l x from to whole h count hx fits)
    (part-only (row_start l y) a n at old new place only)
    (elim out [
      | inl row ↦ inl row
      | inr sides ↦ inr (elim sides [
        | inl before ↦ inl (omega (arith, whole, bits-le l.format (x' + 1) (x + from) (omega arith)))
        | inr after ↦ inr (omega (arith, part-end l.format x from to whole h count, bits-le l.format (x + to) x' after))
      ])
    ]))
  where
    a : ℕ
    a = (x + from) * bits_of l.format / 8

    n : ℕ
    n = row_bytes l.format (to - from)

    here : (x' k : ℕ) → x' ≡ x + k → from ≤ k → k < to →
        pixel_in l.format new (row_start l y) x' ≡ value_after change (point_at x' y) (value_at l.size (values_in l old) x' y)
    here x' k e lo hi = rw e (part-moved l.format new (row_start l y) x from k whole lo ∙ rw (← place) (each k lo hi))

-- and keeps the padding
pub part-padding : (l : Layout) (old new : List ℕ) (x y from to at : ℕ) → row_bytes l.format l.size.w ≤ l.stride → (x + from) * bits_of l.format % 8 ≡ 0 →
    from ≤ to →
    (to - from) * bits_of l.format % 8 ≡ 0 → x + to ≤ l.size.w → y < l.size.h → at ≡ row_start l y + (x + from) * bits_of l.format / 8 →
    ChangesOnly at (at + row_bytes l.format (to - from)) old new → SamePadding l old new
part-padding l old new x y from to at fits whole h count hx hy place only =
    let a = (x + from) * bits_of l.format / 8 in
    let n = row_bytes l.format (to - from) in
    let here = part-only (row_start l y) a n at old new place only in
    SamePadding-write l old new y a (a + n) ((x + to) * bits_of l.format) hy (part-in-row l x from to whole h count hx fits)
    (bits-le l.format (x + to) l.size.w hx) here
    (KeepsAfter-bytes (row_start l y) (a + n) ((x + to) * bits_of l.format) old new (row_start l y + a) here
    (omega (arith, part-end l.format x from to whole h count)))

-- two places of one bit of a byte stay so a part further on
pub same-start : (f : Format) (x sx from : ℕ) → x * bits_of f % 8 ≡ sx * bits_of f % 8 → (x + from) * bits_of f % 8 ≡ 0 → (sx + from) * bits_of f % 8 ≡ 0
same-start f x sx from same whole = omega (arith, same, whole, add-mul x from (bits_of f), add-mul sx from (bits_of f))

-- pixels of whole bytes are whole bytes together
pub whole-bytes : (f : Format) (n : ℕ) → bits_of f % 8 ≡ 0 → n * bits_of f % 8 ≡ 0
whole-bytes B1 n h = absurd (omega (arith, h))
whole-bytes B4 n h = absurd (omega (arith, h))
whole-bytes B8 n h = omega arith
whole-bytes B555 n h = omega arith
whole-bytes B565 n h = omega arith
whole-bytes B24 n h = omega arith
whole-bytes B32 n h = omega arith

-- whole bytes of so many pixels
pub part-bytes : (f : Format) (n at len : ℕ) (old new : List ℕ) → n * bits_of f % 8 ≡ 0 → len ≡ n * bits_of f / 8 → ChangesOnly at (at + len) old new →
    ChangesOnly at (at + row_bytes f n) old new
part-bytes f n at len old new count long only = let same : row_bytes f n ≡ len = omega (arith, count, long) in rw same only

-- pixels to which the bytes of a run were copied have its values
pub copied-pixel : (l : Layout) (new seen : List ℕ) (x y at first len n k : ℕ) → x * bits_of l.format % 8 ≡ 0 → n * bits_of l.format % 8 ≡ 0 →
    first ≡ row_start l y + x * bits_of l.format / 8 → len ≡ n * bits_of l.format / 8 →
    ((i : ℕ) → i < len → get_or new (at + i) 0 ≡ get_or seen (first + i) 0) →
    k < n → x + n ≤ l.size.w → y < l.size.h → pixel_in l.format new at k ≡ value_at l.size (values_in l seen) (x + k) y
copied-pixel l new seen x y at first len n k whole count place long each hk hx hy =
    pixel_in-same l.format new seen at first k (λ c a b. each c (omega (arith, long, count, b, bits-le l.format (k + 1) n (omega arith))))
    ∙ rw place (sym (pixel_in-moved l.format seen (row_start l y) (x + k) k (x * bits_of l.format / 8) (omega (arith, whole, add-mul x k (bits_of l.format)))))
    ∙ sym (get_or-values_in l seen (x + k) y (omega arith) hy)

-- so many pixels that begin with a byte lie in the bits
pub run-room : (l : Layout) (x y n at len bound : ℕ) → Holds l bound → x * bits_of l.format % 8 ≡ 0 → n * bits_of l.format % 8 ≡ 0 → x + n ≤ l.size.w →
    y < l.size.h →
    at ≡ row_start l y + x * bits_of l.format / 8 → len ≡ n * bits_of l.format / 8 → at + len ≤ bound
run-room l x y n at len bound h whole count hx hy place long =
    omega (arith, place, long, whole, count, add-mul x n (bits_of l.format), run-fits l (x + n) y hx hy h.columns, h.rows)
