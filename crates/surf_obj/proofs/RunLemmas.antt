use Rattle.std.proofs.Common.{add-zero, ◌≡◌, ◌≢◌, ◌∙◌, ℕ, ◌+◌, ◌*◌, ◌/◌, ◌<◌, ◌≤◌, Bool, true, false, cond, ◌||◌, ◌&&◌, List}
use Rattle.std.proofs.Common.{length, set, sym, ap, arith, ◌⊎◌, inl, inr, Option, Some, unwrap_or}
use Rattle.std.proofs.lemmas.Bool.{cases_lt, cases_eq}
use Rattle.std.proofs.lemmas.Bool.Decides.{nat_tests}
use Rattle.geom_base.specs.Points.{is_in, point_at}
use Rattle.geom_base.specs.declared.point.Point.{Point}
use Rattle.geom_base.specs.declared.size.Size.{Size}
use Rattle.geom_base.specs.GridLaws.{grid_of-set, same_grid}
use Rattle.pix_format.specs.Value.{bits_of}
use Rattle.surf_obj.specs.InnerBytes.{ChangesOnly}
use Rattle.surf_obj.specs.Layout.{Layout, row_start, row_bytes, pixel_in, values_in}
use Rattle.surf_obj.specs.Runs.{box_of}
use Rattle.geom_base.specs.StepLaws.{length-redrawn, value_at-redrawn, redrawn_more, redrawn_both, redrawn_none}
use Rattle.geom_base.specs.Grid.{value_at}
use Rattle.geom_base.specs.Step.{value_after, redrawn}
use Rattle.surf_obj.specs.LayoutLaws.{length-values_in, get_or-values_in}
use Rattle.surf_obj.proofs.LayoutLemmas.{pixel-stays}

-- the columns of a row from left to before right
abbrev pub in_row : ℕ → ℕ → ℕ → Point → Bool
in_row left right y p = is_in p (box_of left y right (y + 1))

-- no column, and one column more
pub in_row_none : (left y x' y' : ℕ) → in_row left left y (point_at x' y') ≡ false
in_row_none left y x' y' = grind (arith, nat_tests)

in_row_here : (left x y : ℕ) → left ≤ x → in_row left (x + 1) y (point_at x y) ≡ true
in_row_here left x y h = grind (arith, nat_tests)

in_row_others : (left x y x' y' : ℕ) → (x' ≢ x) ⊎ (y' ≢ y) → in_row left (x + 1) y (point_at x' y') ≡ in_row left x y (point_at x' y')
in_row_others left x y x' y' other = grind (arith, nat_tests)

in_row_inside : (left right y x' y' : ℕ) → y' ≡ y → left ≤ x' → x' < right → in_row left right y (point_at x' y') ≡ true
in_row_inside left right y x' y' e from to = grind (arith, nat_tests)

in_row_outside : (left right y x' y' : ℕ) → (y' ≢ y) ⊎ ((x' < left) ⊎ (right ≤ x')) → in_row left right y (point_at x' y') ≡ false
in_row_outside left right y x' y' out = grind (arith, nat_tests)

-- two parts of a row are one
in_row_joined : (left mid right y x' y' : ℕ) → left ≤ mid → mid ≤ right →
    (in_row left right y (point_at x' y') ≡ (in_row left mid y (point_at x' y') || in_row mid right y (point_at x' y')))
    × ((in_row left mid y (point_at x' y') && in_row mid right y (point_at x' y')) ≡ false)
in_row_joined left mid right y x' y' a b = (grind (arith, nat_tests), grind (arith, nat_tests))

-- a step in one part of a row and then in the next is a step in both
pub row-joined : (size : Size) (old mid new : List ℕ) (left at right y : ℕ) (change : Point → ℕ → Option ℕ) → length old ≡ size.w * size.h → left ≤ at →
    at ≤ right →
    mid ≡ redrawn size old (in_row left at y) change → new ≡ redrawn size mid (in_row at right y) change → new ≡ redrawn size old (in_row left right y) change
row-joined size old mid new left at right y change long a b first second =
    second ∙ ap (λ vs. redrawn size vs (in_row at right y) change) first
    ∙ redrawn_both size old (in_row left at y) (in_row at right y) (in_row left right y) change long (λ x' y' hx hy. in_row_joined left at right y x' y' a b)

-- three steps in the parts of a row
pub row-three : (size s1 s2 : Size) (old first second new : List ℕ) (x from to len y : ℕ) (change : Point → ℕ → Option ℕ) → s1 ≡ size → s2 ≡ size →
    length old ≡ size.w * size.h → from ≤ to → to ≤ len →
    first ≡ redrawn size old (in_row (x + 0) (x + from) y) change → second ≡ redrawn s1 first (in_row (x + from) (x + to) y) change →
    new ≡ redrawn s2 second (in_row (x + to) (x + len) y) change →
    new ≡ redrawn size old (in_row x (x + len) y) change
row-three size s1 s2 old first second new x from to len y change e1 e2 long a b one two three =
    row-joined size old second new x (x + to) (x + len) y change long (omega arith) (omega arith)
    (row-joined size old first second x (x + from) (x + to) y change long (omega arith) (omega arith) (rw add-zero at one) (rw e1 at two)) (rw e2 at three)

-- a step in no column
pub row-none : (size : Size) (old : List ℕ) (left y : ℕ) (change : Point → ℕ → Option ℕ) → length old ≡ size.w * size.h →
    old ≡ redrawn size old (in_row left left y) change
row-none size old left y change long = sym (redrawn_none size old (in_row left left y) change long (λ x' y' hx hy. in_row_none left y x' y'))

-- one pixel more of a row, under any change that gives the value written
pub row-more : (size : Size) (old now next : List ℕ) (left x y v : ℕ) (change : Point → ℕ → Option ℕ) → length old ≡ size.w * size.h → x < size.w → y < size.h →
    left ≤ x →
    now ≡ redrawn size old (in_row left x y) change → change (point_at x y) (value_at size old x y) ≡ Some v → next ≡ set now (y * size.w + x) v →
    next ≡ redrawn size old (in_row left (x + 1) y) change
row-more size old now next left x y v change long hx hy hl done rule write =
    let after : value_after change (point_at x y) (value_at size old x y) ≡ v = ap (λ (o : Option ℕ). unwrap_or o (value_at size old x y)) rule in
    write ∙ rw (done, ← after)
    (redrawn_more size old (in_row left x y) (in_row left (x + 1) y) change x y long hx hy (in_row_here left x y hl)
    (λ x' y' hx' hy' other. in_row_others left x y x' y' other))

-- a write that gave one pixel a value, where the others of its row and the bytes without its bits stayed
pub values_in-put : (l : Layout) (old new : List ℕ) (x y v : ℕ) → row_bytes l.format l.size.w ≤ l.stride → x < l.size.w → y < l.size.h →
    row_bytes l.format (x + 1) ≤ l.stride →
    pixel_in l.format new (row_start l y) x ≡ v → ((k : ℕ) → k ≢ x → pixel_in l.format new (row_start l y) k ≡ pixel_in l.format old (row_start l y) k) →
    ChangesOnly (row_start l y + x * bits_of l.format / 8) (row_start l y + row_bytes l.format (x + 1)) old new →
    values_in l new ≡ set (values_in l old) (y * l.size.w + x) v
unfolding values_in
values_in-put l old new x y v fits hx hy he here others only =
    grid_of-set l.size.w l.size.h (λ x y. pixel_in l.format old (row_start l y) x) (λ x y. pixel_in l.format new (row_start l y) x) x y v hx hy here
    (λ x' y' hx' hy' other. elim (cases_eq y' y) [
      | inl row ↦ rw row (others x' (elim other [ inl column ↦ column | inr apart ↦ absurd (apart row) ]))
      | inr apart ↦ pixel-stays l old new x y x' y' (x * bits_of l.format / 8) (row_bytes l.format (x + 1)) fits hx' hy hy' he only (inl apart)
    ])

-- a change of some pixels of a row, where all others stayed
pub values_in-run : (l : Layout) (old new : List ℕ) (left right y : ℕ) (change : Point → ℕ → Option ℕ) → right ≤ l.size.w →
    ((x' : ℕ) → left ≤ x' → x' < right →
    pixel_in l.format new (row_start l y) x' ≡ value_after change (point_at x' y) (value_at l.size (values_in l old) x' y)) →
    ((x' y' : ℕ) → x' < l.size.w → y' < l.size.h → (y' ≢ y) ⊎ ((x' < left) ⊎ (right ≤ x')) →
    pixel_in l.format new (row_start l y') x' ≡ pixel_in l.format old (row_start l y') x') →
    values_in l new ≡ redrawn l.size (values_in l old) (in_row left right y) change
unfolding values_in
values_in-run l old new left right y change within here others =
    let after = redrawn l.size (values_in l old) (in_row left right y) change in
    sym (same_grid l.size.w l.size.h (λ x y. pixel_in l.format new (row_start l y) x) after
    (length-redrawn l.size (values_in l old) (in_row left right y) change ∙ length-values_in l old)
    (λ x' y' hx' hy'. value_at-redrawn l.size (values_in l old) (in_row left right y) change x' y' (length-values_in l old) hx' hy' ∙ at x' y' hx' hy'))
  where
    stays : (x' y' : ℕ) → x' < l.size.w → y' < l.size.h → (y' ≢ y) ⊎ ((x' < left) ⊎ (right ≤ x')) →
        cond (in_row left right y (point_at x' y')) (value_after change (point_at x' y') (value_at l.size (values_in l old) x' y'))
        (value_at l.size (values_in l old) x' y') ≡ pixel_in l.format new (row_start l y') x'
    stays x' y' hx' hy' out = rw (in_row_outside left right y x' y' out) (get_or-values_in l old x' y' hx' hy' ∙ sym (others x' y' hx' hy' out))

    at : (x' y' : ℕ) → x' < l.size.w → y' < l.size.h →
        cond (in_row left right y (point_at x' y')) (value_after change (point_at x' y') (value_at l.size (values_in l old) x' y'))
        (value_at l.size (values_in l old) x' y') ≡ pixel_in l.format new (row_start l y') x'
    at x' y' hx' hy' = elim (cases_eq y' y) [
      | inr apart ↦ stays x' y' hx' hy' (inl apart)
      | inl row ↦ elim (cases_lt x' left) [
        | inl before ↦ stays x' y' hx' hy' (inr (inl before))
        | inr from ↦ elim (cases_lt x' right) [
          | inr past ↦ stays x' y' hx' hy' (inr (inr past))
          | inl to ↦ rw (in_row_inside left right y x' y' row from to, row) (sym (here x' from to))
        ]
      ]
    ]
