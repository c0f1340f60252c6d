-- Laws of grids.
use Rattle.std.proofs.Common.{◌≡◌, ◌≢◌, ℕ, zero, suc, ◌+◌, ◌*◌, ◌/◌, ◌%◌, ◌<◌, List, length, get_or, set, refl, sym, ◌∙◌, arith, subst, ◌⊎◌, inl, inr}
use Rattle.std.proofs.lemmas.List.FromFn.{length-map-range_with_len, get_or-map-range_with_len, fill_by_all}
use Rattle.std.proofs.lemmas.Nat.{mul-add-lt, div-mul-add, mod-mul-add, div-add-mod', div_below, mod_below, same_from_place}
use Rattle.std.proofs.lemmas.Bool.{cases_eq}
use Rattle.std.proofs.lemmas.List.{length-set, get_or-set_same, get_or-set_other}
use Rattle.std.proofs.Math.Nat.{mul_comm}
use Rattle.geom_base.specs.Grid.{grid_of}

pub length-grid_of : (w h : ℕ) (f : ℕ → ℕ → ℕ) → length (grid_of w h f) ≡ w * h
unfolding grid_of
length-grid_of w h f = length-map-range_with_len (λ i. f (i % w) (i / w)) 0 (w * h)

pub get_or-grid_of : (w h : ℕ) (f : ℕ → ℕ → ℕ) (x y : ℕ) → x < w → y < h → get_or (grid_of w h f) (y * w + x) 0 ≡ f x y
unfolding grid_of
get_or-grid_of w h f x y hx hy =
    get_or-map-range_with_len (λ i. f (i % w) (i / w)) 0 (w * h) (y * w + x) (y * w + x) 0 (mul-add-lt y w x h hy hx) (omega arith)
    ∙ rw (mod-mul-add y w x hx, div-mul-add y w x hx) refl

pub wide_of : (w h k : ℕ) → k < w * h → 0 < w
wide_of zero h k hk = absurd (omega arith)
wide_of (suc w) h k hk = omega arith

-- a list of that length with these values is the grid
pub same_grid : (w h : ℕ) (f : ℕ → ℕ → ℕ) (xs : List ℕ) → length xs ≡ w * h → ((x y : ℕ) → x < w → y < h → get_or xs (y * w + x) 0 ≡ f x y) → xs ≡ grid_of w h f
unfolding grid_of
same_grid w h f xs long each = fill_by_all (λ i. f (i % w) (i / w)) xs (w * h) 0 long (λ k hk.
    let wide : 0 < w = wide_of w h k hk in
    let column : k % w < w = mod_below k w wide in
    let row : k / w < h = div_below k w h wide (rw (mul_comm h w) hk) in
    subst (λ i. get_or xs i 0 ≡ f (k % w) (k / w)) (div-add-mod' k w) (each (k % w) (k / w) column row))

-- two places are one or another
pub same_place_or : (x y x' y' : ℕ) → ((x' ≡ x) × (y' ≡ y)) ⊎ ((x' ≢ x) ⊎ (y' ≢ y))
same_place_or x y x' y' = elim (cases_eq x' x) [
  | inl a ↦ elim (cases_eq y' y) [ inl b ↦ inl (a, b) | inr b ↦ inr (inr b) ]
  | inr a ↦ inr (inl a)
]

-- two places of a grid that are apart have two places in its list
pub place-apart : (x y x' y' w : ℕ) → x < w → x' < w → (x' ≢ x) ⊎ (y' ≢ y) → y' * w + x' ≢ y * w + x
place-apart x y x' y' w hx hx' other e =
    let same = same_from_place y' x' y x w hx' hx e in
    elim other [ inl a ↦ a same.1 | inr b ↦ b same.0 ]

-- a grid that differs at one place only is the list with that item set
pub grid_of-set : (w h : ℕ) (f g : ℕ → ℕ → ℕ) (x y v : ℕ) → x < w → y < h → g x y ≡ v →
    ((x' y' : ℕ) → x' < w → y' < h → (x' ≢ x) ⊎ (y' ≢ y) → g x' y' ≡ f x' y') → grid_of w h g ≡ set (grid_of w h f) (y * w + x) v
grid_of-set w h f g x y v hx hy here others =
    sym (same_grid w h g (set (grid_of w h f) (y * w + x) v) (length-set (grid_of w h f) (y * w + x) v ∙ length-grid_of w h f)
    (λ x' y' hx' hy'. elim (same_place_or x y x' y') [
      | inl same ↦ rw (same.0, same.1) (get_or-set_same (grid_of w h f) (y * w + x) v 0 (rw (length-grid_of w h f) (mul-add-lt y w x h hy hx)) ∙ sym here)
      | inr other ↦ get_or-set_other (grid_of w h f) (y * w + x) (y' * w + x') v 0 (place-apart x y x' y' w hx hx' other)
          ∙ get_or-grid_of w h f x' y' hx' hy' ∙ sym (others x' y' hx' hy' other)
    ]))
