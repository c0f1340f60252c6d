-- Laws of the values that bits hold, and of padding.
use Rattle.std.proofs.Common.{◌≡◌, ◌∙◌, ℕ, ◌+◌, ◌*◌, ◌<◌, List, length, get_or, refl}
use Rattle.geom_base.specs.GridLaws.{get_or-grid_of, length-grid_of}
use Rattle.surf_obj.specs.Layout.{Layout, row_start, pixel_in, values_in, SamePadding}

pub SamePadding-refl : (l : Layout) (xs : List ℕ) → SamePadding l xs xs
SamePadding-refl l xs = record { outside = λ k out. refl; past = λ k j hj pad. refl }

pub SamePadding-trans : (l : Layout) (xs ys zs : List ℕ) → SamePadding l xs ys → SamePadding l ys zs → SamePadding l xs zs
SamePadding-trans l xs ys zs a b = record { outside = λ k out. b.outside k out ∙ a.outside k out; past = λ k j hj pad. b.past k j hj pad ∙ a.past k j hj pad }

-- the value of a pixel is that of its bits
pub get_or-values_in : (l : Layout) (bytes : List ℕ) (x y : ℕ) → x < l.size.w → y < l.size.h →
    get_or (values_in l bytes) (y * l.size.w + x) 0 ≡ pixel_in l.format bytes (row_start l y) x
unfolding values_in
get_or-values_in l bytes x y hx hy = get_or-grid_of l.size.w l.size.h (λ x y. pixel_in l.format bytes (row_start l y) x) x y hx hy

pub length-values_in : (l : Layout) (bytes : List ℕ) → length (values_in l bytes) ≡ l.size.w * l.size.h
unfolding values_in
length-values_in l bytes = length-grid_of l.size.w l.size.h (λ x y. pixel_in l.format bytes (row_start l y) x)
