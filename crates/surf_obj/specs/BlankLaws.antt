-- Laws of bytes that are all 0.
use Rattle.std.proofs.Common.{Bool, true, false, cond, ◌==◌, ◌≡◌, ◌∙◌, ℕ, zero, suc, ◌+◌, ◌*◌, ◌/◌, ◌%◌, ◌-◌, get_or, replicate, refl, sym, ap}
use Rattle.std.proofs.lemmas.List.{length-replicate}
use Rattle.std.proofs.lemmas.Nat.Bits.{bit_at-zero}
use Rattle.std.specs.Int.{bit_at}
use Rattle.geom_base.specs.GridLaws.{same_grid}
use Rattle.pix_format.specs.declared.format.Format.{Format}
use Rattle.pix_format.specs.declared.format.Format.TheVariants.{B1, B4, B8, B555, B565, B24, B32}
use Rattle.surf_obj.specs.Layout.{Layout, row_start, pixel_in, values_in}

-- an item of a list of zeros
get_or-zeros : (n i : ℕ) → get_or {A = ℕ} (replicate n 0) i 0 ≡ 0
get_or-zeros zero i = refl
get_or-zeros (suc n) zero = refl
get_or-zeros (suc n) (suc i) = get_or-zeros n i

half : (b : Bool) → cond b (0 / 16) (0 % 16) ≡ 0
half true = refl
half false = refl

-- a pixel of bytes that are all 0
pixel_in-zeros : (f : Format) (n start x : ℕ) → pixel_in f (replicate n 0) start x ≡ 0
pixel_in-zeros B1 n start x = ap (λ b. bit_at b (7 - x % 8)) (get_or-zeros n (start + x / 8)) ∙ bit_at-zero (7 - x % 8)
pixel_in-zeros B4 n start x = rw (get_or-zeros n (start + x / 2)) (half (x % 2 == 0))
pixel_in-zeros B8 n start x = get_or-zeros n (start + x)
pixel_in-zeros B555 n start x = simp get_or-zeros
pixel_in-zeros B565 n start x = simp get_or-zeros
pixel_in-zeros B24 n start x = simp get_or-zeros
pixel_in-zeros B32 n start x = simp get_or-zeros

-- the values of bytes that are all 0
pub values_in-zeros : (l : Layout) (n : ℕ) → values_in l (replicate n 0) ≡ replicate (l.size.w * l.size.h) 0
unfolding values_in
values_in-zeros l n =
    sym (same_grid l.size.w l.size.h (λ x y. pixel_in l.format (replicate n 0) (row_start l y) x) (replicate (l.size.w * l.size.h) 0)
    (length-replicate (l.size.w * l.size.h) 0)
    (λ x y hx hy. get_or-zeros (l.size.w * l.size.h) (y * l.size.w + x) ∙ sym (pixel_in-zeros l.format n (row_start l y) x)))
