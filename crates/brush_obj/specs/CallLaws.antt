-- Laws of copies: the raster operation that takes the source as it is.
use Rattle.std.proofs.Common.{◌≡◌, ℕ, ◌+◌, ◌*◌, ◌/◌, ◌%◌, ◌^◌, ◌<◌, true, false, Some, None, refl, sym, ap, arith, ◌==◌}
use Rattle.std.specs.Int.{bit_at}
use Rattle.std.proofs.lemmas.Nat.Bits.{bit_at-lt}
use Rattle.geom_base.specs.declared.point.Point.{Point}
use Rattle.pix_format.specs.Value.{bits_of}
use Rattle.rop_mix.specs.Needs.{source_needed, mask_needed, pattern_needed}
use Rattle.rop_mix.specs.Rop.{rop_bit, rop3_of}
use Rattle.rop_mix.specs.BitLaws.{same_number_with_bits}
use Rattle.rop_mix.specs.BitLaws.{checked_below}
use Rattle.brush_obj.specs.declared.blt_call.BltCall.{BltCall}
use Rattle.brush_obj.specs.declared.copy_call.CopyCall.{CopyCall}
use Rattle.brush_obj.specs.Calls.{Operands, blt_of, new_of_blt, new_of_copy, not_there, point_across, source_alone}

-- the source's bit alone
copy_bit : (p s d : ℕ) → p < 2 → s < 2 → d < 2 → s ≡ rop_bit 204 p s d
copy_bit p s d hp hs hd =
    let place : 4 * p + 2 * s + d < 8 = omega arith in
    let checked = checked_below 8 (λ k. bit_at 204 k == k / 2 % 2) refl (4 * p + 2 * s + d) place in
    number (bit_at 204 (4 * p + 2 * s + d)) p s d checked hs hd
  where
    number : (b p s d : ℕ) → (b == (4 * p + 2 * s + d) / 2 % 2) ≡ true → s < 2 → d < 2 → s ≡ b
    number b p s d e hs hd = grind arith

pub copied_value : (p s d bits : ℕ) → s < 2 ^ bits → rop3_of 204 p s d bits ≡ s
copied_value p s d bits fits =
    sym (same_number_with_bits bits (λ i. rop_bit 204 (bit_at p i) (bit_at s i) (bit_at d i)) s (λ i. bit_at-lt _ _) fits
    (λ i h. copy_bit (bit_at p i) (bit_at s i) (bit_at d i) (bit_at-lt _ _) (bit_at-lt _ _) (bit_at-lt _ _)))

pub source_alone_needs : source_needed source_alone ≡ true
unfolding source_needed
source_alone_needs = refl

spares_pattern : pattern_needed source_alone ≡ false
unfolding pattern_needed
spares_pattern = refl

source_alone_spares : mask_needed source_alone ≡ false
unfolding mask_needed
source_alone_spares = refl

-- a copy asks nothing of mask and pattern
pub copy_alone : (c : CopyCall) (o : Operands) (p : Point) (d : ℕ) → new_of_blt (blt_of c) o p d ≡ new_of_copy c o p d
copy_alone c o p d = rw (source_alone_spares, spares_pattern) refl

-- the raster operation of the source alone gives the source's value
pub blt-source : (c : BltCall) (o : Operands) (p : Point) (d v : ℕ) → c.rop.code ≡ source_alone → o.source (point_across c.rect c.src p) ≡ Some v →
    v < 2 ^ bits_of o.format → new_of_blt c o p d ≡ Some v
blt-source c o p d v code e fits =
    rw (code, source_alone_needs, source_alone_spares, e) (ap (λ (n : ℕ). Some n) (copied_value _ v d (bits_of o.format) fits))

-- a copy gives the source's value
pub copy-source : (c : CopyCall) (o : Operands) (p : Point) (d v : ℕ) → o.source (point_across c.rect c.src p) ≡ Some v → v < 2 ^ bits_of o.format →
    new_of_copy c o p d ≡ Some v
copy-source c o p d v e fits = blt-source (blt_of c) (record o { mask = not_there; pattern = λ q. 0 }) p d v refl e fits

-- and nothing where there is none
pub copy-none : (c : CopyCall) (o : Operands) (p : Point) (d : ℕ) → o.source (point_across c.rect c.src p) ≡ None → new_of_copy c o p d ≡ None
copy-none c o p d e = rw (source_alone_needs, e) refl
