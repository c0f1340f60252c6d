use Rattle.std.proofs.Common.{zero, suc, ◌≡◌, ◌∙◌, sym, ap, ℕ, ◌+◌, ◌*◌, ◌/◌, ◌%◌, ◌^◌, ◌<◌, arith}
use Rattle.std.proofs.lemmas.Nat.Bits.{bit_at_cat_low, bit_at_ones, bit_at-zero}
use Rattle.std.specs.Int.{bit_at}

low_half : (n j : ℕ) → j < 4 → bit_at n j ≡ bit_at (n % 16) j
low_half n j h = let halves : n ≡ n / 16 * 2 ^ 4 + n % 16 = omega arith in ap (λ m. bit_at m j) halves ∙ bit_at_cat_low (n / 16) 4 (n % 16) j h

-- two bytes with one low half have its bits
pub low_bits : (m n j : ℕ) → j < 4 → m % 16 ≡ n % 16 → bit_at m j ≡ bit_at n j
low_bits m n j h e = low_half m j h ∙ ap (λ r. bit_at r j) e ∙ sym (low_half n j h)

-- a byte whose bits are all one value
pub bit_at-solid : (value i : ℕ) → value < 2 → i < 8 → bit_at (value * 255) i ≡ value
bit_at-solid zero i h hi = bit_at-zero i
bit_at-solid (suc zero) i h hi = bit_at_ones 8 i hi
bit_at-solid (suc (suc n)) i h hi = absurd (omega arith)
