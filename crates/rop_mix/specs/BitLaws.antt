-- Laws of numbers by their bits.
use Rattle.std.proofs.Common.{◌≡◌, ℕ, zero, suc, ◌+◌, ◌-◌, ◌*◌, ◌^◌, ◌<◌, ◌≤◌, Bool, true, refl, sym, ◌∙◌, arith, inl, inr, subst}
use Rattle.std.specs.Int.{bit_at}
use Rattle.std.specs.List.{range_with_len, list_all}
use Rattle.std.proofs.lemmas.Bool.{cases_lt}
use Rattle.std.proofs.lemmas.List.Sums.{AllPass-from_list_all}
use Rattle.std.proofs.lemmas.List.Elements.{All-get_or}
use Rattle.std.proofs.lemmas.List.FromFn.{length-range_with_len, get_or-range_with_len}
use Rattle.std.proofs.lemmas.Nat.Bits.{bit_at-lt, bit_at_lowest, bit_at_cat_low, bit_at_cat_high, same_from_bits_below}
use Rattle.std.proofs.Math.Nat.{pow-suc, mul-le-mul_right, sub_self}
use Rattle.rop_mix.specs.Bits.{number_with_bits}
use Rattle.rop_mix.specs.Rop.{rop_bit, rop3_of}

-- so many bits make a number below that power of two
pub number_with_bits-lt : (n : ℕ) (f : ℕ → ℕ) → ((i : ℕ) → f i < 2) → number_with_bits n f < 2 ^ n
number_with_bits-lt zero f small = omega arith
number_with_bits-lt (suc n) f small =
    let top : f n * 2 ^ n ≤ 1 * 2 ^ n = mul-le-mul_right (2 ^ n) (omega (arith, small n)) in
    omega (arith, top, number_with_bits-lt n f small, pow-suc 2 n)

lowest_of_small : (x n : ℕ) → x < 2 → bit_at x (n - n) ≡ x
lowest_of_small x n h = rw (sub_self n) (bit_at_lowest x ∙ omega arith)

-- and its bits are those
pub bit_at-number_with_bits : (n : ℕ) (f : ℕ → ℕ) → ((i : ℕ) → f i < 2) → (i : ℕ) → i < n → bit_at (number_with_bits n f) i ≡ f i
bit_at-number_with_bits zero f small i h = absurd (omega arith)
bit_at-number_with_bits (suc n) f small i h = elim (cases_lt i n) [
  | inl below ↦ bit_at_cat_low (f n) n (number_with_bits n f) i below ∙ bit_at-number_with_bits n f small i below
  | inr from ↦ let top : n ≡ i = omega arith in
      subst (λ j. bit_at (f n * 2 ^ n + number_with_bits n f) j ≡ f j) top
      (bit_at_cat_high (f n) n (number_with_bits n f) n (number_with_bits-lt n f small) (omega arith) ∙ lowest_of_small (f n) n (small n))
]

-- a number of so many bits with these bits is that number
pub same_number_with_bits : (n : ℕ) (f : ℕ → ℕ) (r : ℕ) → ((i : ℕ) → f i < 2) → r < 2 ^ n → ((i : ℕ) → i < n → bit_at r i ≡ f i) → r ≡ number_with_bits n f
same_number_with_bits n f r small below each = same_from_bits_below n r (number_with_bits n f) below (number_with_bits-lt n f small)
    (λ i h. each i h ∙ sym (bit_at-number_with_bits n f small i h))

-- the same bits make the same number
pub number_with_bits-same : (n : ℕ) (f g : ℕ → ℕ) → ((i : ℕ) → f i ≡ g i) → number_with_bits n f ≡ number_with_bits n g
number_with_bits-same zero f g same = refl
number_with_bits-same (suc n) f g same = rw (same n, number_with_bits-same n f g same) refl

-- a result has no more bits than it is asked for
pub rop3_of-lt : (code p s d bits : ℕ) → rop3_of code p s d bits < 2 ^ bits
rop3_of-lt code p s d bits = number_with_bits-lt bits (λ i. rop_bit code (bit_at p i) (bit_at s i) (bit_at d i)) (λ i. bit_at-lt _ _)

-- a test that was computed at all numbers below n holds at each
pub checked_below : (n : ℕ) (t : ℕ → Bool) → list_all t (range_with_len 0 n) ≡ true → (i : ℕ) → i < n → t i ≡ true
checked_below n t all i h =
    subst (λ k. t k ≡ true) (get_or-range_with_len 0 n i 0 h ∙ omega arith)
    (All-get_or (λ k. t k ≡ true) (range_with_len 0 n) i 0 (rw (length-range_with_len 0 n) h) (AllPass-from_list_all t (range_with_len 0 n) all))
