-- Numbers that are read back from a text.
use Rattle.std.proofs.Common.{◌≡◌, ℕ, zero, suc, ◌<◌, ◌≤◌, ◌/◌, ◌%◌, ◌^◌, List, [], ◌∷◌, ◌++◌, length, decimal, refl, sym, ap, arith, ℤ, pos, negsuc}
use Rattle.std.proofs.Common.{Bool, true, false, cond}
use Rattle.std.specs.Prelude.{◌==◌}
use Rattle.std.proofs.lemmas.Bool.Decides.{nat_tests}
use Rattle.std.proofs.lemmas.Nat.{mod_below}
use Rattle.std.proofs.lemmas.Fmt.{decimal_injective, decimal_is_IsNumeral}
use Rattle.std.specs.Fmt.{digit_glyph, digits, digits_onto, signed_decimal}
use Rattle.std.specs.Str.Parse.{AllDigits}
use Rattle.std.specs.Char.{digit_value}
use lib.Signed.{mag}

-- lists that are the same have the same heads and tails
pub same_head : (a b : ℕ) (x y : List ℕ) → a ∷ x ≡ b ∷ y → a ≡ b
same_head a b x y e = cc

pub same_tail : (a b : ℕ) (x y : List ℕ) → a ∷ x ≡ b ∷ y → x ≡ y
same_tail a b x y e = cc

-- a byte that ends a number
abbrev pub EndsNumber : ℕ → Type 0
EndsNumber a = 10 ≤ digit_value a

-- digits and what stands behind them
digits_back : (ds es : List ℕ) (a b : ℕ) (x y : List ℕ) → AllDigits 10 ds → AllDigits 10 es → EndsNumber a → EndsNumber b → ds ++ a ∷ x ≡ es ++ b ∷ y →
    (ds ≡ es) × (a ∷ x ≡ b ∷ y)
digits_back [] [] a b x y p q k l e = (refl, e)
digits_back [] (c ∷ es) a b x y p q k l e = absurd (let h = ap digit_value (same_head a c x (es ++ b ∷ y) e) in omega (arith, h, q.0, k))
digits_back (c ∷ ds) [] a b x y p q k l e = absurd (let h = ap digit_value (same_head c b (ds ++ a ∷ x) y e) in omega (arith, h, p.0, l))
digits_back (c ∷ ds) (d ∷ es) a b x y p q k l e =
    let (same, rest) = digits_back ds es a b x y p.1 q.1 k l (same_tail c d (ds ++ a ∷ x) (es ++ b ∷ y) e) in
    let h = same_head c d (ds ++ a ∷ x) (es ++ b ∷ y) e in
    (rw (h, same) refl, rest)

-- a number and what stands behind it
pub decimal_back : (m n : ℕ) (a b : ℕ) (x y : List ℕ) → m < 2 ^ 64 → n < 2 ^ 64 → EndsNumber a → EndsNumber b → decimal m ++ a ∷ x ≡ decimal n ++ b ∷ y →
    (m ≡ n) × (a ∷ x ≡ b ∷ y)
decimal_back m n a b x y p q k l e =
    let (same, rest) = digits_back (decimal m) (decimal n) a b x y (decimal_is_IsNumeral m p).0.1 (decimal_is_IsNumeral n q).0.1 k l e in
    (decimal_injective m n p q same, rest)

-- a number is no sign
no_sign : (n : ℕ) (x y : List ℕ) → n < 2 ^ 64 → decimal n ++ x ≡ 45 ∷ y → ⊥
no_sign n x y p e = first (decimal n) (decimal_is_IsNumeral n p).0.0 (decimal_is_IsNumeral n p).0.1 e where
  first : (ds : List ℕ) → 0 < length ds → AllDigits 10 ds → ds ++ x ≡ 45 ∷ y → ⊥
  first [] long all e = omega (arith, long)
  first (c ∷ ds) long all e = let h = ap digit_value (same_head c 45 (ds ++ x) y e) in omega (arith, h, all.0)

-- a number of whatever size begins with no byte past the digits
module _ (b : ℕ) (x y : List ℕ) (high : 57 < b) where
  glyph_low : (n : ℕ) → digit_glyph false (n % 10) ≤ 57
  glyph_low n = let small = mod_below n 10 (omega arith) in grind (arith, nat_tests, small)

  first : (n : ℕ) (zs : List ℕ) → digit_glyph false (n % 10) ∷ zs ≡ b ∷ y → ⊥
  first n zs e = let h = same_head (digit_glyph false (n % 10)) b zs y e in omega (arith, h, glyph_low n, high)

  split : (k n : ℕ) (acc : List ℕ) (q : Bool) → (digits_onto k 10 false (n / 10) (digit_glyph false (n % 10) ∷ acc) ++ x ≡ b ∷ y → ⊥) →
      cond q (digit_glyph false (n % 10) ∷ acc) (digits_onto k 10 false (n / 10) (digit_glyph false (n % 10) ∷ acc)) ++ x ≡ b ∷ y → ⊥
  split k n acc true rest e = first n (acc ++ x) e
  split k n acc false rest e = rest e

  begins : (k n : ℕ) (acc : List ℕ) → digits_onto (suc k) 10 false n acc ++ x ≡ b ∷ y → ⊥
  begins zero n acc = split zero n acc (n / 10 == 0) (first n (acc ++ x))
  begins (suc k) n acc = split (suc k) n acc (n / 10 == 0) (begins k (n / 10) (digit_glyph false (n % 10) ∷ acc))

  pub no_letter : (n : ℕ) → decimal n ++ x ≡ b ∷ y → ⊥
  unfolding digits
  no_letter n e = begins 63 n [] e

-- a line: no byte of it ends a line
abbrev pub IsLine : List ℕ → Type 0
IsLine [] = Unit {0}
IsLine (c ∷ cs) = (10 < c) × IsLine cs

-- a line and what stands behind it
pub line_back : (l m x y : List ℕ) → IsLine l → IsLine m → l ++ 10 ∷ x ≡ m ++ 10 ∷ y → (l ≡ m) × (x ≡ y)
line_back [] [] x y p q e = (refl, same_tail 10 10 x y e)
line_back [] (c ∷ m) x y p q e = absurd (let h = same_head 10 c x (m ++ 10 ∷ y) e in omega (arith, h, q.0))
line_back (c ∷ l) [] x y p q e = absurd (let h = same_head c 10 (l ++ 10 ∷ x) y e in omega (arith, h, p.0))
line_back (c ∷ l) (d ∷ m) x y p q e =
    let (same, rest) = line_back l m x y p.1 q.1 (same_tail c d (l ++ 10 ∷ x) (m ++ 10 ∷ y) e) in
    let h = same_head c d (l ++ 10 ∷ x) (m ++ 10 ∷ y) e in
    (rw (h, same) refl, rest)

pub line_append : (l m : List ℕ) → IsLine l → IsLine m → IsLine (l ++ m)
line_append [] m p q = q
line_append (c ∷ l) m p q = (p.0, line_append l m p.1 q)

-- a number with a sign
pub signed_back : (m n : ℤ) (a b : ℕ) (x y : List ℕ) → mag m < 2 ^ 63 → mag n < 2 ^ 63 → EndsNumber a → EndsNumber b →
    signed_decimal m ++ a ∷ x ≡ signed_decimal n ++ b ∷ y → (m ≡ n) × (a ∷ x ≡ b ∷ y)
signed_back (pos m) (pos n) a b x y p q k l e =
    let (same, rest) = decimal_back m n a b x y (omega (arith, p)) (omega (arith, q)) k l e in (ap pos same, rest)
signed_back (negsuc m) (negsuc n) a b x y p q k l e =
    let (same, rest) = decimal_back (suc m) (suc n) a b x y (omega (arith, p)) (omega (arith, q)) k l
    (same_tail 45 45 (decimal (suc m) ++ a ∷ x) (decimal (suc n) ++ b ∷ y) e) in
    let less : m ≡ n = omega (arith, same) in
    (ap negsuc less, rest)
signed_back (pos m) (negsuc n) a b x y p q k l e = absurd (no_sign m (a ∷ x) (decimal (suc n) ++ b ∷ y) (omega (arith, p)) e)
signed_back (negsuc m) (pos n) a b x y p q k l e = absurd (no_sign n (b ∷ y) (decimal (suc m) ++ a ∷ x) (omega (arith, q)) (sym e))
