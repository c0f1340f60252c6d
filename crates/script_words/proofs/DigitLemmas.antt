use Rattle.std.proofs.Common.{◌≡◌, ℕ, ◌+◌, ◌*◌, ◌<◌, ◌≤◌, ◌^◌, true, List, Some, length, take, get_or, arith, ◌∙◌, sym, add-one}
use Rattle.std.proofs.lemmas.Bool.Decides.{nat_tests}
use Rattle.std.proofs.Math.Nat.{pow-le-pow_right, mul-le-mul_left, pow-suc}
use Rattle.std.proofs.lemmas.Int.Digits.{digits_value_more, digits_value-lt}
use Rattle.std.proofs.lemmas.List.Folds.{list_all_more}
use Rattle.std.specs.List.{list_all}
use Rattle.std.specs.Char.{is_digit, digit_value}
use Rattle.std.specs.Str.Parse.{digits_value}
use Rattle.script_words.specs.Bounds.{most_digits, greatest_number}
use Rattle.script_words.specs.Spelling.{digits_in}
use Rattle.script_words.specs.SpellingLaws.{all_digits}
use Rattle.std.proofs.lemmas.Option.{cond_some}

-- a front of digits, with the number that it spells
pub record DigitsTo (base : ℕ) (front : List ℕ) (count value : ℕ) : Type 0 where
  pub digits : list_all (λ b. is_digit b base) front ≡ true
  pub number : value ≡ digits_value base front
  pub small : value < 16 ^ count

-- one more digit leaves the number small
pub step_small : (base value digit i : ℕ) → base ≤ 16 → digit < base → value < 16 ^ i → value * base + digit < 16 ^ (i + 1)
step_small base value digit i b d v =
    let a : value * base ≤ value * 16 = mul-le-mul_left value b in
    let p : 16 ^ (i + 1) ≡ 16 ^ i * 16 = rw (add-one) (pow-suc 16 i) in
    rw p (omega (arith, a))

-- at most twelve digits fit
pub power_fits : (i : ℕ) → i ≤ 12 → 16 ^ i ≤ 16 ^ 12
power_fits i h = pow-le-pow_right {n = 16} (omega arith) h

-- one more digit of a word
pub one_digit_more : (base : ℕ) (word : List ℕ) (i value digit : ℕ) → base ≤ 16 → i < length word → digit < base → digit ≡ digit_value (get_or word i 0) →
    DigitsTo base (take i word) i value → DigitsTo base (take (i + 1) word) (i + 1) (value * base + digit)
one_digit_more base word i value digit b l d e front =
    let test : is_digit (get_or word i 0) base ≡ true = grind (arith, nat_tests, e) in
    record {
      digits = list_all_more (λ c. is_digit c base) word i 0 l ∙ cc;
      number = cc (digits_value_more base word i l);
      small = step_small base value digit i b d front.small;
    }

-- decimal digits spell no number over the greatest
pub within_greatest : (word : List ℕ) (n : ℕ) → Some n ≡ digits_in 10 most_digits word → n ≤ greatest_number
within_greatest word n e =
    let w = cond_some _ _ _ (sym e) in
    let short : length word ≤ 9 = grind (arith, nat_tests, w.0) in
    let digits : list_all (λ c. is_digit c 10) word ≡ true = grind (arith, nat_tests, w.0) in
    let bound = digits_value-lt 10 word (all_digits 10 word digits) in
    let power = pow-le-pow_right {n = 10} (omega arith) short in
    omega (arith, bound, power, w.1)
