-- Laws of spelling: how great the number of a word is.
use Rattle.std.proofs.Common.{◌≡◌, ℕ, ℤ, pos, ◌<◌, ◌≤◌, ◌^◌, true, List, [], ◌∷◌, Option, Some, None, length, arith, sym, refl}
use Rattle.std.specs.Prelude.{IfOk, ◌≤ℤ◌, int_le, ◌&&◌, ◌==◌}
use Rattle.std.specs.List.{list_all}
use Rattle.std.specs.Char.{is_digit}
use Rattle.std.specs.Str.Parse.{AllDigits}
use Rattle.std.proofs.lemmas.Bool.{and_parts}
use Rattle.std.proofs.lemmas.Bool.Decides.{nat_tests}
use Rattle.std.proofs.lemmas.Int.{ints}
use Rattle.std.proofs.lemmas.Int.Digits.{digits_value-lt}
use Rattle.std.proofs.lemmas.Option.{cond_some}
use Rattle.std.proofs.lemmas.Result.{IfOk-at_ok}
use Rattle.script_words.specs.Spelling.{digits_in, hexadecimal_in, spelled, in_range, plain_number_in, number_in, count_in}
use Rattle.script_words.specs.AskingLaws.{if_read, if_either}

pub all_digits : (base : ℕ) (word : List ℕ) → list_all (λ c. is_digit c base) word ≡ true → AllDigits base word
all_digits base [] e = tt
all_digits base (x ∷ xs) e = (grind (arith, nat_tests, e), all_digits base xs (grind (arith, nat_tests, e)))

-- so many hexadecimal digits spell a number of so many bits
pub below_power : (word : List ℕ) (n count : ℕ) → length word ≡ count → Some n ≡ digits_in 16 count word → n < 16 ^ count
below_power word n count l e =
    let w = cond_some _ _ _ (sym e) in
    let digits : list_all (λ c. is_digit c 16) word ≡ true = grind (arith, nat_tests, w.0) in
    let bound = digits_value-lt 16 word (all_digits 16 word digits) in
    rw (← l, ← w.1) bound

-- what is spelled, where something is
if_spelled : {A : Type 0} {P : A → Type 0} (o : Option A) → ((x : A) → o ≡ Some x → P x) → IfOk (spelled o) P
if_spelled None h = tt
if_spelled (Some x) h = h x refl

if_in_range : (low high : ℤ) (o : Option ℤ) → IfOk (in_range low high o) (λ z. (low ≤ℤ z) × (z ≤ℤ high))
if_in_range low high None = tt
if_in_range low high (Some z) = if_either _ (int_le low z && int_le z high) _ _
    (λ t. let w = and_parts (int_le low z) (int_le z high) t in (grind (arith, ints, w.0), grind (arith, ints, w.1))) (λ t. tt)

pub hexadecimal_small : (count : ℕ) (word : List ℕ) → IfOk (hexadecimal_in count word) (λ n. n < 16 ^ count)
hexadecimal_small count word = if_either _ (length word == count) _ _ (λ l. if_spelled (digits_in 16 count word)
    (λ n e. below_power word n count (grind (arith, nat_tests, l)) (sym e))) (λ l. tt)

-- a number in a range is in it
pub number_within : (low high : ℤ) (word : List ℕ) → IfOk (number_in low high word) (λ z. (low ≤ℤ z) × (z ≤ℤ high))
number_within low high word = if_in_range low high (plain_number_in word)

pub count_within : (low high : ℕ) (word : List ℕ) → IfOk (count_in low high word) (λ n. (low ≤ n) × (n ≤ high))
count_within low high word = if_read _ (number_in (pos low) (pos high) word) _ (λ z e.
    let w = IfOk-at_ok (λ z. (pos low ≤ℤ z) × (z ≤ℤ pos high)) e (number_within (pos low) (pos high) word) in
    (omega (arith, ints, w.0, w.1), omega (arith, ints, w.0, w.1)))
