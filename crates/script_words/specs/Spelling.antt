-- One word, read by its kind: its value, or its first refusal.
use Rattle.std.specs.Prelude.{ℕ, ℤ, pos, ◌-ℤ◌, unsigned_abs, int_le, List, length, drop, slice_index, Option, Some, None}
use Rattle.std.specs.Prelude.{Result, Ok, Err, Bool, ◌==◌, nat_le, nat_lt, ◌&&◌, ◌||◌, if◌then◌else◌}
use Rattle.std.specs.List.{list_all}
use Rattle.std.specs.Char.{is_digit, is_ascii_alphabetic, is_ascii_alphanumeric}
use Rattle.std.specs.Str.Parse.{digits_value}
use Rattle.script_words.specs.Asking.{◌>>=◌}
use Rattle.script_words.specs.Bounds.{most_digits, most_name_bytes}
use Rattle.script_words.specs.declared.refusal.Refusal.{Refusal}
use Rattle.script_words.specs.declared.refusal.Refusal.TheVariants.{Spelling, Range}

-- one to so many digits of a base, and the number that they spell
abbrev pub digits_in : ℕ → ℕ → List ℕ → Option ℕ
digits_in base most word =
    if nat_lt 0 (length word) && nat_le (length word) most && list_all (λ b. is_digit b base) word then Some (digits_value base word) else None

abbrev pub spelled : {A : Type 0} → Option A → Result A Refusal
spelled None = Err Spelling
spelled (Some a) = Ok a

-- exactly so many hexadecimal digits, in either case
abbrev pub hexadecimal_in : ℕ → List ℕ → Result ℕ Refusal
hexadecimal_in count word = if length word == count then spelled (digits_in 16 count word) else Err Spelling

abbrev pub negated : Option ℕ → Option ℤ
negated None = None
negated (Some n) = Some (pos 0 -ℤ pos n)

abbrev pub positive : Option ℕ → Option ℤ
positive None = None
positive (Some n) = Some (pos n)

-- a minus or none, and decimal digits
abbrev pub plain_number_in : List ℕ → Option ℤ
plain_number_in word = if slice_index word 0 == 45 then negated (digits_in 10 most_digits (drop 1 word)) else positive (digits_in 10 most_digits word)

abbrev pub in_range : ℤ → ℤ → Option ℤ → Result ℤ Refusal
in_range low high None = Err Spelling
in_range low high (Some z) = if int_le low z && int_le z high then Ok z else Err Range

-- a number in a range
abbrev pub number_in : ℤ → ℤ → List ℕ → Result ℤ Refusal
number_in low high word = in_range low high (plain_number_in word)

abbrev pub is_name_byte : ℕ → Bool
is_name_byte b = is_ascii_alphanumeric b || b == 95

-- a letter, and then letters, digits or underscores
abbrev pub is_new_name : List ℕ → Bool
is_new_name word = is_ascii_alphabetic (slice_index word 0) && nat_le (length word) most_name_bytes && list_all is_name_byte word

-- the same for a number that isn't negative
abbrev pub count_in : ℕ → ℕ → List ℕ → Result ℕ Refusal
count_in low high word = do
  z ← number_in (pos low) (pos high) word
  Ok (unsigned_abs z)
