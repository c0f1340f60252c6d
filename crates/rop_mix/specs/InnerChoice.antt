-- Inside the crate: how the code makes a value out of whole words.
use Rattle.std.specs.Prelude.{ℕ, ◌-◌, ◌*◌, ◌^◌, bit_and, bit_or}
use Rattle.std.specs.Int.{bit_at}

-- where the mask has a one the bit of one value, else that of the other
abbrev pub chosen : ℕ → ℕ → ℕ → ℕ
chosen mask a b = bit_or (bit_and mask a) (bit_and (2 ^ 32 - 1 - mask) b)

-- a bit of the code in all places
abbrev pub spread_of : ℕ → ℕ → ℕ
spread_of code k = bit_at code k * (2 ^ 32 - 1)
