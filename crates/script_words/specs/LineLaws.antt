-- Laws of lines: how many there are.
use Rattle.std.proofs.Common.{◌≡◌, ℕ, ◌+◌, ◌≤◌, ◌<◌, List, [], ◌∷◌, Some, length, drop, arith, ap, refl, length-drop}
use Rattle.std.proofs.lemmas.List.Splits.{length-slice_split}
use Rattle.std.proofs.lemmas.List.Sums.{count_by-le-length}
use Rattle.std.proofs.lemmas.Option.{cond_some}
use Rattle.std.proofs.lemmas.Bool.Decides.{nat_tests}
use Rattle.std.specs.Prelude.{◌==◌}
use Rattle.std.specs.List.{slice_split, position_or_len}
use Rattle.std.specs.Str.{bytes_eq}
use Rattle.script_words.specs.Lines.{lines_of, without_returns, lines_before}

length-without_returns : (lines : List (List ℕ)) → length (without_returns lines) ≡ length lines
length-without_returns [] = refl
length-without_returns (x ∷ []) = refl
length-without_returns (x ∷ y ∷ more) = let h = length-without_returns (y ∷ more) in omega (arith, h)

-- a text has at most one line more than bytes
pub lines_fit : (text : List ℕ) → length (lines_of text) ≤ length text + 1
lines_fit text = omega (
  arith,
  length-without_returns (slice_split (λ b. b == 10) text),
  length-slice_split (λ b. b == 10) text,
  count_by-le-length (λ b. b == 10) text,
)

-- the lines before and behind a line that was found are not more than the bytes of the text
pub room_behind : (n : ℕ) (wanted text : List ℕ) (left : List (List ℕ)) → lines_before wanted (lines_of text) ≡ Some n → left ≡ drop (n + 1) (lines_of text) →
    n + length left ≤ length text
room_behind n wanted text left e d =
    let found = cond_some _ _ _ e in
    let within : position_or_len (λ line. bytes_eq line wanted) (lines_of text) < length (lines_of text) = grind (arith, nat_tests, found.0) in
    omega (arith, within, found.1, ap length d, length-drop (n + 1) (lines_of text), lines_fit text)
