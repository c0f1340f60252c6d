-- Looking for a line.
use Rattle.std.proofs.Common.{◌≡◌, ℕ, ◌+◌, List, [], ◌∷◌, Some, None, length, drop, false, true, arith, sym, ◌∙◌, ap}
use Rattle.std.proofs.lemmas.List.{drop-drop}
use Rattle.std.proofs.lemmas.Bool.Decides.{nat_tests}
use Rattle.std.specs.List.{position_or_len}
use Rattle.std.specs.Str.{bytes_eq}
use Rattle.script_words.specs.Lines.{lines_before}

-- so many lines are passed over, none of which is wanted, and these are left
pub record PassedTo (wanted : List ℕ) (lines : List (List ℕ)) (i : ℕ) (left : List (List ℕ)) : Type 0 where
  pub none : position_or_len (λ line. bytes_eq line wanted) lines ≡ i + position_or_len (λ line. bytes_eq line wanted) left
  pub rest : drop i lines ≡ left
  pub place : i + length left ≡ length lines

pub passed_more : {wanted : List ℕ} {lines left : List (List ℕ)} {i : ℕ} {line : List ℕ} → PassedTo wanted lines i (line ∷ left) →
    bytes_eq line wanted ≡ false → PassedTo wanted lines (i + 1) left
passed_more {wanted} {lines} {left} {i} {line} so_far e = record {
  none = grind (arith, so_far.none, e);
  rest = sym (drop-drop 1 i lines) ∙ ap (drop 1) so_far.rest;
  place = omega (arith, so_far.place);
}

pub found_here : {wanted : List ℕ} {lines left : List (List ℕ)} {i : ℕ} {line : List ℕ} → PassedTo wanted lines i (line ∷ left) → bytes_eq line wanted ≡ true →
    (lines_before wanted lines ≡ Some i) × (left ≡ drop (i + 1) lines)
found_here {wanted} {lines} {left} {i} {line} so_far e =
    (grind (arith, nat_tests, so_far.none, so_far.place, e), sym (sym (drop-drop 1 i lines) ∙ ap (drop 1) so_far.rest))

pub found_nowhere : {wanted : List ℕ} {lines : List (List ℕ)} {i : ℕ} → PassedTo wanted lines i [] → lines_before wanted lines ≡ None
found_nowhere {wanted} {lines} {i} so_far = grind (arith, nat_tests, so_far.none, so_far.place)
