use Rattle.std.proofs.Common.{◌≡◌, ℕ, ◌+◌, ◌<◌, ◌≤◌, List, [], ◌∷◌, Some, None, length, take, drop, arith, sym, ◌∙◌, ap, refl, true, false, Bool, cond}
use Rattle.std.proofs.lemmas.Option.{cond_some}
use Rattle.std.proofs.lemmas.List.Elements.{All-from_get_or}
use Rattle.std.proofs.lemmas.Bool.Decides.{nat_tests}
use Rattle.std.proofs.lemmas.List.Splits.{slice_split_first, slice_split_none, length-slice_split}
use Rattle.std.proofs.lemmas.List.Sums.{fails_before_first}
use Rattle.std.specs.Prelude.{position, ◌==◌}
use Rattle.std.specs.List.{slice_split, position_or_len, All}
use Rattle.std.specs.Str.Lines.{strip_carriage_return}
use Rattle.script_words.specs.Lines.{lines_of, without_returns}

-- another line comes after a LF
with_more : (x : List ℕ) (more : List (List ℕ)) → 0 < length more → without_returns (x ∷ more) ≡ strip_carriage_return x ∷ without_returns more
with_more x [] h = absurd (omega arith)
with_more x (y ∷ more) h = refl

some_from_cond : (b : Bool) (x : ℕ) → None ≡ cond b (Some x) None → b ≡ false
some_from_cond true x e = absurd (cc)
some_from_cond false x e = refl

-- up to the first LF, and after it
pub at_end : (text : List ℕ) (i : ℕ) → Some i ≡ position (λ b. b == 10) text →
    lines_of text ≡ strip_carriage_return (take i text) ∷ lines_of (drop (i + 1) text)
at_end text i e =
    let w = cond_some _ _ _ (sym e) in
    let lt : position_or_len (λ b. b == 10) text < length text = grind (arith, nat_tests, w.0) in
    let rest = slice_split (λ b. b == 10) (drop (i + 1) text) in
    let parts : slice_split (λ b. b == 10) text ≡ take i text ∷ rest = rw (← w.1) (slice_split_first (λ b. b == 10) text 0 lt) in
    ap without_returns parts ∙ with_more (take i text) rest (omega (arith, length-slice_split (λ b. b == 10) (drop (i + 1) text)))

pub no_end : (text : List ℕ) → None ≡ position (λ b. b == 10) text → lines_of text ≡ text ∷ []
no_end text e =
    let all = some_from_cond _ _ e in
    let ge : length text ≤ position_or_len (λ b. b == 10) text = grind (arith, nat_tests, all) in
    let none : All (λ x. (x == 10) ≡ false) text =
    All-from_get_or (λ x. (x == 10) ≡ false) text 0 (λ k h. fails_before_first (λ b. b == 10) text k 0 (omega arith)) in
    ap without_returns (slice_split_none (λ b. b == 10) text none)
