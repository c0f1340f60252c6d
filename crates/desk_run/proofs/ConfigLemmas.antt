use Rattle.std.proofs.Common.{◌≡◌, ℕ, ◌≤◌, ◌<◌, List, length, take, Err, false, arith, sym, ◌∙◌, refl, ap, inl, inr, length-take, take_all}
use Rattle.std.specs.Prelude.{◌==◌, min, ◌⊎◌}
use Rattle.std.proofs.lemmas.Bool.{cases_lt}
use Rattle.std.proofs.lemmas.Bool.Decides.{nat_tests}
use Rattle.desk_run.specs.declared.status.InputRefusal.TheVariants.{Config}
use Rattle.desk_run.specs.Config.{config_of}

-- a configuration of another number of lines is refused
not_seven : (lines : List (List ℕ)) → (length lines == 7) ≡ false → config_of lines ≡ Err (Config 0)
unfolding config_of
not_seven lines e = rw e refl

longer : (n : ℕ) (lines : List (List ℕ)) → 8 ≤ n → 8 < length lines → config_of (take n lines) ≡ Err (Config 0)
longer n lines h l = not_seven (take n lines) (grind (arith, nat_tests, length-take n lines))

past_eight : (count : ℕ) (lines : List (List ℕ)) → 8 < count → (8 < length lines) ⊎ (length lines ≤ 8) → config_of (take 8 lines) ≡ config_of (take count lines)
past_eight count lines h (inr l) = rw (take_all 8 lines l, take_all count lines (omega arith)) refl
past_eight count lines h (inl l) = longer 8 lines (omega arith) l ∙ sym (longer count lines (omega arith) l)

split : (count : ℕ) (lines : List (List ℕ)) → (count < 9) ⊎ (9 ≤ count) → config_of (take (min count 8) lines) ≡ config_of (take count lines)
split count lines (inl h) = let e : min count 8 ≡ count = omega arith in ap (λ n. config_of (take n lines)) e
split count lines (inr h) =
    let e : min count 8 ≡ 8 = omega arith in
    ap (λ n. config_of (take n lines)) e ∙ past_eight count lines (omega arith) (cases_lt 8 (length lines))

-- eight lines tell what more lines tell
pub eight_tell : (count : ℕ) (lines : List (List ℕ)) → config_of (take (min count 8) lines) ≡ config_of (take count lines)
eight_tell count lines = split count lines (cases_lt count 9)
