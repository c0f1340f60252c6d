-- Laws of fields: how great a value is.
use Rattle.std.proofs.Common.{ℕ, ◌<◌, ◌^◌, List, arith}
use Rattle.std.specs.Prelude.{IfOk, nat_le}
use Rattle.std.proofs.lemmas.Bool.Decides.{nat_tests}
use Rattle.std.proofs.lemmas.Result.{IfOk-at_ok}
use Rattle.pix_format.specs.declared.format.Format.{Format}
use Rattle.pix_format.specs.declared.format.Format.TheVariants.{B1, B4, B8, B555, B565, B24, B32}
use Rattle.pix_format.specs.Value.{bits_of}
use Rattle.script_words.specs.AskingLaws.{if_read, if_asked}
use Rattle.script_words.specs.Spelling.{hexadecimal_in}
use Rattle.script_words.specs.SpellingLaws.{hexadecimal_small}
use Rattle.script_names.specs.Fields.{value_in}

-- a value fits its format
pub value_fits : (format : Format) (word : List ℕ) → IfOk (value_in format word) (λ v. v < 2 ^ bits_of format)
value_fits B1 word = if_read _ (hexadecimal_in 1 word) _ (λ v e. if_asked (λ v. v < 2 ^ 1) (nat_le v 1) _ _ (λ t. grind (arith, nat_tests, t)))
value_fits B4 word = if_read _ (hexadecimal_in 1 word) _ (λ v e. IfOk-at_ok (λ v. v < 2 ^ 4) e (hexadecimal_small 1 word))
value_fits B8 word = if_read _ (hexadecimal_in 2 word) _ (λ v e. IfOk-at_ok (λ v. v < 2 ^ 8) e (hexadecimal_small 2 word))
value_fits B555 word = if_read _ (hexadecimal_in 4 word) _ (λ v e. IfOk-at_ok (λ v. v < 2 ^ 16) e (hexadecimal_small 4 word))
value_fits B565 word = if_read _ (hexadecimal_in 4 word) _ (λ v e. IfOk-at_ok (λ v. v < 2 ^ 16) e (hexadecimal_small 4 word))
value_fits B24 word = if_read _ (hexadecimal_in 6 word) _ (λ v e. IfOk-at_ok (λ v. v < 2 ^ 24) e (hexadecimal_small 6 word))
value_fits B32 word = if_read _ (hexadecimal_in 8 word) _ (λ v e. IfOk-at_ok (λ v. v < 2 ^ 32) e (hexadecimal_small 8 word))
