use Rattle.std.proofs.Common.{◌≡◌, ℕ, ◌<◌, List, length, Err, true, arith, refl}
use Rattle.std.specs.Prelude.{nat_lt}
use Rattle.std.proofs.lemmas.Bool.Decides.{nat_tests}
use Rattle.desk_io.specs.Sources.{most_bytes}
use Rattle.desk_run.specs.declared.status.InputRefusal.TheVariants.{Size}
use Rattle.desk_run.specs.Input.{checked}

-- an input of more bytes than an input may have is refused for its size
pub too_long : (bytes : List ℕ) → most_bytes < length bytes → checked bytes ≡ Err Size
unfolding checked
too_long bytes h = let test : nat_lt most_bytes (length bytes) ≡ true = grind (arith, nat_tests) in rw test refl
