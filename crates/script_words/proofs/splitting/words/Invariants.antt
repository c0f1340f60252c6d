use Rattle.std.proofs.Common.{◌≡◌, length, map}
use Rattle.std.specs.Prelude.{filter, nat_lt}
use Rattle.script_words.proofs.splitting.words.Given as goal

abbrev pub invariant-loop-part : goal.invariant-loop-part
invariant-loop-part l = map (λ w. w.now) l.words.items ≡ filter (λ w. nat_lt 0 (length w)) (map (λ w. w.now) l.yielded)
