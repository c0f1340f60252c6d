use Rattle.std.proofs.Common.{◌≡◌, ℕ, ◌<◌, ◌≤◌, ◌==◌, get_or}
use Rattle.rop_mix.specs.Rop.{rop4_of}
use Rattle.rop_mix.proofs.masked.combine_any.Given as goal

-- the values below i are new, the others old
abbrev pub invariant-loop-i : goal.invariant-loop-i
invariant-loop-i l = record {
  done : (k : ℕ) → k < l.i → get_or l.d k 0 ≡ rop4_of l.rop.code (get_or l.m k 0 == 1) (get_or l.p k 0) (get_or l.s k 0) (get_or l.initial.d k 0) l.bits;
  rest : (k : ℕ) → l.i ≤ k → get_or l.d k 0 ≡ get_or l.initial.d k 0;
}
