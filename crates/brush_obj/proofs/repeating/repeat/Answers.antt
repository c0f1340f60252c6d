use Rattle.std.proofs.Common.{◌≡◌, ◌≤◌, ◌%◌, inl, inr, ℕ, length, ap, get_or, sym, arith}
use Rattle.std.proofs.Math.Nat.{mod_self, mod-eq_of_lt}
use Rattle.brush_obj.proofs.RowLemmas.{repeated_more, whole_after}
use Rattle.brush_obj.proofs.repeating.repeat.Goals as goal

pub loop-filled-init : goal.loop-filled-init
loop-filled-init c = record {
  start = omega arith;
  place = inl (mod_self c.args.period);
  done = λ k below inside. ap (λ (i : ℕ). get_or c.args.row.now i 0) (sym (mod-eq_of_lt below));
}

pub loop-filled-preserved : goal.loop-filled-preserved
loop-filled-preserved c =
    let e = c.min-count.ensures in
    let copied = c.copy_within.ensures.by_index in
    let count : c.min-count.result ≤ c.loop-filled.filled = omega arith in
    let whole : c.loop-filled.filled % c.args.period ≡ 0 = elim c.loop-filled.invariant.place [
      | inl p ↦ p
      | inr p ↦ absurd (omega arith)
    ] in
    record {
      start = let s = c.loop-filled.invariant.start in omega arith;
      place = rw c.copy_within.ensures.len
          (whole_after c.loop-filled.filled c.min-count.result (length c.loop-filled.row) c.args.period whole c.min-count.ensures);
      done = λ k below inside. repeated_more c.args.row.now c.loop-filled.row c.copy_within.new.self c.args.period c.loop-filled.filled c.min-count.result
          whole count (omega arith) c.loop-filled.invariant.done copied.0 copied.1 k below;
    }
