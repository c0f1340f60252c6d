use Rattle.std.proofs.Common.{arith, ◌∙◌, get_or, ◌≤◌, ◌+◌, length, refl}
use Rattle.std.proofs.lemmas.Simd.{get_or-chunk, length-put_chunk}
use Rattle.rop_mix.specs.Rop.{rop3_of}
use Rattle.rop_mix.proofs.LaneLemmas.{stored_done, stored_rest}
use Rattle.rop_mix.proofs.lanes.combine_lanes.Goals as goal

pub loop-d-preserved : goal.loop-d-preserved
loop-d-preserved g c =
    let row = c.apply_lanes-row.result in
    let room : c.loop-d.i + 8 ≤ length c.loop-d.d = omega arith in
    record {
      within = rw (length-put_chunk c.loop-d.i c.loop-d.d row) room;
      done = stored_done (λ k. rop3_of c.args.code (g.P.Operand.at c.args.p.now k) (g.S.Operand.at c.args.s.now k)
          (get_or c.args.d.now k 0) c.args.bits) 8 c.loop-d.i c.loop-d.d row
          c.apply_lanes-row.ensures.lanes room c.loop-d.invariant.done
          (λ j h. c.apply_lanes-row.ensures.values j h
          ∙ rw (
            c.lanes-in-loop-d.ensures.values j h,
            c.lanes.ensures.values j h,
            get_or-chunk c.loop-d.i 8 c.loop-d.d j 0 h,
            c.loop-d.invariant.rest (c.loop-d.i + j) (omega arith),
          ) refl);
      rest = λ k h. stored_rest 8 c.loop-d.i c.loop-d.d row k c.apply_lanes-row.ensures.lanes h ∙ c.loop-d.invariant.rest k (omega arith);
    }
