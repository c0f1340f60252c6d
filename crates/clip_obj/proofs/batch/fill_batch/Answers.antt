use Rattle.std.proofs.Common.{arith}
use Rattle.clip_obj.proofs.BatchLemmas.{batch_next}
use Rattle.clip_obj.proofs.batch.fill_batch.Goals as goal

pub loop-i-preserved : goal.loop-i-preserved
loop-i-preserved c = (
  batch_next c.args.direction c.args.rects.now c.args.out.now c.loop-i.out c.args.from c.args.len c.loop-i.i c.rect_at.result
      (omega arith) c.requires.left c.requires.places c.loop-i.invariant.0 c.rect_at.ensures.rect,
  c.rect_at.ensures.band,
)
