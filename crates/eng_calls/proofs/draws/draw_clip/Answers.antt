use Rattle.std.proofs.Common.{◌≡◌, ◌≤◌, ◌∙◌, ℕ, length, take, drop, ap, sym, subst}
use Rattle.std.proofs.Math.Nat.{min-le_right}
use Rattle.geom_base.specs.Points.{LiesIn}
use Rattle.surf_obj.specs.Lent.{size_of}
use Rattle.surf_obj.specs.LentLaws.{OnlyPixels-trans}
use Rattle.clip_obj.specs.Clip.{Clip}
use Rattle.clip_obj.specs.Order.{ordered}
use Rattle.eng_calls.proofs.DrawLemmas.{batch_of, batch_next, all_of_rest}
use Rattle.eng_calls.proofs.draws.draw_clip.Goals as goal

pub loop-batch-preserved : goal.loop-batch-preserved
loop-batch-preserved g c =
    let i = c.loop-batch.invariant in
    let e = c.next_batch-len.ensures in
    let n = c.next_batch-len.result.0 in
    let left = c.loop-batch.clip.left in
    let rest : c.next_batch-len.new.self.left ≡ drop n left = ap (λ (v : Clip). v.left) e.rest in
    let fits : n ≤ length left = subst (λ (k : ℕ). k ≤ length left) (sym e.number) (min-le_right (length c.loop-batch.batch) (length left)) in
    record {
      values = batch_next (g.D.DrawsRect.gives c.args.call.now) c.args.dst.now c.loop-batch.dst c.draw_rects.new.dst i.only
          (take n c.next_batch-len.new.out) left c.next_batch-len.new.self.left (ordered c.args.direction c.args.clip.now.rects) n
          (batch_of n left c.next_batch-len.new.out c.loop-batch.batch fits e.batch) rest i.values c.draw_rects.ensures.values;
      only = OnlyPixels-trans c.args.dst.now c.loop-batch.dst c.draw_rects.new.dst i.only c.draw_rects.ensures.only;
      rects = ap (λ (v : Clip). v.rects) e.rest ∙ i.rects;
      bounds = ap (λ (v : Clip). v.bounds) e.rest ∙ i.bounds;
      inside = all_of_rest (λ r. LiesIn r (size_of c.args.dst.now)) n left c.next_batch-len.new.self.left rest i.inside;
    }
