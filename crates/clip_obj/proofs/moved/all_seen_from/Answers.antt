use Rattle.std.proofs.Common.{rules}
use Rattle.geom_base.specs.Points.{moved_rect}
use Rattle.clip_obj.specs.Clip.{to_origin}
use Rattle.clip_obj.proofs.MovedLemmas.{items_moved}
use Rattle.clip_obj.proofs.moved.all_seen_from.Goals as goal

pub returns : goal.returns
returns c = items_moved (λ r. moved_rect r (to_origin c.args.at.now)) c.args.rects.items c.deref_mut.result.now c.move_to_origin.new.rects c.args.rects.len
    (search rules) c.deref_mut.ensures.value c.move_to_origin.ensures
