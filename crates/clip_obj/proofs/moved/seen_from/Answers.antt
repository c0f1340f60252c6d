use Rattle.std.proofs.Common.{arith}
use Rattle.std.proofs.lemmas.Int.{ints, to_z-of_z}
use Rattle.geom_base.specs.Points.{moved_rect}
use Rattle.geom_base.specs.PointLaws.{same_edges}
use Rattle.clip_obj.specs.Clip.{to_origin}
use Rattle.clip_obj.proofs.moved.seen_from.Goals as goal

pub returns : goal.returns
returns c = same_edges _ (moved_rect c.args.rect.now (to_origin c.args.at.now))
    (grind (arith, ints, to_z-of_z, c.requires.left)) (grind (arith, ints, to_z-of_z, c.requires.top))
    (grind (arith, ints, to_z-of_z, c.requires.right)) (grind (arith, ints, to_z-of_z, c.requires.bottom))
