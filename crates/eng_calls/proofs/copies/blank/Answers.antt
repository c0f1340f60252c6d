use Rattle.geom_base.specs.Points.{most_side}
use Rattle.eng_calls.proofs.HeldLemmas.{rect_sides, target_sides}
use Rattle.eng_calls.proofs.copies.blank.Goals as goal

pub new-requires : goal.new-requires
new-requires c = rw c.size.ensures (rect_sides c.args.rect.now (record { w = most_side; h = most_side }) c.requires.on_target target_sides c.requires.points)
