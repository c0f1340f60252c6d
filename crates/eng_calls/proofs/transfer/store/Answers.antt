use Rattle.std.proofs.Common.{◌+◌, length, refl}
use Rattle.geom_base.specs.Points.{corner_of, no_rect}
use Rattle.surf_obj.specs.Layout.{values_in}
use Rattle.copy_port.specs.Laws.{draws_nowhere}
use Rattle.eng_calls.proofs.TransferLemmas.{in_target_after, next_rect, part_after, rect_spare, rect_stopped}
use Rattle.eng_calls.proofs.transfer.store.Goals as goal

pub loop-i-init : goal.loop-i-init
loop-i-init g c = draws_nowhere _ _ _ _ _ _ (λ p. refl)

pub store_rect-requires-clause-part : goal.store_rect-requires-clause-part
store_rect-requires-clause-part g c = part_after _ _ _ _ _ _ _ _ _ c.args.part.now c.loop-i.invariant c.requires.part

pub store_rect-requires-clause-inside : goal.store_rect-requires-clause-inside
store_rect-requires-clause-inside g c =
    in_target_after _ c.args.part.now.target _ _ _ _ _ _ _ _ _ c.loop-i.invariant (c.requires.inside c.loop-i.i no_rect c.loop-i-test.true)

pub store_rect-requires-clause-spare : goal.store_rect-requires-clause-spare
store_rect-requires-clause-spare g c =
    rw c.loop-i.auto.room (rect_spare _ _ _ _ _ _ _ (length c.args.room.now) c.args.rects.now c.loop-i.i no_rect c.loop-i-test.true c.requires.spare
    c.loop-i.invariant)

pub returns-in_default : goal.returns-in_default
returns-in_default g c =
    rect_stopped _ _ (length c.args.room.now) c.args.rects.now (c.loop-i.i + 1) _ _ _ _ _ c.in_default.not-Done
    (next_rect c.args.part.now.target (corner_of c.args.part.now.rect) c.args.part.now.layout.size (values_in c.args.part.now.layout c.args.bits.now)
    _ _ _ _ _ _ (length c.args.room.now) c.args.rects.now c.loop-i.i no_rect _ c.loop-i-test.true c.loop-i.invariant
    (rw c.loop-i.auto.room at c.store_rect.ensures))

pub loop-i-preserved : goal.loop-i-preserved
loop-i-preserved g c =
    next_rect c.args.part.now.target (corner_of c.args.part.now.rect) c.args.part.now.layout.size (values_in c.args.part.now.layout c.args.bits.now)
    _ _ _ _ _ _ (length c.args.room.now) c.args.rects.now c.loop-i.i no_rect _ c.loop-i-test.true c.loop-i.invariant
    (rw c.loop-i.auto.room at c.in-Done.ensures)
