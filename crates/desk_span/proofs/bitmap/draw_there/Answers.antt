use Rattle.desk_span.proofs.BitmapLemmas.{beside_seen, drawn_seen, reached_there}
use Rattle.desk_span.proofs.bitmap.draw_there.Goals as goal

pub returns-in-Ok-clause-ok : goal.returns-in-Ok-clause-ok
returns-in-Ok-clause-ok g c s alone among =
    drawn_seen s c.args.command.now c.args.target.now _ c.in_ok-sight.sight (rw c.size.ensures.size at c.size.ensures.places)
    (rw c.size.ensures.size at c.in_ok-sight.ensures.sees s alone)
    (c.in-Ok.ensures.ok _ (beside_seen s c.args.command.now.target c.args.target.now c.in_ok-sight.sight c.args.bitmaps.now c.args.brushes.now among))

pub returns-clause-meets : goal.returns-clause-meets
returns-clause-meets g c = reached_there c.args.command.now c.args.target.now c.in-Err.ensures.meets
