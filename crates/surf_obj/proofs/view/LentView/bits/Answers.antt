use Rattle.std.proofs.Common.{arith, unsigned_abs}
use Rattle.std.proofs.lemmas.Int.{ints}
use Rattle.surf_obj.proofs.LayoutLemmas.{values_in-fit}
use Rattle.surf_obj.proofs.view.LentView.bits.Goals as goal

pub returns-clause-fits : goal.returns-clause-fits
returns-clause-fits c p h =
    values_in-fit c.args.self.now.layout c.args.self.now.bits.now (unsigned_abs p.x) (unsigned_abs p.y)
    (omega (arith, ints, h.from_left, h.to_right)) (omega (arith, ints, h.from_top, h.to_bottom)) c.args.self.now.items
