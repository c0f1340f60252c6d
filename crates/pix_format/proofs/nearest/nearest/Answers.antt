use Rattle.std.proofs.Common.{◌≡◌, ◌+◌, ◌*◌, length, get_or, refl, subst, arith, ap}
use Rattle.pix_format.specs.Colour.{distance}
use Rattle.pix_format.specs.Value.{black}
use Rattle.pix_format.proofs.nearest.nearest.Goals.{then-red_distance-best, else-red_distance-best}
use Rattle.pix_format.proofs.TableLemmas.{IsFirstBest-nearest, IsLeast, IsLeast-none, IsLeast-more}
use Rattle.pix_format.proofs.nearest.nearest.Goals as goal

pub loop-i-init : goal.loop-i-init
loop-i-init c = IsLeast-none c.args.table.now c.args.colour _ (ap (λ d. d * 256) c.distance-best.ensures.value)

pub loop-i-preserved : goal.loop-i-preserved
loop-i-preserved c =
    let entry = get_or c.args.table.now c.loop-i.i black in
    let more = IsLeast-more c.args.table.now c.args.colour c.loop-i.i c.loop-i.best (distance entry c.args.colour) c.loop-i-test.true
    (omega arith) c.loop-i.invariant refl in
    elim c.if-red_distance-best.branch [
      | then-red_distance-best w ↦ rw (w.best-is, w.min-best.ensures, w.distance.ensures.value) more
      | else-red_distance-best w ↦ rw (w.best-is) (subst (λ b. IsLeast c.args.table.now c.args.colour (c.loop-i.i + 1) b) (omega arith) more)
    ]

pub returns-clause-nearest : goal.returns-clause-nearest
returns-clause-nearest c =
    let at_end : c.loop-i.i ≡ length c.args.table.now = omega arith in
    rw at_end at c.loop-i.invariant.nearest

pub returns-clause-index : goal.returns-clause-index
returns-clause-index c =
    let at_end : c.loop-i.i ≡ length c.args.table.now = omega arith in
    IsFirstBest-nearest c.args.table.now c.args.colour _ (rw at_end at c.loop-i.invariant.nearest)
