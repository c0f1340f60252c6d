use Rattle.std.proofs.Common.{None, ◌≡◌, ◌/◌, ◌<◌, refl, arith}
use Rattle.brush_obj.specs.Calls.{paint_operands}
use Rattle.brush_obj.specs.Ink.{ink_at}
use Rattle.blt_kernel.proofs.KernelLemmas.{paint_gives}
use Rattle.blt_kernel.proofs.paint.paint_drawing.Goals as goal

pub returns-clause-values : goal.returns-clause-values
returns-clause-values c size format values p d =
    let below : c.rop3.result < 256 = omega arith in
    let code : c.of.result.code / 256 ≡ c.rop3.result = omega arith in
    paint_gives (record {
      rop = c.of.result;
      source = None;
      mask = None;
      ink = c.args.ink;
      origin = c.args.call.now.origin;
    }) c.args.call.now size format values c.rop3.result p d refl code refl
    (λ s. c.rop3.ensures (paint_operands (ink_at c.args.ink) format) p s d)
