use Rattle.std.proofs.Common.{◌≡◌, ◌+◌, ◌∙◌, sym, ap, arith, Some}
use Rattle.surf_obj.specs.Lent.{values_of, size_of}
use Rattle.surf_obj.specs.InnerRuns.{given}
use Rattle.surf_obj.specs.LentLaws.{OnlyPixels-refl, OnlyPixels-trans, OnlyPixels-size, length-values_of}
use Rattle.surf_obj.proofs.RunLemmas.{row-none, row-more}
use Rattle.surf_obj.proofs.PartLemmas.{past_first}
use Rattle.surf_obj.proofs.lent.LentSurf.draw_each.Goals as goal

pub loop-i-init : goal.loop-i-init
loop-i-init g c =
    let old = c.args.self.now in
    record {
      values = row-none (size_of old) (values_of old) (c.args.x + c.args.from) c.args.y (given (g.R.Run.gives c.args.run.now) c.args.x) (length-values_of old);
      only = OnlyPixels-refl old;
    }

pub loop-i-preserved : goal.loop-i-preserved
loop-i-preserved g c =
    let old = c.args.self.now in
    let gives = g.R.Run.gives c.args.run.now in
    let size = OnlyPixels-size old c.loop-i.self c.loop-i.invariant.only in
    let next : c.args.x + (c.loop-i.i + 1) ≡ c.args.x + c.loop-i.i + 1 = omega arith in
    record {
      values = rw next (row-more (size_of old) (values_of old) (values_of c.loop-i.self) (values_of c.set_pixel.new.self) (c.args.x + c.args.from)
          (c.args.x + c.loop-i.i) c.args.y
          c.value.result (given gives c.args.x) (length-values_of old) (omega arith) (omega arith) (omega arith) c.loop-i.invariant.values
          (ap (λ k. Some (gives k)) (past_first c.args.x c.loop-i.i) ∙ ap (λ v. Some v) (sym c.value.ensures.value)) (rw (← size) c.set_pixel.ensures.values));
      only = OnlyPixels-trans old c.loop-i.self c.set_pixel.new.self c.loop-i.invariant.only c.set_pixel.ensures.only;
    }
