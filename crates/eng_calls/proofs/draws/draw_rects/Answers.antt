use Rattle.std.proofs.Common.{◌∙◌, refl, sym, arith, subst}
use Rattle.geom_base.specs.Points.{no_rect, LiesIn}
use Rattle.surf_obj.specs.Lent.{size_of}
use Rattle.surf_obj.specs.LentLaws.{OnlyPixels-refl, OnlyPixels-trans, OnlyPixels-size, OnlyPixels-format}
use Rattle.eng_calls.proofs.DrawLemmas.{drawn_next, drawn_end}
use Rattle.eng_calls.proofs.draws.draw_rects.Goals as goal

pub loop-i-init : goal.loop-i-init
loop-i-init g c = record { values = refl; only = OnlyPixels-refl c.args.dst.now }

pub draw-requires-clause-fits : goal.draw-requires-clause-fits
draw-requires-clause-fits g c = subst (g.D.DrawsRect.fits c.args.call.now)
    (sym (OnlyPixels-format c.args.dst.now c.loop-i.dst c.loop-i.invariant.only)) c.requires.fits

pub draw-requires-clause-inside : goal.draw-requires-clause-inside
draw-requires-clause-inside g c = subst (LiesIn _) (sym (OnlyPixels-size c.args.dst.now c.loop-i.dst c.loop-i.invariant.only))
    (c.requires.inside c.loop-i.i no_rect (omega arith))

pub loop-i-preserved : goal.loop-i-preserved
loop-i-preserved g c = record {
  values = drawn_next (g.D.DrawsRect.gives c.args.call.now) c.args.dst.now c.loop-i.dst c.draw.new.dst c.loop-i.invariant.only c.args.rects.now c.loop-i.i
      (omega arith) c.loop-i.invariant.values c.draw.ensures.values;
  only = OnlyPixels-trans c.args.dst.now c.loop-i.dst c.draw.new.dst c.loop-i.invariant.only c.draw.ensures.only;
}

pub returns-clause-values : goal.returns-clause-values
returns-clause-values g c = drawn_end (size_of c.args.dst.now) _ c.args.rects.now c.loop-i.i _ (omega arith) ∙ c.loop-i.invariant.values
