use Rattle.std.proofs.Common.{◌∙◌}
use Rattle.surf_obj.specs.Lent.{size_of, values_of}
use Rattle.surf_obj.specs.InnerRuns.{given}
use Rattle.surf_obj.specs.LentLaws.{OnlyPixels-size, length-values_of}
use Rattle.surf_obj.proofs.RunLemmas.{row-three}
use Rattle.surf_obj.proofs.lent.LentSurf.draw_run.Goals as goal

pub returns-clause-values : goal.returns-clause-values
returns-clause-values g c =
    let old = c.args.self.now in
    let one = c.draw_each.new.self in
    let two = c.draw_whole.new.self in
    let first = OnlyPixels-size old one c.draw_each.ensures.only in
    let second = OnlyPixels-size one two c.draw_whole.ensures.only ∙ first in
    let part = c.whole_part-from in
    row-three (size_of old) (size_of one) (size_of two) (values_of old) (values_of one) (values_of two)
    (values_of c.draw_each-2.new.self) c.args.x part.result.0 part.result.1 c.args.len c.args.y
    (given (g.R.Run.gives c.args.run.now) c.args.x) first second
    (length-values_of old) part.ensures.order part.ensures.within c.draw_each.ensures.values c.draw_whole.ensures.values c.draw_each-2.ensures.values
