use Rattle.std.proofs.Common.{◌∙◌, ap, option_map}
use Rattle.std.proofs.lemmas.Result.{on_ok_weaker}
use Rattle.copy_port.specs.Given.{picture_of_view}
use Rattle.eng_calls.proofs.LentLemmas.{copy_is_source}
use Rattle.eng_calls.proofs.on_copy.draw_lent.Goals as goal

pub returns-in-Some-clause-values : goal.returns-in-Some-clause-values
returns-in-Some-clause-values c = on_ok_weaker c.draw_on_copy.result (λ drew. (
  c.with_source-lent.result,
  record {
    source = ap (option_map picture_of_view) c.with_source-lent.ensures.source
        ∙ copy_is_source c.args.held.now c.in-Some.part c.args.inputs.now c.view-view.result c.in-Some.is c.view-view.ensures.bits c.view-view.ensures.layout;
    mask = c.with_source-lent.ensures.mask;
    xlate = c.with_source-lent.ensures.xlate;
    table = c.with_source-lent.ensures.table;
    brush = c.with_source-lent.ensures.brush;
  },
  drew,
)) c.draw_on_copy.ensures.values
