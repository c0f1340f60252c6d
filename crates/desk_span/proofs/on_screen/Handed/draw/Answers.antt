use Rattle.std.specs.Prelude.{option_map}
use Rattle.std.proofs.Common.{◌∙◌, ap}
use Rattle.desk_span.specs.InnerDrawing.{seen_of_view}
use Rattle.desk_span.proofs.HandedLemmas.{can_as, routed_as}
use Rattle.desk_span.proofs.on_screen.Handed.draw.Goals as goal

pub route_at-outcome-requires-clause-can : goal.route_at-outcome-requires-clause-can
route_at-outcome-requires-clause-can g c =
    let h = c.args.self.now in
    can_as h.call.now c.as_ref.result c.as_ref-2.result _ _ h.xlate.now h.table.now c.args.brush.now.face
    (ap (option_map seen_of_view) c.as_ref.ensures.value ∙ c.view_of-source.ensures)
    (ap (option_map seen_of_view) c.as_ref-2.ensures.value ∙ c.view_of-mask.ensures) _ _ c.requires.can

pub returns-clause-routed : goal.returns-clause-routed
returns-clause-routed g c =
    let h = c.args.self.now in
    record {
      outcome = c.route_at-outcome.result;
      empty = c.new-drawn.result;
      drawn = c.route_at-outcome.new.drawn;
      routed = routed_as h.call.now c.as_ref.result c.as_ref-2.result _ _ h.xlate.now h.table.now c.args.brush.now.face
          (ap (option_map seen_of_view) c.as_ref.ensures.value ∙ c.view_of-source.ensures)
          (ap (option_map seen_of_view) c.as_ref-2.ensures.value ∙ c.view_of-mask.ensures) _ _ _ _ _ _ _ c.route_at-outcome.ensures.routed;
      each = c.reported.ensures.points;
      few = c.reported.ensures.few;
      is = c.reported.ensures.told;
    }
