use Rattle.std.proofs.Common.{ap, refl, ◌∙◌, ℕ, List, Some}
use Rattle.std.specs.Prelude.{option_map}
use Rattle.std.proofs.lemmas.Result.{on_ok_weaker, on_err_weaker}
use Rattle.geom_base.specs.Points.{is_in_some}
use Rattle.geom_base.specs.Step.{redrawn}
use Rattle.surf_obj.specs.Object.{object_layout, object_bytes}
use Rattle.eng_calls.specs.declared.inputs.Inputs.{Inputs}
use Rattle.desk_span.specs.InnerDrawing.{seen_of_view}
use Rattle.desk_span.proofs.BitsLemmas.{bytes_after, drawn_alike, suits, surface_on}
use Rattle.desk_span.proofs.pane.Pane.draw.Goals as goal

pub eng_draw-requires-clause-suits : goal.eng_draw-requires-clause-suits
eng_draw-requires-clause-suits c =
    let s = c.self.inside.pixels in
    let t = surface_on (object_layout s) c.self.inside.table (object_bytes s) in
    rw c.layout-layout.ensures.layout (suits t c.args.inputs.now _ refl refl (ap (option_map seen_of_view) c.as_ref.ensures.value ∙ c.view_of-source.ensures)
    (ap (option_map seen_of_view) c.as_ref-2.ensures.value ∙ c.view_of-mask.ensures) c.args.call.now
    (c.as_ref-3.ensures.value ∙ (rw (← c.self.view_is) at c.in_ok-xlate.ensures)) c.self.invariant)

pub returns-clause-ok : goal.returns-clause-ok
returns-clause-ok c =
    let s = c.self.inside.pixels in
    let l = object_layout s in
    let table = c.self.inside.table in
    let t = surface_on l table (object_bytes s) in
    let kept = bytes_after s c.bits_mut.result.now c.eng_draw.new.bits c.eng_draw.auto.bits c.bits_mut.ensures.bits in
    let lent : Inputs = record {
      source = c.as_ref.result;
      mask = c.as_ref-2.result;
      xlate = c.as_ref-3.result;
      table = record { ref_ptr = c.args.inputs.now.brush.ref_ptr; now = table };
      brush = Some c.args.inputs.now.brush;
    } in
    on_ok_weaker c.eng_draw.result (λ drew. rw (← c.self.view_is) (ap (surface_on l table) kept
    ∙ ap (λ (values : List ℕ). record t { values = values }) (drew ∙ ap (redrawn t.size t.values (λ p. is_in_some p c.args.clip.now.rects))
    (drawn_alike t c.args.inputs.now lent refl refl (ap (option_map seen_of_view) c.as_ref.ensures.value ∙ c.view_of-source.ensures)
    (ap (option_map seen_of_view) c.as_ref-2.ensures.value ∙ c.view_of-mask.ensures) c.args.call.now
    (c.as_ref-3.ensures.value ∙ (rw (← c.self.view_is) at c.in_ok-xlate.ensures))))))
    (rw (c.layout-layout.ensures.layout, c.bits_mut.ensures.bits) at c.eng_draw.ensures.values)

pub returns-clause-err : goal.returns-clause-err
returns-clause-err c =
    let s = c.self.inside.pixels in
    let kept = bytes_after s c.bits_mut.result.now c.eng_draw.new.bits c.eng_draw.auto.bits c.bits_mut.ensures.bits in
    on_err_weaker c.eng_draw.result
    (λ same. rw (← c.self.view_is) (ap (surface_on (object_layout s) c.self.inside.table) (kept ∙ same ∙ c.bits_mut.ensures.bits))) c.eng_draw.ensures.unchanged
