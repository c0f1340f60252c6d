use Rattle.std.proofs.Common.{◌∙◌, sym, ap, length}
use Rattle.std.proofs.lemmas.Bool.{false≢true}
use Rattle.std.proofs.lemmas.List.{length-replicate}
use Rattle.surf_obj.specs.Layout.{values_in}
use Rattle.surf_obj.specs.Object.{object_layout}
use Rattle.surf_obj.specs.declared.layout.Layout.{Layout}
use Rattle.brush_obj.specs.Calls.{target_of}
use Rattle.copy_port.specs.Laws.{draws_nothing, draws_nowhere, keeps_all}
use Rattle.copy_port.specs.State.{surface_of}
use Rattle.eng_calls.specs.InnerCopies.{source_place}
use Rattle.eng_calls.proofs.ManagedLemmas.{all_framed, all_narrow, extents_on_target, frame_inside, managed, no_extents, not_wanting, wanting}
use Rattle.eng_calls.proofs.StraightLemmas.{drawn_straight, source_sides, straight_format, straight_within}
use Rattle.eng_calls.proofs.managed.eng_draw_managed.Goals as goal

pub returns-then-not-has_points : goal.returns-then-not-has_points
returns-then-not-has_points g c =
    let ext = rw c.rects-rects.ensures.rects at c.extents_of-frame.ensures in
    draws_nowhere _ _ _ _ _ _ (λ p. no_extents c.args.clip.now.rects c.extents_of-frame.result p ext
    (λ h. false≢true (sym c.if-not-has_points.true ∙ c.has_points.ensures.points.1 h)))

pub room_for-requires-clause-on_target : goal.room_for-requires-clause-on_target
room_for-requires-clause-on_target g c =
    extents_on_target c.args.clip.now.rects c.extents_of-frame.result (target_of c.args.call.now) (g.P.Pictured.state c.args.port.now)
    (rw c.rects-rects.ensures.rects at c.extents_of-frame.ensures) (c.has_points.ensures.points.0 c.if-not-has_points.false) c.requires.can.alive
    c.requires.can.inside

pub returns-in-Err : goal.returns-in-Err
returns-in-Err g c = draws_nothing _ _ _ _ _ _ _ _ not_wanting (wanting _ _ (keeps_all _))

pub straight_source-requires-clause-on_target : goal.straight_source-requires-clause-on_target
straight_source-requires-clause-on_target g c =
    extents_on_target c.args.clip.now.rects c.extents_of-frame.result (target_of c.args.call.now) (g.P.Pictured.state c.args.port.now)
    (rw c.rects-rects.ensures.rects at c.extents_of-frame.ensures) (c.has_points.ensures.points.0 c.if-not-has_points.false) c.requires.can.alive
    c.requires.can.inside

pub store_all-requires-clause-part : goal.store_all-requires-clause-part
store_all-requires-clause-part g c =
    rw (c.target.ensures, c.source_place.ensures ∙ ap (source_place c.args.call.now) c.size.ensures, c.layout.ensures.layout) (record {
      live = c.requires.can.alive;
      size = source_sides c.args.call.now _;
      format = straight_format c.args.call.now c.args.inputs.now _ c.in-Some.source _ _ c.in-Some.ensures c.requires.can.suits;
    })

pub store_all-requires-clause-within : goal.store_all-requires-clause-within
store_all-requires-clause-within g c =
    let rects = c.rects-rects.result.now in
    rw (c.source_place.ensures ∙ ap (source_place c.args.call.now) c.size.ensures) (straight_within c.args.call.now c.args.inputs.now c.extents_of-frame.result c.in-Some.source rects
    c.in-Some.ensures (all_framed rects c.extents_of-frame.result c.extents_of-frame.ensures c.rects-rects.ensures.points) c.rects-rects.ensures.points)

pub store_all-requires-clause-room : goal.store_all-requires-clause-room
store_all-requires-clause-room g c =
    let rects = c.rects-rects.result.now in
    let count = c.deref_mut.ensures.len ∙ c.in-Ok.room.ok.0 ∙ ap length c.in-Ok.ensures.items ∙ length-replicate c.room_for.result 0 in
    all_narrow rects c.extents_of-frame.result (length c.deref_mut.result.now)
    (all_framed rects c.extents_of-frame.result c.extents_of-frame.ensures c.rects-rects.ensures.points) (rw count c.room_for.ensures)

pub returns-in-Some : goal.returns-in-Some
returns-in-Some g c =
    let rects = c.rects-rects.result.now in
    let framed = all_framed rects c.extents_of-frame.result c.extents_of-frame.ensures c.rects-rects.ensures.points in
    drawn_straight c.args.call.now c.args.inputs.now c.extents_of-frame.result c.in-Some.source _ _ (target_of c.args.call.now) c.args.clip.now.rects
    _ _ _ _ _ _ c.in-Some.ensures c.requires.can.suits c.bits.ensures.fits (rw c.rects-rects.ensures.rects at framed)
    (rw (
      c.target.ensures,
      c.source_place.ensures ∙ ap (source_place c.args.call.now) c.size.ensures,
      c.layout.ensures.layout,
      c.bits.ensures.bits,
      c.rects-rects.ensures.rects,
    )
    at c.store_all.ensures)

pub drawn_copy-requires-clause-frame : goal.drawn_copy-requires-clause-frame
drawn_copy-requires-clause-frame g c =
    let ext = rw c.rects-rects.ensures.rects at c.extents_of-frame.ensures in
    record {
      points = c.has_points.ensures.points.0 c.if-not-has_points.false;
      within = all_framed c.args.clip.now.rects c.extents_of-frame.result ext (rw c.rects-rects.ensures.rects at c.rects-rects.ensures.points);
    }

pub drawn_copy-requires-clause-inside : goal.drawn_copy-requires-clause-inside
drawn_copy-requires-clause-inside g c =
    let state = g.P.Pictured.state c.args.port.now in
    let ext = rw c.rects-rects.ensures.rects at c.extents_of-frame.ensures in
    frame_inside c.args.clip.now.rects c.extents_of-frame.result (surface_of state.shown (target_of c.args.call.now)).size ext
    (c.has_points.ensures.points.0 c.if-not-has_points.false) c.requires.can.inside

pub returns-in-Err-drawn_copy : goal.returns-in-Err-drawn_copy
returns-in-Err-drawn_copy g c = draws_nothing _ _ _ _ _ _ _ _ c.in-Err-drawn_copy.ensures.err c.in-Err-drawn_copy.ensures.keeps

pub store_all-requires-2-clause-within : goal.store_all-requires-2-clause-within
store_all-requires-2-clause-within g c =
    all_framed c.rects-rects.result.now c.extents_of-frame.result c.extents_of-frame.ensures c.rects-rects.ensures.points

pub store_all-requires-2-clause-room : goal.store_all-requires-2-clause-room
store_all-requires-2-clause-room g c =
    let rects = c.rects-rects.result.now in
    let count = c.deref_mut-3.ensures.len ∙ c.in-Ok.room.ok.0 ∙ ap length c.in-Ok.ensures.items ∙ length-replicate c.room_for.result 0 in
    all_narrow rects c.extents_of-frame.result (length c.deref_mut-3.result.now)
    (all_framed rects c.extents_of-frame.result c.extents_of-frame.ensures c.rects-rects.ensures.points) (rw count c.room_for.ensures)

pub returns : goal.returns
returns g c =
    let copy = c.in-Ok-drawn_copy.copy in
    managed (target_of c.args.call.now) _ _ c.args.clip.now.rects _ c.extents_of-frame.result _ _ copy _ _ _ _ _ _ c.in-Ok-drawn_copy.ensures.ok
    c.in-Ok-drawn_copy.ensures.keeps c.target-2.ensures c.rects-rects.ensures.rects
    (ap (λ (l : Layout). l.size) c.layout-2.ensures.layout ∙ c.in-Ok-drawn_copy.ensures.ok.size)
    (ap (λ (l : Layout). values_in l c.bits-2.result.now) c.layout-2.ensures.layout ∙ ap (values_in (object_layout copy)) c.bits-2.ensures)
    c.store_all-2.ensures
