use Rattle.std.proofs.Common.{◌∙◌, ap, refl, sym}
use Rattle.pix_format.specs.declared.rgb.Rgb.{Rgb}
use Rattle.brush_obj.specs.declared.face.BrushFace.TheVariants as faces
use Rattle.std.proofs.Math.Seq.{map-set_same}
use Rattle.brush_obj.specs.Slots.{Brush}
use Rattle.desk_span.specs.InnerBeside.{faces_of}
use Rattle.desk_span.specs.InnerRouted.{face_among}
use Rattle.desk_span.proofs.ScreenLemmas.{face_routed, plain_face, realised_set}
use Rattle.desk_span.proofs.on_screen.hand_over.Goals as goal

pub returns-in-Made-clause-faces : goal.returns-in-Made-clause-faces
returns-in-Made-clause-faces g c =
    map-set_same (λ (b : Brush). b.face) c.args.brushes.now c.in-Made.number c.draw.new.brush c.index-brushes-number.result
    c.draw.ensures.face

pub returns-in-Made-clause-realised : goal.returns-in-Made-clause-realised
returns-in-Made-clause-realised g c =
    realised_set _ _ c.args.brushes.now c.in-Made.number c.draw.new.brush c.draw.ensures.slots c.requires.realised

pub returns-in_default : goal.returns-in_default
returns-in_default g c = record {
  routed = face_routed c.args.handed.now _ (face_among (faces_of c.args.brushes.now) c.args.with)
      (ap (λ (b : Brush). b.face) c.solid-plain.ensures ∙ ap (λ (colour : Rgb). faces.Solid colour) c.plain_colour.ensures ∙ sym (plain_face (faces_of c.args.brushes.now) c.args.with c.in_default.not-Made)) c.draw-in_default.ensures.routed;
  faces = refl;
  realised = c.requires.realised;
  others = c.draw-in_default.ensures.others;
}
