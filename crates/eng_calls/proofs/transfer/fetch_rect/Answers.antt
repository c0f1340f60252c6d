use Rattle.std.proofs.Common.{◌∙◌, sym}
use Rattle.geom_base.specs.Points.{corner_of}
use Rattle.clip_obj.specs.Clip.{to_origin}
use Rattle.copy_port.specs.State.{surface_of}
use Rattle.surf_obj.specs.Layout.{values_in}
use Rattle.eng_calls.proofs.TransferLemmas.{moved_count, on_bits, part_moves, read_onto}
use Rattle.eng_calls.proofs.transfer.fetch_rect.Goals as goal

pub seen_from-requires : goal.seen_from-requires
seen_from-requires g c =
    rw c.corner.ensures (part_moves c.args.part.now.layout.size c.args.part.now.rect c.args.rect.now c.requires.part.size c.requires.holds.sides c.requires.within)

pub write_rect_on-requires-clause-inside : goal.write_rect_on-requires-clause-inside
write_rect_on-requires-clause-inside g c =
    rw (c.seen_from.ensures, c.corner.ensures) (on_bits c.args.part.now.layout.size c.args.part.now.rect c.args.rect.now c.requires.part.size c.requires.within)

pub write_rect_on-requires-clause-count : goal.write_rect_on-requires-clause-count
write_rect_on-requires-clause-count g c =
    rw (c.seen_from.ensures, c.corner.ensures) (c.read_rect.auto.out ∙ c.requires.count ∙ sym (moved_count c.args.rect.now (to_origin (corner_of c.args.part.now.rect))))

pub returns-clause-values : goal.returns-clause-values
returns-clause-values g c =
    let s = surface_of (g.P.Pictured.state c.args.port.now).shown c.args.part.now.target in
    read_onto c.args.part.now.layout.size s.size (values_in c.args.part.now.layout c.args.bits.now) _ c.read_rect.new.out s.values c.args.rect.now _
    (to_origin (corner_of c.args.part.now.rect)) (rw c.corner.ensures at c.seen_from.ensures) c.write_rect_on.ensures.values c.in-Done.ensures.values
