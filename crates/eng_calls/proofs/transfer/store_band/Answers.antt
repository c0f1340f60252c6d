use Rattle.std.proofs.Common.{◌∙◌, sym}
use Rattle.geom_base.specs.Points.{corner_of}
use Rattle.clip_obj.specs.Clip.{to_origin}
use Rattle.surf_obj.specs.Layout.{values_in}
use Rattle.eng_calls.proofs.TransferLemmas.{moved_count, on_bits, part_moves, stored_as}
use Rattle.eng_calls.proofs.transfer.store_band.Goals as goal

pub seen_from-requires : goal.seen_from-requires
seen_from-requires g c =
    rw c.corner.ensures (part_moves c.args.part.now.layout.size c.args.part.now.rect c.args.rect.now c.requires.part.size c.requires.holds.sides c.requires.within)

pub read_rect_on-requires-clause-inside : goal.read_rect_on-requires-clause-inside
read_rect_on-requires-clause-inside g c =
    rw (c.seen_from.ensures, c.corner.ensures) (on_bits c.args.part.now.layout.size c.args.part.now.rect c.args.rect.now c.requires.part.size c.requires.within)

pub read_rect_on-requires-clause-count : goal.read_rect_on-requires-clause-count
read_rect_on-requires-clause-count g c =
    rw (c.seen_from.ensures, c.corner.ensures) (c.requires.count ∙ sym (moved_count c.args.rect.now (to_origin (corner_of c.args.part.now.rect))))

pub returns : goal.returns
returns g c =
    stored_as c.args.part.now.target (corner_of c.args.part.now.rect) c.args.part.now.layout.size (values_in c.args.part.now.layout c.args.bits.now)
    c.read_rect_on.new.out c.args.rect.now _ _ _ _ _ _ (rw (c.seen_from.ensures, c.corner.ensures) at c.read_rect_on.ensures.values) c.write_rect.ensures.draws
