use Rattle.std.proofs.Common.{◌∙◌, ap}
use Rattle.pix_format.specs.Colour.{nearest}
use Rattle.pix_format.proofs.TableLemmas.{kept_more}
use Rattle.pix_format.proofs.row.index_of.Goals.{then-asked-place, else-asked-place}
use Rattle.pix_format.proofs.row.index_of.Goals as goal

pub returns-clause-kept : goal.returns-clause-kept
returns-clause-kept c = elim c.if-asked-place.branch [
  | then-asked-place w ↦ rw (w.asked-is, w.found-is)
      (kept_more c.args.table.now c.args.asked.now c.args.found.now c.kept_place-place.result c.args.value _ c.requires.asked c.requires.found c.requires.kept
      (w.nearest.ensures.index ∙ ap (nearest c.args.table.now) w.unpacked888.ensures))
  | else-asked-place w ↦ rw (w.asked-is, w.found-is) c.requires.kept
]
