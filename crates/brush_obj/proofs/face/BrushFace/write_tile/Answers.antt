use Rattle.std.proofs.Common.{◌∙◌, ℕ, ap, sym, get_or}
use Rattle.std.proofs.lemmas.Nat.{div-add-mod'}
use Rattle.pix_format.specs.Translate.{convert}
use Rattle.brush_obj.proofs.face.BrushFace.write_tile.Goals as goal

pub returns-in-Pattern-clause-values : goal.returns-in-Pattern-clause-values
returns-in-Pattern-clause-values c =
    let image = c.in-Pattern.pattern in
    rw c.in-Pattern.is (λ i inside. c.write_tile-in-Pattern.ensures.values i inside
    ∙ ap (λ (k : ℕ). convert image.format image.table c.args.format c.args.table.now image.back (get_or image.values k 0)) (sym (div-add-mod' i image.size.w)))
