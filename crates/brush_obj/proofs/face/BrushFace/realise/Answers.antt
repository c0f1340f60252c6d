use Rattle.std.proofs.Common.{◌≡◌, ◌∙◌, ◌*◌, ℕ, length, refl, arith}
use Rattle.std.proofs.lemmas.List.{length-take}
use Rattle.std.proofs.lemmas.Nat.{mul-le}
use Rattle.brush_obj.specs.Brush.{size_of, tile_value}
use Rattle.brush_obj.proofs.BrushLemmas.{filled_is_realised, rows_give}
use Rattle.brush_obj.proofs.face.BrushFace.realise.Goals as goal

pub returns-clause-realised : goal.returns-clause-realised
returns-clause-realised c =
    let face = c.args.self.now in
    let size = size_of face in
    let all : c.put_row.new.self.values ≡ c.write_tile.new.out = c.put_row.ensures.values ∙ rw c.requires.ready.values refl in
    let fits = mul-le c.size-size.result.w c.size-size.result.h 64 64 c.size-size.ensures.sides.1 c.size-size.ensures.sides.3 in
    let count : length c.write_tile.new.out ≡ c.size-size.result.w * c.size-size.result.h = omega (arith, length-take {A = ℕ}, fits) in
    let long : length c.write_tile.new.out ≡ size.w * size.h = rw c.size-size.ensures.size at count in
    filled_is_realised face c.args.format c.args.table.now c.put_row.new.self (c.put_row.ensures.size ∙ c.requires.ready.size) (rw all long)
    (rw all (rows_give (tile_value face c.args.format c.args.table.now) size.w size.h c.write_tile.new.out long c.write_tile.ensures.values))
