use Rattle.std.proofs.Common.{◌+◌, ◌*◌, refl, arith}
use Rattle.pix_format.specs.Value.{bits_of}
use Rattle.surf_obj.specs.Lent.{layout_of}
use Rattle.surf_obj.proofs.LayoutLemmas.{run-fits, row_bytes-le, bits-le, SamePadding-write}
use Rattle.surf_obj.proofs.RunLemmas.{values_in-put}
use Rattle.surf_obj.proofs.lent.LentSurf.set_pixel.Goals as goal

pub put_value-requires-clause-room : goal.put_value-requires-clause-room
put_value-requires-clause-room c = omega (
  arith,
  run-fits (layout_of c.args.self.now) (c.args.x + 1) c.args.y (omega arith) c.requires.row c.args.self.now.holds.columns,
  c.args.self.now.holds.rows,
  c.row_start-at.ensures,
)

pub returns-clause-values : goal.returns-clause-values
returns-clause-values c =
    let put = c.put_value.ensures in
    let old = c.args.self.now in
    values_in-put (layout_of old) old.bits.now c.put_value.new.bits c.args.x c.args.y c.args.value old.holds.columns c.requires.column c.requires.row
    (row_bytes-le (layout_of old) (c.args.x + 1) (omega arith) old.holds.columns)
    (rw c.row_start-at.ensures at put.value) (rw c.row_start-at.ensures at put.others) (rw c.row_start-at.ensures at put.bytes)

pub returns-clause-only : goal.returns-clause-only
returns-clause-only c =
    let put = c.put_value.ensures in
    let old = c.args.self.now in
    record {
      loan = refl;
      layout = refl;
      padding = SamePadding-write (layout_of old) old.bits.now c.put_value.new.bits c.args.y _ _ ((c.args.x + 1) * bits_of old.layout.format) c.requires.row
          (row_bytes-le (layout_of old) (c.args.x + 1) (omega arith) old.holds.columns)
          (bits-le old.layout.format (c.args.x + 1) old.layout.size.w (omega arith))
          (rw c.row_start-at.ensures at put.bytes) (rw c.row_start-at.ensures at put.after);
    }
