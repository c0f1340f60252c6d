use Rattle.std.proofs.Common.{◌≡◌, ◌+◌, ◌<◌, ℕ, get_or}
use Rattle.surf_obj.specs.Layout.{row_bytes, pixel_in}
use Rattle.surf_obj.specs.InnerBytes.{ChangesOnly}
use Rattle.surf_obj.proofs.rows.write_units.Given as goal

abbrev pub invariant-loop-i : goal.invariant-loop-i
invariant-loop-i g l = record {
  values : (k : ℕ) → k < l.i → pixel_in g.U.WholeBytes.format l.bits l.at k ≡ get_or l.values k 0;
  bytes : ChangesOnly l.at (l.at + row_bytes g.U.WholeBytes.format l.i) l.fn.bits l.bits;
}
