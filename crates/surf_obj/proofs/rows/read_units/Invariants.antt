use Rattle.std.proofs.Common.{◌≡◌, ◌<◌, ◌^◌, ℕ, get_or}
use Rattle.pix_format.specs.Value.{bits_of}
use Rattle.surf_obj.specs.Layout.{pixel_in}
use Rattle.surf_obj.proofs.rows.read_units.Given as goal

abbrev pub invariant-loop-i : goal.invariant-loop-i
invariant-loop-i g l = record {
  values : (k : ℕ) → k < l.i → get_or l.out k 0 ≡ pixel_in g.U.WholeBytes.format l.bits l.at k;
  fits : (k : ℕ) → k < l.i → get_or l.out k 0 < 2 ^ bits_of g.U.WholeBytes.format;
}
