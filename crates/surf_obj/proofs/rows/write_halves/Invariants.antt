use Rattle.std.proofs.Common.{◌≡◌, ◌*◌, ◌+◌, ◌<◌, ℕ, get_or}
use Rattle.pix_format.specs.declared.format.Format.TheVariants.{B4}
use Rattle.surf_obj.specs.Layout.{pixel_in}
use Rattle.surf_obj.specs.InnerBytes.{ChangesOnly}
use Rattle.surf_obj.proofs.rows.write_halves.Given as goal

abbrev pub invariant-loop-i : goal.invariant-loop-i
invariant-loop-i l = record {
  values : (k : ℕ) → k < 2 * l.i → pixel_in B4 l.bits l.at k ≡ get_or l.values k 0;
  bytes : ChangesOnly l.at (l.at + l.i) l.fn.bits l.bits;
}
