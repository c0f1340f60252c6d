use Rattle.std.proofs.Common.{◌≡◌, ◌<◌, ◌/◌, ◌%◌, ◌^◌, ℕ, get_or}
use Rattle.pix_format.specs.Value.{bits_of}
use Rattle.pix_format.specs.declared.format.Format.{Format}
use Rattle.brush_obj.specs.Hatches.{HatchFits, hatch_value}
use Rattle.brush_obj.proofs.hatch_values.HatchValues.write_tile.Given as goal

-- the values below k are those of the tile
abbrev pub invariant-loop-k : goal.invariant-loop-k
invariant-loop-k l = record {
  values : (j : ℕ) → j < l.k → get_or l.out j 0 ≡ hatch_value l.self (j % 8) (j / 8);
  fits : (format : Format) → HatchFits format l.self → (j : ℕ) → j < l.k → get_or l.out j 0 < 2 ^ bits_of format;
}
