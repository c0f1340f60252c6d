-- Inside the crate: what is kept of searches for the nearest colours.
use Rattle.std.specs.Prelude.{ℕ, ◌≡◌, ◌<◌, List, slice_index}
use Rattle.pix_format.specs.declared.rgb.Rgb.{Rgb}
use Rattle.pix_format.specs.Colour.{nearest}
use Rattle.pix_format.specs.Packing.{unpacked888}

-- beside each of 64 colours of three bytes stands the index that is nearest to it
pub record KeepsNearest (table : List Rgb) (asked found : List ℕ) : Type 0 where
  pub each : (j : ℕ) → j < 64 → slice_index found j ≡ nearest table (unpacked888 (slice_index asked j))
