use Rattle.std.proofs.Common.{◌≡◌, ◌<◌, ◌^◌, length}
use Rattle.std.specs.List.{All}
use Rattle.pix_format.specs.Value.{bits_of}
use Rattle.port_stage.proofs.picture.Picture.values.Given as goal

abbrev pub invariant-loop-place : goal.invariant-loop-place
invariant-loop-place l = All (λ v. v < 2 ^ bits_of l.format) l.values.items × (length l.values.items ≡ l.place)
