use Rattle.std.proofs.Common.{[], refl, arith}
use Rattle.std.proofs.lemmas.Int.{ints}
use Rattle.region.specs.Columns.{has_column}
use Rattle.region.specs.InnerColumns.{IsColumns}
use Rattle.region.specs.Builder.{first_row}
use Rattle.region.proofs.RunLemmas.{no_runs}
use Rattle.region.proofs.builder.RegionBuilder.new.Goals as goal

pub returns : goal.returns
returns c = record {
  rows = record { bands = []; kept = c.new.ensures.kept; limit = c.new.ensures.most; runs = no_runs has_column IsColumns first_row _ (λ x y. refl) };
  above = omega (arith, ints);
}
