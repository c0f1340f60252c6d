use Rattle.std.proofs.Common.{◌∙◌}
use Rattle.region.proofs.builder.RegionBuilder.reserve.Goals as goal

pub returns : goal.returns
returns c = λ pushed end h. record {
  rows = record {
    bands = h.rows.bands;
    kept = c.reserve.ensures.kept h.rows.bands h.rows.kept;
    limit = c.reserve.ensures.most ∙ h.rows.limit;
    runs = h.rows.runs;
  };
  above = h.above;
}
