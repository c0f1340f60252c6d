use Rattle.script_read.proofs.RegionLemmas.{too_large}
use Rattle.script_read.proofs.regions.region.Goals as goal

pub returns-in-Err-TooMany : goal.returns-in-Err-TooMany
returns-in-Err-TooMany c = record {
  value = too_large _ _ c.in-Err-TooMany.count _ (rw (c.in-Err-TooMany.is, c.in-Err-TooMany.field-0-is) at c.in_ok-region.ensures)
      (rw c.in-Err-TooMany.field-0-is at c.excess.ensures);
}
