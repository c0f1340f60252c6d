-- What a driver counts.
use Rattle.copy_port.specs.State.{PortState}
use Rattle.ddi_driver.specs.declared.counts.Stats.{Stats}

-- the counts of a state
abbrev pub stats_of : PortState → Stats
stats_of s = record {
  offered = s.rest.offered;
  offered_bitmaps = s.rest.offered_bitmaps;
  declined = s.rest.declined;
  written = s.written;
  asked = s.rest.asked;
  made = s.rest.made;
  faults = s.faults;
}
