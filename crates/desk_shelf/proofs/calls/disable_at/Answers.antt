use Rattle.ddi_driver.specs.Enabling.{Disables}
use Rattle.desk_shelf.specs.Shelf.{at_place, others_set}
use Rattle.desk_shelf.proofs.calls.disable_at.Goals as goal

pub returns-clause-disables : goal.returns-clause-disables
returns-clause-disables g c = at_place _ _ _ _ _ Disables c.requires c.index_mut.ensures.value c.disable.ensures

pub returns-clause-others : goal.returns-clause-others
returns-clause-others g c = others_set _ _ _
