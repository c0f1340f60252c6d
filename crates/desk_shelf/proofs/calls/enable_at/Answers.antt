use Rattle.ddi_driver.specs.Enabling.{Enables}
use Rattle.copy_port.specs.State.{PortState}
use Rattle.desk_shelf.specs.Shelf.{at_place, others_set}
use Rattle.desk_shelf.proofs.calls.enable_at.Goals as goal

pub returns-clause-enables : goal.returns-clause-enables
returns-clause-enables g c =
    at_place _ _ _ _ _ (λ (a b : PortState). Enables c.args.mode.now a b c.enable.result) c.requires.place c.index_mut.ensures.value c.enable.ensures

pub returns-clause-others : goal.returns-clause-others
returns-clause-others g c = others_set _ _ _
