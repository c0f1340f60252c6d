use Rattle.std.proofs.Common.{refl}
use Rattle.port_stage.proofs.StageLemmas.{new_stage, stays}
use Rattle.port_stage.proofs.stage.port_of.Goals as goal

pub returns : goal.returns
returns c =
    stays c.args.size c.args.format c.with_cuts-port.result c.set_rect.new.self _ _
    (new_stage c.args.size c.args.format c.in_ok-port.port c.with_cuts-port.result _ _ _ _
    (record { size = refl; format = refl; table = c.in_ok-table.ensures.colours }) c.in_ok-bitmap.ensures c.in_ok-port.ensures c.with_cuts-port.ensures)
    c.set_rect.ensures.shown c.set_rect.ensures.same.cuts
