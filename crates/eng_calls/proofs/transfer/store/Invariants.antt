use Rattle.std.proofs.Common.{◌*◌, length, take}
use Rattle.geom_base.specs.declared.port_answer.PortAnswer.TheVariants.{Done}
use Rattle.geom_base.specs.Points.{corner_of, is_in_some}
use Rattle.surf_obj.specs.Layout.{values_in}
use Rattle.surf_obj.specs.Rects.{as_in_at}
use Rattle.copy_port.specs.Port.{Draws}
use Rattle.eng_calls.specs.InnerBands.{bands_of}
use Rattle.eng_calls.proofs.transfer.store.Given as goal

-- the rectangles so far are written
abbrev pub invariant-loop-i : goal.invariant-loop-i
invariant-loop-i g l =
    Draws l.part.target (as_in_at (corner_of l.part.rect) l.part.layout.size (values_in l.part.layout l.bits))
    (λ p. is_in_some p (take l.i l.rects)) ((g.P.Pictured.state l.fn.port).rest.cuts * bands_of (length l.fn.room) (take l.i l.rects))
    (g.P.Pictured.state l.fn.port) (g.P.Pictured.state l.port) l.fn.drawn l.drawn Done
