use Rattle.std.proofs.Common.{◌*◌}
use Rattle.geom_base.specs.declared.port_answer.PortAnswer.TheVariants.{Done}
use Rattle.geom_base.specs.Points.{corner_of, is_in}
use Rattle.surf_obj.specs.Layout.{values_in}
use Rattle.surf_obj.specs.Rects.{as_in_at}
use Rattle.copy_port.specs.Port.{Draws}
use Rattle.eng_calls.specs.InnerBands.{before_band}
use Rattle.eng_calls.proofs.transfer.store_rect.Given as goal

-- the bands so far are written
abbrev pub invariant-loop-k : goal.invariant-loop-k
invariant-loop-k g l =
    Draws l.part.target (as_in_at (corner_of l.part.rect) l.part.layout.size (values_in l.part.layout l.bits))
    (λ p. is_in p (before_band l.most l.rect l.k)) ((g.P.Pictured.state l.fn.port).rest.cuts * l.k)
    (g.P.Pictured.state l.fn.port) (g.P.Pictured.state l.port) l.fn.drawn l.drawn Done
