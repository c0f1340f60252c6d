use Rattle.std.proofs.Common.{◌≡◌}
use Rattle.geom_base.specs.declared.port_answer.PortAnswer.TheVariants.{Done}
use Rattle.geom_base.specs.Points.{corner_of, is_in, moved_rect}
use Rattle.geom_base.specs.Step.{redrawn}
use Rattle.surf_obj.specs.Layout.{values_in}
use Rattle.surf_obj.specs.Rects.{as_in_at}
use Rattle.clip_obj.specs.Clip.{to_origin}
use Rattle.copy_port.specs.Port.{Keeps}
use Rattle.copy_port.specs.State.{surface_of}
use Rattle.eng_calls.specs.InnerBands.{before_band}
use Rattle.eng_calls.proofs.transfer.fetch.Given as goal

-- the bands so far are on the bits
abbrev pub invariant-loop-k : goal.invariant-loop-k
invariant-loop-k g l = record {
  keeps : Keeps (g.P.Pictured.state l.fn.port) (g.P.Pictured.state l.port) Done;
  values : let s = surface_of (g.P.Pictured.state l.fn.port).shown l.part.target in
      let origin = to_origin (corner_of l.part.rect) in
      values_in l.part.layout l.bits ≡ redrawn l.part.layout.size (values_in l.part.layout l.fn.bits)
      (λ p. is_in p (moved_rect (before_band l.most l.part.rect l.k) origin)) (as_in_at origin s.size s.values);
}
