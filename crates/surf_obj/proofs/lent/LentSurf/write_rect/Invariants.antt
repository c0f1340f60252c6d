use Rattle.std.proofs.Common.{◌≡◌}
use Rattle.geom_base.specs.Points.{is_in}
use Rattle.geom_base.specs.Step.{redrawn}
use Rattle.surf_obj.specs.Lent.{values_of, size_of, OnlyPixels}
use Rattle.surf_obj.specs.Rects.{with_values}
use Rattle.surf_obj.proofs.RectLemmas.{first_rows}
use Rattle.surf_obj.proofs.lent.LentSurf.write_rect.Given as goal

abbrev pub invariant-loop-row : goal.invariant-loop-row
invariant-loop-row l = record {
  values : values_of l.self ≡ redrawn (size_of l.fn.self) (values_of l.fn.self) (λ p. is_in p (first_rows l.rect l.row)) (with_values l.rect l.values);
  only : OnlyPixels l.fn.self l.self;
}
