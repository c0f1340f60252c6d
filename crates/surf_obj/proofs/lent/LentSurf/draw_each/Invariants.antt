use Rattle.std.proofs.Common.{◌≡◌, ◌+◌}
use Rattle.geom_base.specs.Step.{redrawn}
use Rattle.surf_obj.specs.Lent.{values_of, size_of, OnlyPixels}
use Rattle.surf_obj.specs.InnerRuns.{given}
use Rattle.surf_obj.proofs.RunLemmas.{in_row}
use Rattle.surf_obj.proofs.lent.LentSurf.draw_each.Given as goal

abbrev pub invariant-loop-i : goal.invariant-loop-i
invariant-loop-i g l = record {
  values : values_of l.self ≡ redrawn (size_of l.fn.self) (values_of l.fn.self) (in_row (l.x + l.from) (l.x + l.i) l.y) (given (g.R.Run.gives l.run) l.x);
  only : OnlyPixels l.fn.self l.self;
}
