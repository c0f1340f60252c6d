use Rattle.std.proofs.Common.{le_refl}
use Rattle.copy_port.specs.Laws.{draws_rect}
use Rattle.punt_driver.proofs.PuntLemmas.{rest_drawn, screen_drawn}
use Rattle.punt_driver.proofs.driver.PuntDriverCopyPort.write_rect.Goals as goal

pub returns-clause-draws : goal.returns-clause-draws
returns-clause-draws c =
    let d = c.args.self.now in
    draws_rect _ _ _ _ _ _ _ _
    (screen_drawn d.screen c.in-Some.screen c.write_rect.new.self c.args._target _ _ c.in-Some.is c.requires.inside.alive c.write_rect.ensures)
    (rest_drawn d.screen c.in-Some.screen c.write_rect.new.self d.hooks d.offered d.asked c.in-Some.is) (le_refl 0) (le_refl 1)
    c.push.ensures.rects c.push.ensures.points c.push.ensures.spare c.push.ensures.room
