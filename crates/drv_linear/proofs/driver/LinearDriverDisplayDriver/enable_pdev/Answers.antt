use Rattle.std.proofs.Common.{refl}
use Rattle.drv_linear.proofs.LinearLemmas.{new_holds, new_shown}
use Rattle.drv_linear.proofs.driver.LinearDriverDisplayDriver.enable_pdev.Goals as goal

pub invariant_of-self-2 : goal.invariant_of-self-2
invariant_of-self-2 g c = record { holds = new_holds c.in_ok-screen.screen c.args.mode.now _ c.requires.mode c.in_ok-screen.ensures (rw c.len.ensures at c.in-Ok.ensures.ok) }

pub returns-clause-enables : goal.returns-clause-enables
returns-clause-enables g c = record {
  ok = record {
    enabled = refl;
    shown = new_shown c.in_ok-screen.screen c.args.mode.now _ c.in_ok-screen.ensures (rw c.len.ensures at c.in-Ok.ensures.ok);
    offered = refl;
    offered_bitmaps = refl;
    declined = refl;
    written = refl;
  };
  err = tt;
  limit = refl;
  cause = tt;
  later = c.in-Ok.ensures.later;
  driver = record { kind = refl; limits = refl };
  bitmaps = record { asked = refl; made = refl };
}
