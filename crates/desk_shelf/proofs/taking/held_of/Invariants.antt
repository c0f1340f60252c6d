use Rattle.std.proofs.Common.{◌≡◌, ◌≤◌, map, take}
use Rattle.desk_shelf.specs.Free.{held_of}
use Rattle.desk_shelf.proofs.taking.held_of.Given as goal

abbrev pub invariant-loop-driver : goal.invariant-loop-driver
invariant-loop-driver g l =
    (l.held ≡ held_of l.wanted (map (λ d. (goal.DisplayDriver-dyn g (d.driver.vtable, d.driver.value)).Pictured.state d.driver.value)
    (take l.driver-index l.shelf))) × (l.held ≤ l.driver-index)
