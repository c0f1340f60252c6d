use Rattle.std.proofs.Common.{◌≡◌, ℕ, ◌<◌, false, map}
use Rattle.desk_shelf.specs.Free.{is_free}
use Rattle.desk_shelf.specs.Shelf.{state_at}
use Rattle.desk_shelf.proofs.taking.first_free.Given as goal

abbrev pub invariant-loop-place : goal.invariant-loop-place
invariant-loop-place g l =
    (k : ℕ) → k < l.place → is_free l.wanted
    (state_at (map (λ d. (goal.DisplayDriver-dyn g (d.driver.vtable, d.driver.value)).Pictured.state d.driver.value) l.shelf) k) ≡ false
