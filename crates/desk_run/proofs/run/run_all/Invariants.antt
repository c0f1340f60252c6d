use Rattle.std.proofs.Common.{◌≡◌, drop, List}
use Rattle.std.specs.Prelude.{map}
use Rattle.desk_shelf.specs.Shelf.{OthersStay, state_at}
use Rattle.script_orders.specs.Live.{CanRun}
use Rattle.desk_span.specs.Kept.{live_in}
use Rattle.desk_run.specs.Entries.{Entry}
use Rattle.desk_run.proofs.HistoryLemmas.{SoFar}
use Rattle.desk_run.proofs.run.run_all.Given as goal

abbrev pub invariant-loop-i : goal.invariant-loop-i
invariant-loop-i g l = record {
  script : l.run.script ≡ l.fn.run.script;
  can : CanRun (live_in l.run.desk) (drop l.i l.commands);
  others : OthersStay l.fn.run.desk.screen.place l.fn.shelf.items l.shelf.items;
  so_far : (h : List Entry) × SoFar l.fn.run.script.now.names l.commands l.fn.run.desk l.run.desk
      (state_at (map (λ d. (goal.DisplayDriver-dyn g (d.driver.vtable, d.driver.value)).Pictured.state d.driver.value) l.fn.shelf.items) l.fn.run.desk.screen.place)
      (state_at (map (λ d. (goal.DisplayDriver-dyn g (d.driver.vtable, d.driver.value)).Pictured.state d.driver.value) l.shelf.items) l.fn.run.desk.screen.place)
      (g.K.Sink.written l.fn.sink) (g.K.Sink.written l.sink)
      (g.K.Sink.faults l.fn.sink) (g.K.Sink.faults l.sink) l.i l.whole l.fault h;
}
