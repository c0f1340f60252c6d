use Rattle.std.proofs.Common.{◌+◌, ◌<◌, arith}
use Rattle.std.proofs.lemmas.Bool.Decides.{nat_tests}
use Rattle.region.specs.InnerCover.{columns_in}
use Rattle.region.proofs.CoverStepLemmas.{told_runs}
use Rattle.region.proofs.ScanTurnLemmas.{counted_past}
use Rattle.region.proofs.scan.push_band.Goals as goal

pub returns-then-is_past-clause-counted : goal.returns-then-is_past-clause-counted
returns-then-is_past-clause-counted c = λ lists k can.
    let runs = told_runs c.args.row.now c.args.cover.now c.strip.result.now c.requires.cover c.requires.steady c.strip.ensures in
    let many : c.args.bands.now.most < c.args.bands.now.count + c.strip.result.now.row.runs = grind (arith, nat_tests) in
    counted_past lists c.args.bands.now c.add.new.self c.strip.result.now.row.runs
    (record { from = c.args.row.now; value = columns_in c.args.cover.now c.args.row.now }) k runs c.add.ensures.count many c.add.ensures.most
    (c.add.ensures.many many).1
