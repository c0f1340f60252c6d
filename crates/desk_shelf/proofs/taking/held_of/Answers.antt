use Rattle.std.proofs.Common.{◌∙◌, ◌+◌, ap, arith, sym}
use Rattle.desk_shelf.proofs.TakingLemmas.{all_counted, no_more, one_more}
use Rattle.desk_shelf.proofs.taking.held_of.Goals as goal
use Rattle.desk_shelf.proofs.taking.held_of.Goals.{then-is_free, else-is_free}

pub loop-driver-preserved : goal.loop-driver-preserved
loop-driver-preserved g c =
    let before = c.loop-driver.invariant in
    let most = before.1 in
    elim c.if-is_free.branch [
      | then-is_free w ↦ (
        w.held-is ∙ ap (λ n. n + 1) before.0 ∙ sym (one_more _ c.args.wanted c.args.shelf.now c.loop-driver.driver-index _
            c.loop-driver-test.true c.driver-item.is (sym c.is_free.ensures ∙ w.if-is_free.true)),
        let now = w.held-is in omega arith,
      )
      | else-is_free w ↦ (
        w.held-is ∙ before.0 ∙ sym (no_more _ c.args.wanted c.args.shelf.now c.loop-driver.driver-index _
            c.loop-driver-test.true c.driver-item.is (sym c.is_free.ensures ∙ w.if-is_free.false)),
        let now = w.held-is in omega arith,
      )
    ]

pub returns : goal.returns
returns g c =
    all_counted _ c.args.wanted c.args.shelf.now c.loop-driver.driver-index c.loop-driver.held c.loop-driver-test.false c.loop-driver.invariant.0
