use Rattle.std.proofs.Common.{◌∙◌, ◌+◌, sym, refl, ap, arith}
use Rattle.geom_base.specs.Step.{redrawn}
use Rattle.surf_obj.specs.Lent.{size_of, values_of}
use Rattle.surf_obj.specs.InnerRuns.{given}
use Rattle.surf_obj.specs.LentLaws.{length-values_of}
use Rattle.surf_obj.proofs.PartLemmas.{part-fits, part-written, part-padding, past_first}
use Rattle.surf_obj.proofs.RunLemmas.{in_row, row-none}
use Rattle.surf_obj.proofs.lent.LentSurf.draw_whole.Goals as goal

pub returns-then-from-to-clause-values : goal.returns-then-from-to-clause-values
returns-then-from-to-clause-values g c =
    let old = c.args.self.now in
    let change = given (g.R.Run.gives c.args.run.now) c.args.x in
    row-none (size_of old) (values_of old) (c.args.x + c.args.from) c.args.y change (length-values_of old)
    ∙ ap (λ k. redrawn (size_of old) (values_of old) (in_row (c.args.x + c.args.from) (c.args.x + k) c.args.y) change) c.if-from-to.true

pub put-requires-clause-room : goal.put-requires-clause-room
put-requires-clause-room g c =
    let old = c.args.self.now in
    let fits = part-fits old.layout c.args.x c.args.y c.args.from c.args.to
    (c.requires.start (omega arith)) c.requires.order c.requires.whole c.requires.columns c.requires.row old.holds.columns in
    rw (c.place-at.ensures, c.requires.format) (omega (arith, fits, old.holds.rows))

pub returns-clause-values : goal.returns-clause-values
returns-clause-values g c =
    let old = c.args.self.now in
    let gives = g.R.Run.gives c.args.run.now in
    part-written old.layout old.bits.now c.put.new.bits c.args.x c.args.y c.args.from c.args.to c.place-at.result (given gives c.args.x) old.holds.columns
    (c.requires.start (omega arith)) c.requires.order c.requires.whole c.requires.columns c.requires.row c.place-at.ensures
    (λ k lo hi. (rw c.requires.format at c.put.ensures.values) k lo hi ∙ ap gives (sym (past_first c.args.x k))) (rw c.requires.format at c.put.ensures.bytes)

pub returns-clause-only : goal.returns-clause-only
returns-clause-only g c =
    let old = c.args.self.now in
    record {
      loan = refl;
      layout = refl;
      padding = part-padding old.layout old.bits.now c.put.new.bits c.args.x c.args.y c.args.from c.args.to c.place-at.result old.holds.columns
          (c.requires.start (omega arith)) c.requires.order c.requires.whole c.requires.columns c.requires.row c.place-at.ensures
          (rw c.requires.format at c.put.ensures.bytes);
    }
