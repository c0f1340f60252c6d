use Rattle.std.proofs.Common.{get_or, rules}
use Rattle.blt_kernel.proofs.DrawLemmas.{row_gives, copy_gives}
use Rattle.blt_kernel.proofs.drawing.Drawing.combine_source.Goals as goal

pub returns-in-Solid : goal.returns-in-Solid
returns-in-Solid c = row_gives c.args.self.now c.args.dst.now c.args.x c.args.y _ c.code_where_clear-code.result c.bits.result (λ k. c.in-Solid.value)
    (λ k. get_or c.read_run-2.new.out k 0) (λ k. get_or c.read_row.new.out k 0) c.requires.mask c.code_where_clear-code.ensures (search rules) (search rules)
    (search rules) (search rules) (λ k h. rw c.at.ensures at (c.read_row.ensures.values k (search rules)))

pub returns : goal.returns
returns c = row_gives c.args.self.now c.args.dst.now c.args.x c.args.y _ c.code_where_clear-code.result c.bits-2.result (λ k. get_or c.fill_row.new.out k 0)
    (λ k. get_or c.read_run-2.new.out k 0) (λ k. get_or c.read_row.new.out k 0) c.requires.mask c.code_where_clear-code.ensures (search rules) (search rules)
    (λ k h. rw c.at-2.ensures at (c.fill_row.ensures.values k (search rules))) (search rules)
    (λ k h. rw c.at.ensures at (c.read_row.ensures.values k (search rules)))

pub returns-then-code : goal.returns-then-code
returns-then-code c = copy_gives c.args.self.now c.args.dst.now c.args.x c.args.y c.args.source.now _ c.requires.mask (search rules) c.requires.source
    c.read_run.ensures.values c.read_run.ensures.fits
