use Rattle.std.proofs.Common.{◌≡◌, ◌+◌, ◌-◌, ◌∙◌, arith}
use Rattle.blt_kernel.proofs.CopyLemmas.{given_drawn}
use Rattle.blt_kernel.proofs.DrawLemmas.{fill_gives}
use Rattle.blt_kernel.proofs.rows.draw_row.Goals as goal

pub returns-in-Fill : goal.returns-in-Fill
returns-in-Fill c =
    let end : c.args.left + (c.args.right - c.args.left) ≡ c.args.right = omega arith in
    record {
      values = rw c.at.ensures at c.fill_row.ensures.values
          ∙ fill_gives c.args.drawing.now c.args.dst.now c.args.left c.args.right c.args.y _ c.in-Fill.value end (rw c.in-Fill.is at c.requires.way);
      only = c.fill_row.ensures.only;
    }

pub returns-in-Copy : goal.returns-in-Copy
returns-in-Copy c =
    let end : c.args.left + (c.args.right - c.args.left) ≡ c.args.right = omega arith in
    let way = rw c.in-Copy.is at c.requires.way in
    record {
      values = c.copy_row.ensures.values
          ∙ given_drawn c.args.drawing.now c.args.dst.now c.in-Copy.source c.args.left c.args.right c.args.y _ end way.0 way.1.values c.copy_row.ensures.fits;
      only = c.copy_row.ensures.only;
    }
