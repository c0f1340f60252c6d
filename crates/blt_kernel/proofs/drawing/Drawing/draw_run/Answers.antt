use Rattle.std.proofs.Common.{◌∙◌, rules, length, ◌≡◌}
use Rattle.surf_obj.specs.Lent.{size_of, values_of, format_of}
use Rattle.surf_obj.specs.LentLaws.{length-values_of}
use Rattle.blt_kernel.specs.InnerDrawing.{drawn}
use Rattle.blt_kernel.proofs.JoinLemmas.{run_is}
use Rattle.blt_kernel.proofs.drawing.Drawing.draw_run.Goals as goal

pub returns : goal.returns
returns c =
    let long : length c.combine.new.values ≡ c.args.len = search rules in
    record {
      values = rw (c.at.ensures, long) at c.write_row.ensures.values
          ∙ run_is (size_of c.args.dst.now) (values_of c.args.dst.now) c.combine.new.values
          (drawn c.args.self.now (size_of c.args.dst.now) (format_of c.args.dst.now) (values_of c.args.dst.now)) c.args.x c.args.y c.args.len
          (length-values_of c.args.dst.now) (λ k h. c.combine.ensures.values k (rw long h));
      only = c.write_row.ensures.only;
    }
