use Rattle.std.proofs.Common.{◌<◌, ◌%◌, ◌^◌, ◌∙◌, ℕ, length, rules, arith}
use Rattle.std.proofs.Math.ListN.{length-take}
use Rattle.pix_format.specs.Value.{bits_of}
use Rattle.brush_obj.proofs.BrushLemmas.{hatch_after}
use Rattle.brush_obj.proofs.RowLemmas.{All-taken, repeated_taken}
use Rattle.brush_obj.proofs.hatch_values.HatchValues.fill_row.Goals as goal

pub returns-clause-values : goal.returns-clause-values
returns-clause-values c = λ k inside.
    let taken = repeated_taken c.fill_part.new.out _ c.repeat.new.row 8 (length c.args.out.now) (omega arith) (omega arith)
    (omega (arith, length-take {A = ℕ})) c.repeat.ensures k inside in
    taken.0 ∙ c.fill_part.ensures.values (k % 8) taken.1
    ∙ hatch_after c.args.self.now c.args.origin c.args.at c.wrapped-x.result c.wrapped-y.result k (search rules) (search rules)

pub returns-clause-fits : goal.returns-clause-fits
returns-clause-fits c = λ format fits.
    All-taken (λ (v : ℕ). v < 2 ^ bits_of format) c.fill_part.new.out c.repeat.new.row (λ k. k % 8) (c.fill_part.ensures.fits format fits)
    (repeated_taken c.fill_part.new.out _ c.repeat.new.row 8 (length c.args.out.now) (omega arith) (omega arith)
    (omega (arith, length-take {A = ℕ})) c.repeat.ensures)
