use Rattle.std.proofs.Common.{◌<◌, ◌%◌, ◌^◌, ◌∙◌, ℕ, length, rules, arith}
use Rattle.std.proofs.lemmas.List.{length-take}
use Rattle.pix_format.specs.Value.{bits_of}
use Rattle.brush_obj.proofs.RowLemmas.{All-taken, repeated_taken}
use Rattle.brush_obj.proofs.BrushLemmas.{item_round, realised_after}
use Rattle.brush_obj.proofs.tile.Tile.fill_row.Goals as goal

pub returns-clause-values : goal.returns-clause-values
returns-clause-values c = λ k inside.
    let t = c.args.self.now in
    let taken = repeated_taken c.copy_round.new.out _ c.repeat.new.row t.size.w (length c.args.out.now) t.sides.0 (omega arith)
    (omega (arith, length-take {A = ℕ})) c.repeat.ensures k inside in
    let value = c.copy_round.ensures (k % t.size.w) taken.1 in
    taken.0 ∙ value ∙ realised_after t.values.now t.size c.args.origin c.args.at c.wrapped-x.result c.wrapped-y.result k t.len t.sides.0
    c.wrapped-y.ensures.below (search rules) (search rules)

pub returns-clause-fits : goal.returns-clause-fits
returns-clause-fits c = λ format fit.
    let t = c.args.self.now in
    All-taken (λ (v : ℕ). v < 2 ^ bits_of format) c.copy_round.new.out c.repeat.new.row (λ k. k % t.size.w)
    (All-taken (λ (v : ℕ). v < 2 ^ bits_of format) t.values.now c.copy_round.new.out _ fit
    (λ k inside. item_round t.values.now t.size.w t.size.h c.wrapped-x.result c.wrapped-y.result k _ t.len t.sides.0 c.wrapped-y.ensures.below
    (c.copy_round.ensures k inside)))
    (repeated_taken c.copy_round.new.out _ c.repeat.new.row t.size.w (length c.args.out.now) t.sides.0 (omega arith)
    (omega (arith, length-take {A = ℕ})) c.repeat.ensures)
