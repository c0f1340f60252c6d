use Rattle.std.proofs.Common.{◌∙◌, ap, refl, sym, ◌/◌, ℕ}
use Rattle.rop_mix.specs.Rop.{rop3_of}
use Rattle.blt_kernel.specs.InnerFills.{takes_pattern_alone}
use Rattle.blt_kernel.proofs.DrawLemmas.{fills}
use Rattle.blt_kernel.proofs.drawing.Drawing.fill_value.Goals as goal

pub returns-in-None-Solid : goal.returns-in-None-Solid
returns-in-None-Solid c =
    fills c.args.self.now c.args.format c.in-None-Solid.pattern c.rop3.result c.in-None-Solid.is-0 c.in-None-Solid.is-1
    (ap takes_pattern_alone (sym c.code_where_clear-code.ensures) ∙ c.if-takes_pattern_alone.ensures refl)
    (c.rop3.ensures.value ∙ ap (λ (k : ℕ). rop3_of k c.in-None-Solid.pattern 0 0 c.bits.result) c.code_where_clear-code.ensures
    ∙ ap (λ (n : ℕ). rop3_of (c.args.self.now.rop.code / 256) c.in-None-Solid.pattern 0 0 n) c.bits.ensures)
