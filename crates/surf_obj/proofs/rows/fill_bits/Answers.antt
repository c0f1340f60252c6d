use Rattle.std.proofs.Common.{◌∙◌, ◌/◌, ◌%◌, ◌-◌, ap, arith}
use Rattle.std.specs.Int.{bit_at}
use Rattle.surf_obj.proofs.ByteLemmas.{bit_at-solid}
use Rattle.surf_obj.proofs.rows.fill_bits.Goals as goal

pub returns-clause-values : goal.returns-clause-values
returns-clause-values c k h =
    ap (λ b. bit_at b (7 - k % 8)) (c.fill_bytes.ensures.values (k / 8) (omega arith)) ∙ bit_at-solid c.args.value (7 - k % 8) c.requires.fits (omega arith)
