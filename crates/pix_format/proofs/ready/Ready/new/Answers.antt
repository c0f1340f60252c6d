use Rattle.std.proofs.Common.{arith, rules, sym, ◌∙◌}
use Rattle.pix_format.proofs.XlateLemmas.{IsReady-values}
use Rattle.pix_format.proofs.ready.Ready.new.Goals as goal

pub returns : goal.returns
returns c =
    IsReady-values _ c.in_ok-values.values (sym c.is_same_kind.ensures ∙ c.if-is_same_kind.false) (sym c.is_to_mono.ensures ∙ c.if-is_to_mono.false)
    (omega arith) c.requires.from (search rules) c.in_ok-values.ensures.fits
