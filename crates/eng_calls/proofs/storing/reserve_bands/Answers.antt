use Rattle.std.proofs.Common.{◌≡◌, ◌∙◌, ◌*◌, ◌+◌, ap, arith}
use Rattle.std.proofs.Math.Nat.{mul_comm}
use Rattle.std.proofs.lemmas.Result.{on_ok_weaker}
use Rattle.eng_calls.specs.InnerBands.{bands_of}
use Rattle.eng_calls.proofs.storing.reserve_bands.Goals as goal

-- what was reserved
reserved : (c : goal.After-reserve) → c.in-Some-checked_add.entries ≡ c.args.cuts * bands_of c.args.room c.args.rects.now + c.args.drawn.now.spare
reserved c =
    let bands = bands_of c.args.room c.args.rects.now in
    let product : c.in-Some.bands * c.from.result ≡ c.args.cuts * bands =
    ap (λ n. n * c.from.result) c.in-Some.ensures ∙ ap (λ n. bands * n) c.from.ensures ∙ mul_comm bands c.args.cuts in
    omega (arith, product, c.in-Some-checked_add.ensures.1, c.in-Some-checked_mul.ensures.1, c.spare.ensures)

pub returns-in-Some-checked_add-clause-enough : goal.returns-in-Some-checked_add-clause-enough
returns-in-Some-checked_add-clause-enough c = on_ok_weaker c.reserve.result (λ h. omega (arith, h, reserved c)) c.reserve.ensures.ok

pub returns-in-Some-checked_add-clause-left : goal.returns-in-Some-checked_add-clause-left
returns-in-Some-checked_add-clause-left c = on_ok_weaker c.reserve.result (λ h. omega (arith, h, reserved c)) c.reserve.ensures.ok
