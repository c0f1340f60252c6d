use Rattle.std.proofs.Common.{◌∙◌, ap, rules}
use Rattle.rop_mix.specs.declared.rop4.Rop4.{Rop4}
use Rattle.brush_obj.specs.Calls.{blt_of, new_of_blt}
use Rattle.brush_obj.specs.CallLaws.{copy_alone, copy-source, copy-none}
use Rattle.brush_obj.proofs.copy_call.CopyCall.as_blt.Goals as goal

pub returns-clause-source : goal.returns-clause-source
returns-clause-source c = copy-source c.args.self.now

pub returns-clause-untouched : goal.returns-clause-untouched
returns-clause-untouched c = copy-none c.args.self.now

pub returns-clause-same : goal.returns-clause-same
returns-clause-same c o p d = ap (λ (r : Rop4). new_of_blt (record (blt_of c.args.self.now) { rop = r }) o p d) (search rules)
    ∙ copy_alone c.args.self.now o p d
