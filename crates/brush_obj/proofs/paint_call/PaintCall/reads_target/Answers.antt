use Rattle.std.proofs.Common.{◌≡◌, ◌∙◌, ◌%◌, sym, ap, arith, true}
use Rattle.pix_format.specs.Value.{bits_of}
use Rattle.rop_mix.specs.Rop.{rop3_of}
use Rattle.brush_obj.specs.Wrapping.{from_origin}
use Rattle.brush_obj.proofs.paint_call.PaintCall.reads_target.Goals as goal

pub returns : goal.returns
returns c none o p d e =
    let v = o.pattern (from_origin c.args.self.now.origin p) in
    let bits = bits_of o.format in
    let code : c.of.result.code % 256 ≡ c.rop3.result = omega (arith, c.of.ensures, c.from-code.ensures, c.rop3.type_inv) in
    sym (c.rop3.ensures.values v 0 d bits)
    ∙ ap (λ k. rop3_of k v 0 d bits) (sym code)
    ∙ c.needs_target.ensures.spared none true v 0 d e bits
    ∙ ap (λ k. rop3_of k v 0 e bits) code
    ∙ c.rop3.ensures.values v 0 e bits
