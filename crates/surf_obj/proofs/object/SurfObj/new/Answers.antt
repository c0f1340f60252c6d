use Rattle.std.proofs.Common.{◌∙◌, ap}
use Rattle.surf_obj.specs.Layout.{Layout, values_in}
use Rattle.surf_obj.specs.Object.{padded}
use Rattle.surf_obj.specs.BlankLaws.{values_in-zeros}
use Rattle.surf_obj.proofs.object.SurfObj.new.Goals as goal

pub returns : goal.returns
returns c =
    let layout = padded c.args.size c.args.format in
    let bytes = rw (c.len.ensures, c.padded-layout.ensures) at c.in_ok-bits.ensures.items in
    record {
      layout = c.padded-layout.ensures;
      bytes = bytes;
      values = ap (λ (l : Layout). values_in l c.in_ok-bits.bits.items) c.padded-layout.ensures ∙ ap (values_in layout) bytes ∙ values_in-zeros layout _;
    }
