use Rattle.std.proofs.Common.{◌≡◌, ℕ, ap, ◌∙◌, rules}
use Rattle.pix_format.specs.Value.{colour_of, value_of}
use Rattle.pix_format.proofs.ValueLemmas.{value_of-exact}
use Rattle.pix_format.proofs.value.value_of.Goals as goal

pub returns-in-B1-clause-exact : goal.returns-in-B1-clause-exact
returns-in-B1-clause-exact c = λ v inside is.
    let value : c.nearest.result ≡ value_of c.args.format c.args.table.now c.args.colour = search rules in
    ap (λ (n : ℕ). colour_of c.args.format c.args.table.now n) value ∙ value_of-exact c.args.format c.args.table.now c.args.colour v c.requires inside is
