use Rattle.std.proofs.Common.{rules}
use Rattle.pix_format.proofs.ValueLemmas.{packed_and_unpacked888}
use Rattle.pix_format.proofs.packing.packed888.Goals as goal

pub returns-clause-colour : goal.returns-clause-colour
returns-clause-colour c = rw (c.from.ensures, c.from-2.ensures, c.from-3.ensures)
    (packed_and_unpacked888 c.args.colour (search rules) (search rules) (search rules))
