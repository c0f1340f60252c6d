use Rattle.std.proofs.Common.{◌∙◌, ap, sym}
use Rattle.pix_format.specs.Standard.{standard_colours}
use Rattle.script_read.proofs.standard_tables.StandardTables.of.Goals as goal

-- the table of a byte is long: it isn't worked out
pub returns-in-B8 : goal.returns-in-B8
returns-in-B8 c = c.args.self.now.bytes ∙ ap standard_colours (sym c.in-B8.is)
