use Rattle.std.proofs.Common.{None}
use Rattle.script_names.proofs.NameLemmas.{names_after}
use Rattle.script_names.proofs.names.Names.remove.Goals as goal

pub returns : goal.returns
returns c = names_after c.args.word.now c.args.self.now.map c.remove.new.self None c.remove.ensures.updates
