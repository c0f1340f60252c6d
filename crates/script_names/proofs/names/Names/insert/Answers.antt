use Rattle.std.proofs.Common.{Some}
use Rattle.script_names.proofs.NameLemmas.{names_after}
use Rattle.script_names.proofs.names.Names.insert.Goals as goal

pub returns-clause-ok : goal.returns-clause-ok
returns-clause-ok c = names_after c.args.word.now c.args.self.now.map c.insert.new.self (Some c.args.what) c.in_ok-insert.ensures.updates
