use Rattle.std.specs.Prelude.{IfOk}
use Rattle.brush_obj.specs.Calls.{held_of}
use Rattle.copy_port.specs.Port.{Keeps}
use Rattle.copy_port.specs.State.{PortState}
use Rattle.eng_calls.specs.Copies.{HeldFor, ended}
use Rattle.desk_shelf.specs.Shelf.{at_place, others_set}
use Rattle.desk_shelf.proofs.calls.held_at.Goals as goal

pub returns-clause-keeps : goal.returns-clause-keeps
returns-clause-keeps g c =
    at_place _ _ _ _ _ (λ (a b : PortState). Keeps a b (ended c.read_held.result)) c.requires.place c.index_mut.ensures.value c.read_held.ensures.keeps

pub returns-clause-ok : goal.returns-clause-ok
returns-clause-ok g c =
    at_place _ _ _ _ c.read_held.new.driver
    (λ (a b : PortState). IfOk c.read_held.result (HeldFor (held_of c.args.call.now) c.args.call.now a.shown c.args.frame.now))
    c.requires.place c.index_mut.ensures.value c.read_held.ensures.ok

pub returns-clause-others : goal.returns-clause-others
returns-clause-others g c = others_set _ _ _
