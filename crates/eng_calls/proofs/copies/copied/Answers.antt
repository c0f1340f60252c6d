use Rattle.eng_calls.proofs.HeldLemmas.{on_target}
use Rattle.copy_port.specs.State.{surface_of}
use Rattle.eng_calls.proofs.copies.copied.Goals as goal

pub blank-requires-clause-on_target : goal.blank-requires-clause-on_target
blank-requires-clause-on_target g c =
    let state = g.P.Pictured.state c.args.port.now in
    on_target c.args.rect.now (surface_of state.shown c.args.target).size c.requires.inside.rect (state.sound c.args.target c.requires.inside.alive).sides
