use Rattle.std.specs.Prelude.{option_map}
use Rattle.copy_port.specs.Given.{first_of, held_in, picture_of_view}
use Rattle.copy_port.specs.State.{surface_of}
use Rattle.brush_obj.specs.Calls.{held_of, target_of}
use Rattle.eng_calls.proofs.HeldLemmas.{blank_stands, copy_stands}
use Rattle.eng_calls.proofs.copies.stand_in.Goals as goal

pub returns-then-reads_target-clause-ok : goal.returns-then-reads_target-clause-ok
returns-then-reads_target-clause-ok g c =
    let targets = (g.P.Pictured.state c.args.port.now).shown in
    copy_stands c.args.call.now (first_of (option_map picture_of_view c.args.source) (held_in (held_of c.args.call.now) targets))
    (surface_of targets (target_of c.args.call.now)) c.args.rect.now c.in_ok-pixels.pixels (rw c.target-target.ensures at c.in_ok-pixels.ensures.ok)

pub returns-clause-ok : goal.returns-clause-ok
returns-clause-ok g c =
    let targets = (g.P.Pictured.state c.args.port.now).shown in
    blank_stands c.args.call.now (first_of (option_map picture_of_view c.args.source) (held_in (held_of c.args.call.now) targets))
    (surface_of targets (target_of c.args.call.now)) c.args.rect.now c.info_of.result.format c.in_ok-pixels-2.pixels
    (rw c.target-target.ensures at c.info_of.ensures.format) c.in_ok-pixels-2.ensures.ok (c.reads_target.ensures c.if-reads_target.false)
    (c.finds_sources.ensures (cc))
