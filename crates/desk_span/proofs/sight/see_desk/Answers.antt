use Rattle.std.proofs.Common.{ap, subst, sym, ◌∙◌}
use Rattle.std.proofs.lemmas.Bool.{false≢true}
use Rattle.script_orders.specs.Places.{MayStandAt}
use Rattle.script_orders.specs.Rows.{zero_point}
use Rattle.script_orders.specs.PlaceLaws.{stand_shifts}
use Rattle.desk_span.specs.Kept.{ScreenKept}
use Rattle.desk_span.proofs.HandedLemmas.{lent_coordinates}
use Rattle.desk_span.proofs.SightLemmas.{met, none_sees, nothing_sees, on_target, part_format, part_sees, part_stands}
use Rattle.desk_span.proofs.sight.see_desk.Goals as goal

pub returns-then-not-meets-clause-sees : goal.returns-then-not-meets-clause-sees
returns-then-not-meets-clause-sees g c s alone =
    let d = c.args.command.now in
    rw c.nothing.ensures (nothing_sees d c.cut_to-frame.result c.args.size (rw c.rect.ensures at c.cut_to-frame.ensures.common)
    (λ m. false≢true (sym c.if-not-meets.true ∙ (rw c.region_of.ensures at c.meets.ensures).1 m)) _ s)

pub part-requires-clause-coordinates : goal.part-requires-clause-coordinates
part-requires-clause-coordinates g c =
    rw c.lent_from-call.ensures (lent_coordinates c.args.command.now.call c.screen.inside.at (stand_shifts c.screen.inside.at c.screen.invariant.2) c.requires.places)

pub part-requires-clause-frame : goal.part-requires-clause-frame
part-requires-clause-frame g c = on_target c.cut_to-frame.result c.args.size c.requires.size c.cut_to-frame.ensures.inside

pub part_seen-requires-clause-format : goal.part_seen-requires-clause-format
part_seen-requires-clause-format g c =
    let here = ap (λ (s : ScreenKept). s.at) c.screen.view_is in
    (part_format c.args.command.now c.cut_to-frame.result c.args.size (rw c.rect.ensures at c.cut_to-frame.ensures.common) c.requires.desk
    c.args.screen.now _ c.requires.serves c.in-Ok-Some.copy (rw (c.lent_from-call.ensures, here, c.in-Ok-Some.field-0-is) at c.in-Ok-Some.ensures.ok)).0

pub part_seen-requires-clause-place : goal.part_seen-requires-clause-place
part_seen-requires-clause-place g c =
    let here = ap (λ (s : ScreenKept). s.at) c.screen.view_is in
    (part_format c.args.command.now c.cut_to-frame.result c.args.size (rw c.rect.ensures at c.cut_to-frame.ensures.common) c.requires.desk
    c.args.screen.now _ c.requires.serves c.in-Ok-Some.copy (rw (c.lent_from-call.ensures, here, c.in-Ok-Some.field-0-is) at c.in-Ok-Some.ensures.ok)).1

pub returns-in-Ok-clause-stands : goal.returns-in-Ok-clause-stands
returns-in-Ok-clause-stands g c =
    let here = ap (λ (s : ScreenKept). s.at) c.screen.view_is in
    rw c.in-Ok.ensures (part_stands c.args.command.now c.cut_to-frame.result c.args.size (rw c.rect.ensures at c.cut_to-frame.ensures.common)
    c.requires.desk c.args.screen.now _ c.requires.serves c.in-Ok-Some.copy (rw (c.lent_from-call.ensures, here, c.in-Ok-Some.field-0-is) at c.in-Ok-Some.ensures.ok)
    c.requires.places (subst (λ (s : ScreenKept). MayStandAt s.at) c.screen.view_is c.screen.invariant.2))

pub returns-in-Ok-clause-sees : goal.returns-in-Ok-clause-sees
returns-in-Ok-clause-sees g c s alone =
    let here = ap (λ (s : ScreenKept). s.at) c.screen.view_is in
    rw c.in-Ok.ensures (part_sees c.args.command.now c.cut_to-frame.result c.args.size (rw c.rect.ensures at c.cut_to-frame.ensures.common)
    c.requires.desk c.args.screen.now _ c.requires.serves c.in-Ok-Some.copy (rw (c.lent_from-call.ensures, here, c.in-Ok-Some.field-0-is) at c.in-Ok-Some.ensures.ok) s alone)

pub returns-in-Err-part_seen-clause-meets : goal.returns-in-Err-part_seen-clause-meets
returns-in-Err-part_seen-clause-meets g c =
    met c.args.command.now c.cut_to-frame.result c.args.size (rw c.rect.ensures at c.cut_to-frame.ensures.common)
    ((rw c.region_of.ensures at c.meets.ensures).0 c.if-not-meets.false)

pub returns-in-Ok-None-clause-sees : goal.returns-in-Ok-None-clause-sees
returns-in-Ok-None-clause-sees g c s alone =
    let here = ap (λ (s : ScreenKept). s.at) c.screen.view_is in
    rw c.nothing-in-Ok-None.ensures (none_sees c.args.command.now c.cut_to-frame.result c.args.size (rw c.rect.ensures at c.cut_to-frame.ensures.common)
    c.requires.desk c.args.screen.now _ c.requires.serves (rw (c.lent_from-call.ensures, here, c.in-Ok-None.field-0-is) at c.in-Ok-None.ensures.ok) zero_point s alone)

pub returns-in-Err-clause-meets : goal.returns-in-Err-clause-meets
returns-in-Err-clause-meets g c =
    met c.args.command.now c.cut_to-frame.result c.args.size (rw c.rect.ensures at c.cut_to-frame.ensures.common)
    ((rw c.region_of.ensures at c.meets.ensures).0 c.if-not-meets.false)
