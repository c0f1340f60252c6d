use Rattle.std.proofs.Common.{◌≡◌, ◌∙◌, [], Some, None, get_or, refl, sym}
use Rattle.std.proofs.lemmas.List.{get_or_default}
use Rattle.geom_base.specs.declared.port_answer.PortAnswer.TheVariants as answers
use Rattle.script_orders.specs.Live.{Any}
use Rattle.desk_span.specs.InnerBeside.{faces_of}
use Rattle.desk_span.proofs.BitmapLemmas.{among, drawn_carries, undrawn_carries}
use Rattle.desk_span.proofs.LiveLemmas.{within}
use Rattle.desk_span.proofs.bitmap.draw_on_bitmap.Goals as goal

pub returns-in-Ok-clause-carries : goal.returns-in-Ok-clause-carries
returns-in-Ok-clause-carries g c =
    let w = c.args.screen.now in
    let t = c.in-Some.target in
    let d = c.args.command.now in
    let items = c.args.bitmaps.now in
    let made = c.args.brushes.now in
    let n = c.args.number in
    let here : get_or items n None ≡ Some t = get_or_default items n None _
    (within (record { places = []; screens = []; bitmaps = items; brushes = faces_of made }) n Any (rw c.requires.target at c.requires.can.target))
    ∙ sym c.take.ensures.value ∙ c.in-Some.is in
    rw c.take.ensures.after (drawn_carries w items made _ _ n t here d c.requires.target c.requires.serves answers.Done c.in-Ok.ensures.keeps
    c.draw_there-drew.new.target (c.in-Ok.ensures.ok _ (record { places = refl; screens = refl })
    (rw c.take.ensures.after (among _ made refl n t here d.target c.requires.target))))

pub returns-in-Err-clause-carries : goal.returns-in-Err-clause-carries
returns-in-Err-clause-carries g c =
    let w = c.args.screen.now in
    let t = c.in-Some.target in
    let d = c.args.command.now in
    let items = c.args.bitmaps.now in
    let made = c.args.brushes.now in
    let n = c.args.number in
    let here : get_or items n None ≡ Some t = get_or_default items n None _
    (within (record { places = []; screens = []; bitmaps = items; brushes = faces_of made }) n Any (rw c.requires.target at c.requires.can.target))
    ∙ sym c.take.ensures.value ∙ c.in-Some.is in
    rw c.take.ensures.after (undrawn_carries w items made _ _ n t here d c.requires.target c.requires.serves c.in-Err.cause c.in-Err.ensures.keeps
    c.draw_there-drew.new.target c.in-Err.ensures.err c.in-Err.ensures.meets c.undrawn.result c.undrawn.ensures)
