use Rattle.std.proofs.Common.{ap, refl, ◌∙◌}
use Rattle.std.proofs.lemmas.Result.{on_ok_weaker}
use Rattle.geom_base.specs.Points.{is_in_some}
use Rattle.geom_base.specs.Step.{Change}
use Rattle.surf_obj.specs.Surface.{changed}
use Rattle.desk_span.specs.InnerBeside.{is_own}
use Rattle.desk_span.proofs.DrawLemmas.{drawn_beside, holds_own}
use Rattle.desk_span.proofs.draw.draw_call.Goals as goal

pub draw-requires-clause-held : goal.draw-requires-clause-held
draw-requires-clause-held c = rw c.holding-call.ensures (holds_own c.is_own.result c.lent_from-seen.result)

pub returns-clause-ok : goal.returns-clause-ok
returns-clause-ok c =
    let t = c.args.target.now in
    let d = c.args.command.now in
    let o = c.args.others in
    on_ok_weaker c.draw.result (λ drew s beside.
    (rw (c.holding-call.ensures, c.is_own.ensures, c.lent_from-seen.ensures, c.stand_of.ensures) at drew)
    ∙ ap (λ (new : Change). changed new (λ p. is_in_some p c.args.clip.now.rects) t)
    (drawn_beside c.calls_move.ensures.lent s d t o.sight.now.at o.sight.now.part beside.screen
    (record { source = c.source.result; mask = c.mask.result; brush = c.brush.result; back = d.back }) (is_own d.target d.source)
    (λ target. c.source.ensures s t target beside c.requires.source)
    (c.mask.ensures s d.target t beside c.requires.other) (c.brush.ensures s d.target t beside) refl c.args.call.now))
    c.draw.ensures.ok
