use Rattle.desk_span.specs.InnerRouted.{kept_with}
use Rattle.desk_span.specs.Kept.{live_in}
use Rattle.desk_span.proofs.ScreenLemmas.{nothing_drew, placed_there, wanting_drew}
use Rattle.desk_span.proofs.on_screen.draw_on_screen.Goals as goal

pub piece-requires-clause-places : goal.piece-requires-clause-places
piece-requires-clause-places g c =
    let d = c.args.command.now in
    placed_there (live_in (kept_with c.args.screen.now c.args.bitmaps.now c.args.brushes.now)) d.target d.source d.call c.requires.target c.requires.can.source c.requires.can.places

pub returns-in-None-clause-drew : goal.returns-in-None-clause-drew
returns-in-None-clause-drew g c =
    nothing_drew (kept_with c.args.screen.now c.args.bitmaps.now c.args.brushes.now) c.args.command.now _ c.requires.serves c.in-None.ensures.none

pub returns-in-Err-clause-drew : goal.returns-in-Err-clause-drew
returns-in-Err-clause-drew g c =
    rw c.in-Err.ensures.err (wanting_drew (kept_with c.args.screen.now c.args.bitmaps.now c.args.brushes.now) c.args.command.now c.in-Some.piece
    c.in-Some.ensures.some c.requires.target _ c.requires.serves c.memory_wanting.result c.memory_wanting.ensures)
