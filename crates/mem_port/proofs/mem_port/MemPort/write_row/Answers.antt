use Rattle.std.proofs.Common.{◌∙◌, sym, ap, arith}
use Rattle.mem_port.specs.Port.{rest_of}
use Rattle.mem_port.proofs.PortLemmas.{row_draws, row_shown, row_taken, row_total}
use Rattle.mem_port.proofs.mem_port.MemPort.write_row.Goals as goal

pub slice_bounds-set_rect-end : goal.slice_bounds-set_rect-end
slice_bounds-set_rect-end c =
    let r = c.args.rect.now in
    let row = c.first_row-row in
    let size = c.size-width in
    sym (row_taken r row.result size.result c.args.from.now row.ensures size.ensures c.requires.inside.points c.requires.count)

pub set_rect-requires-clause-count : goal.set_rect-requires-clause-count
set_rect-requires-clause-count c =
    let r = c.args.rect.now in
    let row = c.first_row-row in
    let size = c.size-width in
    row_taken r row.result size.result c.args.from.now row.ensures size.ensures c.requires.inside.points c.requires.count
    ∙ row_total r row.result size.result row.ensures size.ensures

pub returns-clause-draws : goal.returns-clause-draws
returns-clause-draws c =
    let r = c.args.rect.now in
    let row = c.first_row-row in
    let size = c.size-width in
    let h = c.set_rect.ensures.same in
    row_draws c.args.target r row.result size.result c.args.from.now _ _ _ _ row.ensures size.ensures c.set_rect.ensures.shown
    (ap rest_of h.cuts)
    (omega (arith, h.faults)) c.push.ensures.rects c.push.ensures.points c.push.ensures.spare c.push.ensures.room

pub returns-clause-shown : goal.returns-clause-shown
returns-clause-shown c =
    let r = c.args.rect.now in
    let row = c.first_row-row in
    let size = c.size-width in
    row_shown c.args.target r row.result size.result c.args.from.now _ _ row.ensures size.ensures
    c.set_rect.ensures.shown
