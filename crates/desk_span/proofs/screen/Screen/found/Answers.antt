use Rattle.std.proofs.Common.{subst, sym}
use Rattle.desk_span.proofs.PieceLemmas.{IsNear, found_there, moves_near, moves_near_back, near_moves_back, source_near}
use Rattle.desk_span.proofs.screen.Screen.found.Goals as goal

pub shifted_back-by-requires : goal.shifted_back-by-requires
shifted_back-by-requires c = rw (c.src.ensures, c.corner.ensures, c.rect.ensures) (near_moves_back _ _ (source_near c.args.call.now c.requires.coordinates))

pub shifted-requires-clause-left : goal.shifted-requires-clause-left
shifted-requires-clause-left c =
    let by = rw (c.src.ensures, c.corner.ensures, c.rect.ensures) at c.shifted_back-by.ensures in
    (moves_near c.args.frame.now c.self.inside.size c.self.invariant.1 (rw (← c.self.view_is) at c.requires.frame) c.shifted_back-by.result
    (subst IsNear (sym by) (source_near c.args.call.now c.requires.coordinates))).left

pub shifted-requires-clause-top : goal.shifted-requires-clause-top
shifted-requires-clause-top c =
    let by = rw (c.src.ensures, c.corner.ensures, c.rect.ensures) at c.shifted_back-by.ensures in
    (moves_near c.args.frame.now c.self.inside.size c.self.invariant.1 (rw (← c.self.view_is) at c.requires.frame) c.shifted_back-by.result
    (subst IsNear (sym by) (source_near c.args.call.now c.requires.coordinates))).top

pub shifted-requires-clause-right : goal.shifted-requires-clause-right
shifted-requires-clause-right c =
    let by = rw (c.src.ensures, c.corner.ensures, c.rect.ensures) at c.shifted_back-by.ensures in
    (moves_near c.args.frame.now c.self.inside.size c.self.invariant.1 (rw (← c.self.view_is) at c.requires.frame) c.shifted_back-by.result
    (subst IsNear (sym by) (source_near c.args.call.now c.requires.coordinates))).right

pub shifted-requires-clause-bottom : goal.shifted-requires-clause-bottom
shifted-requires-clause-bottom c =
    let by = rw (c.src.ensures, c.corner.ensures, c.rect.ensures) at c.shifted_back-by.ensures in
    (moves_near c.args.frame.now c.self.inside.size c.self.invariant.1 (rw (← c.self.view_is) at c.requires.frame) c.shifted_back-by.result
    (subst IsNear (sym by) (source_near c.args.call.now c.requires.coordinates))).bottom

pub seen_from-requires : goal.seen_from-requires
seen_from-requires c =
    let by = rw (c.src.ensures, c.corner.ensures, c.rect.ensures) at c.shifted_back-by.ensures in
    moves_near_back c.cut_to-found.result c.self.inside.size c.self.invariant.1 c.cut_to-found.ensures.inside c.shifted_back-by.result
    (subst IsNear (sym by) (source_near c.args.call.now c.requires.coordinates))

pub returns-clause-points : goal.returns-clause-points
returns-clause-points c =
    let by = rw (c.src.ensures, c.corner.ensures, c.rect.ensures) at c.shifted_back-by.ensures in
    rw (← c.self.view_is) (found_there c.args.call.now c.self.inside.size c.args.frame.now c.shifted.result c.cut_to-found.result c.seen_from.result
    c.cut_to.result c.shifted_back-by.result by (rw (← c.self.view_is) at c.requires.frame) c.shifted.ensures.edges c.cut_to-found.ensures.common
    c.seen_from.ensures c.cut_to.ensures.common)
