use Rattle.std.proofs.Common.{ap, refl}
use Rattle.desk_span.specs.Kept.{ScreenKept}
use Rattle.desk_span.proofs.SightLemmas.{stands_as}
use Rattle.desk_span.proofs.sight.part_seen.Goals as goal

pub returns : goal.returns
returns c =
    let table = ap (λ (s : ScreenKept). s.table) c.screen.view_is in
    let here = ap (λ (s : ScreenKept). s.at) c.screen.view_is in
    rw (c.of-2.ensures, c.in_ok-table.ensures, c.colours.ensures, c.shifted_back.ensures, c.origin_from.ensures, stands_as c.args.copy.corner c.screen.inside.at, table, here) refl
