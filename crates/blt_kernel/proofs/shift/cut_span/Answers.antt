use Rattle.std.proofs.Common.{arith, rules, SFits, w64, w32}
use Rattle.std.proofs.lemmas.Int.{ints, to_z-of_z}
use Rattle.blt_kernel.proofs.SpanLemmas.{there_none, there_some, there_ends, from_not_negative, to_not_negative}
use Rattle.geom_base.specs.Tests.{pos-unsigned_abs}
use Rattle.blt_kernel.proofs.shift.cut_span.Goals as goal

pub returns-then-to-from-clause-points : goal.returns-then-to-from-clause-points
returns-then-to-from-clause-points c =
    let corner : SFits w32 c.args.corner = search rules in
    let at : SFits w32 c.args.at = search rules in
    let f : SFits w64 c.first_there-from.result = search rules in
    let t : SFits w64 c.last_there-to.result = search rules in
    there_none c.args.span.from c.args.span.to c.args.len c.args.corner c.args.at c.first_there-from.result c.last_there-to.result
    (simp to_z-of_z at c.first_there-from.ensures) (simp to_z-of_z at c.last_there-to.ensures) (omega (arith, ints))

pub returns-clause-points : goal.returns-clause-points
returns-clause-points c =
    let corner : SFits w32 c.args.corner = search rules in
    let at : SFits w32 c.args.at = search rules in
    let f : SFits w64 c.first_there-from.result = search rules in
    let t : SFits w64 c.last_there-to.result = search rules in
    let from_is = simp to_z-of_z at c.first_there-from.ensures in
    let to_is = simp to_z-of_z at c.last_there-to.ensures in
    let f_is = pos-unsigned_abs c.first_there-from.result (from_not_negative c.args.span.from _ c.first_there-from.result from_is) in
    let t_is = pos-unsigned_abs c.last_there-to.result
    (to_not_negative c.args.span.from _ c.first_there-from.result c.last_there-to.result from_is (omega (arith, ints))) in
    there_some c.args.span.from c.args.span.to c.args.len c.args.corner c.args.at c.first_there-from.result c.last_there-to.result _ _ from_is to_is
    (simp to_z-of_z f_is) (simp to_z-of_z t_is)

pub returns-clause-there : goal.returns-clause-there
returns-clause-there c some =
    let corner : SFits w32 c.args.corner = search rules in
    let at : SFits w32 c.args.at = search rules in
    let f : SFits w64 c.first_there-from.result = search rules in
    let t : SFits w64 c.last_there-to.result = search rules in
    let from_is = simp to_z-of_z at c.first_there-from.ensures in
    let to_is = simp to_z-of_z at c.last_there-to.ensures in
    let f_is = pos-unsigned_abs c.first_there-from.result (from_not_negative c.args.span.from _ c.first_there-from.result from_is) in
    let t_is = pos-unsigned_abs c.last_there-to.result
    (to_not_negative c.args.span.from _ c.first_there-from.result c.last_there-to.result from_is (omega (arith, ints))) in
    there_ends c.args.span.from c.args.span.to c.args.len c.args.corner c.args.at c.first_there-from.result c.last_there-to.result _ _ from_is to_is
    (simp to_z-of_z f_is) (simp to_z-of_z t_is)
