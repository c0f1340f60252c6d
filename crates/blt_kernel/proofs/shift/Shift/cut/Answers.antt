use Rattle.std.proofs.Common.{SFits, w32, rules}
use Rattle.std.proofs.lemmas.Int.{to_z-of_z}
use Rattle.blt_kernel.proofs.ReadableLemmas.{cut_points}
use Rattle.blt_kernel.proofs.shift.Shift.cut.Goals as goal

pub returns-clause-points : goal.returns-clause-points
returns-clause-points c =
    let left : SFits w32 c.args.self.now.rect.left = search rules in
    let top : SFits w32 c.args.self.now.rect.top = search rules in
    let x : SFits w32 c.args.self.now.at.x = search rules in
    let y : SFits w32 c.args.self.now.at.y = search rules in
    cut_points c.args.self.now c.args.size c.args.edges.now.left c.args.edges.now.top c.args.edges.now.right c.args.edges.now.bottom _ _ _ _
    (simp to_z-of_z at c.cut_span-columns.ensures.points) (simp to_z-of_z at c.cut_span-rows.ensures.points)
