use Rattle.std.proofs.Common.{subst, ◌≡◌, Bool, true, false, not}
use Rattle.std.proofs.lemmas.Bool.{false≢true}
use Rattle.region.specs.Extents.{AreExtents}
use Rattle.region.proofs.ExtentLemmas.{apart_is_nothing}
use Rattle.region.proofs.region.Region.is_apart.Goals as goal

not_both : (b : Bool) → not b ≡ true → b ≡ true → ⊥
not_both true e f = false≢true e
not_both false e f = false≢true f

pub returns : goal.returns
returns c =
    let left = subst (λ l. AreExtents l c.self.inside.extents) c.self.view_is c.self.invariant.extents in
    let right = subst (λ l. AreExtents l c.other.inside.extents) c.other.view_is c.other.invariant.extents in
    λ t. apart_is_nothing c.args.self.now c.args.other.now c.self.inside.extents c.other.inside.extents left right
    (λ m. not_both c.meets.result t (c.meets.ensures.1 m))
