use Rattle.std.proofs.Common.{◌∙◌, sym, subst}
use Rattle.region.specs.InnerExtents.{IsKeptRegion}
use Rattle.region.proofs.region.Region.copied.Goals as goal

pub invariant_of-result : goal.invariant_of-result
invariant_of-result c =
    subst (λ l. IsKeptRegion l c.self.inside.extents) (sym (c.in_ok-from_slice.ensures.items ∙ c.deref.ensures.value)) c.self.invariant
