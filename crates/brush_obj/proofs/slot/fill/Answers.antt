use Rattle.std.proofs.Common.{◌∙◌, sym, refl}
use Rattle.brush_obj.proofs.SlotLemmas.{placed, found}
use Rattle.brush_obj.proofs.slot.fill.Goals as goal

pub returns-in-Some-clause-kept : goal.returns-in-Some-clause-kept
returns-in-Some-clause-kept c =
    rw c.set.ensures (placed c.args.owner c.args.slots.now c.in-Some.at (record { owner = c.args.owner; realised = c.args.realised })
    (sym c.find_place.ensures ∙ c.in-Some.is) refl).0

pub returns-in-Some-clause-place : goal.returns-in-Some-clause-place
returns-in-Some-clause-place c =
    rw c.set.ensures (placed c.args.owner c.args.slots.now c.in-Some.at (record { owner = c.args.owner; realised = c.args.realised })
    (sym c.find_place.ensures ∙ c.in-Some.is) refl).1

pub returns-in-Some-clause-others : goal.returns-in-Some-clause-others
returns-in-Some-clause-others c =
    rw c.set.ensures (placed c.args.owner c.args.slots.now c.in-Some.at (record { owner = c.args.owner; realised = c.args.realised })
    (sym c.find_place.ensures ∙ c.in-Some.is) refl).2

pub returns-in_default-clause-kept : goal.returns-in_default-clause-kept
returns-in_default-clause-kept c = absurd (found c.args.owner c.args.slots.now c.requires (sym c.find_place.ensures ∙ c.in_default.is))
