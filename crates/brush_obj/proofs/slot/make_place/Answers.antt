use Rattle.std.proofs.Common.{rules, ◌≡◌, false, refl, None}
use Rattle.brush_obj.specs.Slots.{is_among}
use Rattle.brush_obj.proofs.SlotLemmas.{added}
use Rattle.brush_obj.proofs.slot.make_place.Goals as goal

pub returns-clause-empty : goal.returns-clause-empty
returns-clause-empty c =
    let none : is_among c.args.slots.now.items c.args.owner ≡ false = search rules in
    rw c.in_ok-push.ensures.items (added c.args.owner c.args.slots.now.items (record { owner = c.args.owner; realised = None }) none refl).0

pub returns-clause-others : goal.returns-clause-others
returns-clause-others c =
    let none : is_among c.args.slots.now.items c.args.owner ≡ false = search rules in
    rw c.in_ok-push.ensures.items (added c.args.owner c.args.slots.now.items (record { owner = c.args.owner; realised = None }) none refl).2
