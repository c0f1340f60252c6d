use Rattle.std.proofs.Common.{◌∙◌, sym}
use Rattle.brush_obj.proofs.SlotLemmas.{kept_there, kept_nowhere}
use Rattle.brush_obj.proofs.brush.BrushObj.rbrush.Goals as goal

pub returns-in_err-at : goal.returns-in_err-at
returns-in_err-at c =
    rw (c.from_residual.ensures, ← c.self.view_is)
    (sym (kept_nowhere c.args.owner c.self.inside.slots.items (rw c.as_slice.ensures.value at (sym c.find_place.ensures ∙ c.in_err-at.was))))

pub returns : goal.returns
returns c =
    rw (← c.self.view_is) (c.as_ref.ensures.value
    ∙ kept_there c.args.owner c.self.inside.slots.items c.in_ok-at.at c.index.result.now
    (rw c.as_slice.ensures.value at (sym c.find_place.ensures ∙ c.in_ok-at.was)) c.index.ensures)
