use Rattle.eng_calls.proofs.HeldLemmas.{finds_all}
use Rattle.eng_calls.proofs.copies.has_all.Goals as goal

pub returns-then-is_on_side : goal.returns-then-is_on_side
returns-then-is_on_side c = λ here.
    finds_all c.args.call.now c.args.size c.args.rect.now c.moved_to_source-part.result c.moved_to_source-part.ensures
    (c.is_on_side.ensures c.if-is_on_side.true) (c.is_on_side-then-is_on_side.ensures here)
