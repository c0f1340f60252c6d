use Rattle.eng_calls.proofs.copies.source_rect.Goals as goal

pub returns-clause-points : goal.returns-clause-points
returns-clause-points c = rw c.moved_to_source.ensures at c.cut_to.ensures.common
