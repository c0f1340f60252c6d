use Rattle.eng_calls.proofs.HeldLemmas.{source_differs}
use Rattle.eng_calls.proofs.copies.to_source.Goals as goal

pub shifted_back-requires : goal.shifted_back-requires
shifted_back-requires c = rw (c.src.ensures, c.corner.ensures, c.rect.ensures) (source_differs c.args.call.now c.requires)
