use Rattle.eng_calls.proofs.HeldLemmas.{source_moves}
use Rattle.eng_calls.proofs.copies.moved_to_source.Goals as goal

pub shifted-requires-clause-left : goal.shifted-requires-clause-left
shifted-requires-clause-left c = rw c.to_source.ensures (source_moves c.args.call.now c.args.rect.now c.requires.coordinates c.requires.on_target).left

pub shifted-requires-clause-top : goal.shifted-requires-clause-top
shifted-requires-clause-top c = rw c.to_source.ensures (source_moves c.args.call.now c.args.rect.now c.requires.coordinates c.requires.on_target).top

pub shifted-requires-clause-right : goal.shifted-requires-clause-right
shifted-requires-clause-right c = rw c.to_source.ensures (source_moves c.args.call.now c.args.rect.now c.requires.coordinates c.requires.on_target).right

pub shifted-requires-clause-bottom : goal.shifted-requires-clause-bottom
shifted-requires-clause-bottom c = rw c.to_source.ensures (source_moves c.args.call.now c.args.rect.now c.requires.coordinates c.requires.on_target).bottom

pub returns : goal.returns
returns c = rw c.to_source.ensures at c.shifted.ensures.edges
