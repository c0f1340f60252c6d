use Rattle.std.proofs.Common.{true}
use Rattle.desk_span.proofs.PieceLemmas.{coordinates_aimed}
use Rattle.desk_span.proofs.screen.Screen.part.Goals as goal

pub held_at-requires-clause-coordinates : goal.held_at-requires-clause-coordinates
held_at-requires-clause-coordinates g c = rw c.aimed.ensures (coordinates_aimed true c.args.call.now c.requires.coordinates)
