use Rattle.desk_span.proofs.FrameLemmas.{src_stays}
use Rattle.desk_span.proofs.HandedLemmas.{screen_coordinates, screen_seen}
use Rattle.desk_span.proofs.screen.Screen.call.Goals as goal

pub shifted-call-requires : goal.shifted-call-requires
shifted-call-requires c = rw c.origin_from.ensures (screen_seen (record { place = c.self.inside.place; at = c.self.inside.at; size = c.self.inside.size; format = c.self.inside.format; table = c.self.inside.table }) c.args.command.now c.self.invariant.2 c.requires).call

pub lent_from-requires : goal.lent_from-requires
lent_from-requires c =
    rw (c.shifted-call.ensures, c.stand_of.ensures) (src_stays c.args.command.now.call _ _ (screen_seen (record { place = c.self.inside.place; at = c.self.inside.at; size = c.self.inside.size; format = c.self.inside.format; table = c.self.inside.table }) c.args.command.now c.self.invariant.2 c.requires).source)

pub returns-clause-coordinates : goal.returns-clause-coordinates
returns-clause-coordinates c =
    rw (c.lent_from.ensures, c.shifted-call.ensures, c.origin_from.ensures, c.stand_of.ensures)
    (screen_coordinates (record { place = c.self.inside.place; at = c.self.inside.at; size = c.self.inside.size; format = c.self.inside.format; table = c.self.inside.table }) c.args.command.now c.self.invariant.2 c.requires)
