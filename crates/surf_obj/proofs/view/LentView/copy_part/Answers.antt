use Rattle.std.proofs.Common.{length, refl}
use Rattle.surf_obj.proofs.PartLemmas.{copied-pixel, run-room}
use Rattle.surf_obj.proofs.view.LentView.copy_part.Goals as goal

pub copy_bytes-requires-clause-there : goal.copy_bytes-requires-clause-there
copy_bytes-requires-clause-there c =
    let s = c.args.self.now in
    run-room s.layout c.args.x c.args.y c.args.count c.place-first.result _
    (length s.bits.now) s.holds c.requires.start c.requires.whole c.requires.columns c.requires.row c.place-first.ensures (rw c.bits.ensures refl)

pub returns-clause-values : goal.returns-clause-values
returns-clause-values c k lt =
    let s = c.args.self.now in
    copied-pixel s.layout c.copy_bytes.new.bits s.bits.now c.args.x c.args.y c.args.at c.place-first.result _ c.args.count k
    c.requires.start c.requires.whole c.place-first.ensures (rw c.bits.ensures refl) c.copy_bytes.ensures.values lt
    c.requires.columns c.requires.row
