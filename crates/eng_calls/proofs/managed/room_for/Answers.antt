use Rattle.std.proofs.Common.{◌∙◌, ◌*◌, ap, min}
use Rattle.geom_base.specs.declared.size.Size.{Size}
use Rattle.eng_calls.proofs.HeldLemmas.{row_fits}
use Rattle.eng_calls.proofs.managed.room_for.Goals as goal

pub returns : goal.returns
returns c = row_fits c.args.rect.now c.min.result c.requires.points c.requires.on_target
    (c.min.ensures ∙ ap (λ (s : Size). min (s.w * s.h) 4096) c.size-w.ensures)
