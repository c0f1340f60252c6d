use Rattle.std.proofs.Common.{◌∙◌, ap, length, sym}
use Rattle.desk_span.proofs.PaneLemmas.{whole_read, written_whole}
use Rattle.desk_span.proofs.pane.Pane.read.Goals as goal

pub returns-clause-ok : goal.returns-clause-ok
returns-clause-ok c =
    let now = c.args.self.now in
    let wide = ap length (sym c.as_mut_slice.ensures.value) ∙ c.as_mut_slice.ensures.len in
    written_whole _ c.read_rect.new.out c.resize.new.self.items (c.read_rect.auto.out ∙ c.as_mut_slice.ensures.len) wide
    ∙ whole_read now.size _ _ now.values _ c.read_rect.new.out _ c.size-size.ensures.size c.view.ensures.size c.view.ensures.values c.whole.ensures
    c.size-size.ensures.places c.read_rect.ensures.values
