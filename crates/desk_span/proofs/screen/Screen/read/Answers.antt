use Rattle.std.proofs.Common.{◌∙◌, ap, length, sym}
use Rattle.geom_base.specs.Points.{whole}
use Rattle.desk_span.specs.Kept.{ScreenKept}
use Rattle.desk_span.proofs.PaneLemmas.{screen_read, written_whole}
use Rattle.desk_span.proofs.screen.Screen.read.Goals as goal

pub returns-in-Done-clause-read : goal.returns-in-Done-clause-read
returns-in-Done-clause-read g c =
    let size = ap (λ (s : ScreenKept). s.size) c.self.view_is in
    let place = ap (λ (s : ScreenKept). s.place) c.self.view_is in
    let wide = ap length (sym c.as_mut_slice.ensures.value) ∙ c.as_mut_slice.ensures.len in
    written_whole _ c.read_at.new.out c.resize.new.self.items (c.read_at.auto.out ∙ c.as_mut_slice.ensures.len) wide
    ∙ screen_read c.args.self.now _ c.requires.serves c.read_at.new.out c.whole-whole.result (c.whole-whole.ensures ∙ ap whole size)
    (rw place at c.in-Done.ensures.values)
