use Rattle.std.proofs.Common.{◌∙◌, ap, length, sym}
use Rattle.desk_span.specs.InnerRouted.{kept_with}
use Rattle.desk_span.proofs.CarryLemmas.{screen_carries}
use Rattle.desk_span.proofs.PaneLemmas.{written_whole}
use Rattle.desk_span.proofs.desk.Desk.drawn.Goals as goal

pub returns-in-Desk-clause-carries : goal.returns-in-Desk-clause-carries
returns-in-Desk-clause-carries g c =
    let k = kept_with c.self.inside.screen c.self.inside.bitmaps.items c.self.inside.brushes.items in
    let wide = ap length (sym c.as_mut_slice-brushes.ensures.value) ∙ c.as_mut_slice-brushes.ensures.len in
    rw (
      written_whole _ c.draw_on_screen.new.brushes c.self.inside.brushes.items (c.draw_on_screen.auto.brushes ∙ c.as_mut_slice-brushes.ensures.len) wide,
      c.draw_on_screen.ensures.faces,
      c.as_mut_slice-brushes.ensures.value,
      ← c.self.view_is,
    )
    (screen_carries k c.args.command.now c.draw_on_screen.result _ _ (rw (← c.self.view_is) at c.requires.serves)
    (rw (c.deref.ensures.value, c.as_mut_slice-brushes.ensures.value) at c.draw_on_screen.ensures.drew) c.in-Desk.is)
