use Rattle.std.proofs.Common.{◌∙◌}
use Rattle.desk_span.proofs.BitsLemmas.{bytes_after, row_shown}
use Rattle.desk_span.proofs.pane.Pane.row.Goals as goal

pub returns : goal.returns
returns c =
    let blank = c.in_ok-pixels.pixels in
    let kept = bytes_after blank c.bits_mut.result.now c.put_values.new.bits c.put_values.auto.bits c.bits_mut.ensures.bits in
    rw (← c.self.view_is, kept) (row_shown blank c.put_values.new.bits c.args.values.now _ _ _ _ c.in_ok-pixels.ensures c.format.ensures
    (c.in_ok-table.ensures ∙ c.colours.ensures) (rw c.layout-layout.ensures.layout at c.put_values.ensures))
