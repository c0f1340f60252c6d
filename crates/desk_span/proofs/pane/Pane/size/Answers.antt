use Rattle.surf_obj.specs.Object.{object_layout, object_bytes}
use Rattle.surf_obj.specs.LayoutLaws.{length-values_in}
use Rattle.desk_span.proofs.pane.Pane.size.Goals as goal

pub returns-clause-places : goal.returns-clause-places
returns-clause-places c =
    let s = c.self.inside.pixels in
    rw (← c.self.view_is, c.size.ensures.size) (length-values_in (object_layout s) (object_bytes s))
