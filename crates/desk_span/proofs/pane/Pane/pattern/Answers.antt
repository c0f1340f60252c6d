use Rattle.surf_obj.specs.Object.{object_layout, object_bytes}
use Rattle.surf_obj.specs.LayoutLaws.{length-values_in}
use Rattle.desk_span.proofs.pane.Pane.pattern.Goals as goal

pub pattern-requires-clause-whole : goal.pattern-requires-clause-whole
pattern-requires-clause-whole c =
    let s = c.self.inside.pixels in
    let is = rw (← c.self.view_is) at c.in_ok-read.ensures.ok in
    record {
      table = rw c.format-format.ensures c.self.invariant;
      len = rw (c.size-size.ensures.size, c.deref.ensures.value, is) (length-values_in (object_layout s) (object_bytes s));
      fits = rw (c.format-format.ensures, c.deref.ensures.value) (rw (← c.self.view_is) at c.in_ok-read.ensures.fits);
    }
