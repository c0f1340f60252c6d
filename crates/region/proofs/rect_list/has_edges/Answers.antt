use Rattle.std.proofs.Common.{rules}
use Rattle.region.proofs.rect_list.has_edges.Goals as goal

pub returns : goal.returns
returns c = (
  λ t. record {
    left = search (rules, c.is_edge.ensures.0 c.if-not-is_edge.false);
    top = search (rules, c.is_edge-2.ensures.0 c.if-not-is_edge-2.false);
    right = search (rules, c.is_edge-3.ensures.0 c.if-not-is_edge-3.false);
    bottom = search (rules, c.is_edge-4.ensures.0 t);
  },
  λ h. search (rules, c.is_edge-4.ensures.1, h.bottom),
)
