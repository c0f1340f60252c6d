use Rattle.std.proofs.Common.{refl}
use Rattle.eng_calls.proofs.straight.straight_source.Goals as goal

pub returns-then-has_all : goal.returns-then-has_all
returns-then-has_all c = record {
  source = c.in_ok-source.was;
  xlate = rw c.in_ok-xlate.was (c.kind.ensures.trivial.0 c.in-Trivial.is);
  gives = c.if-not-copies_source.ensures.gives refl;
  reads = c.if-not-copies_source.ensures.reads refl;
  all = rw c.size.ensures at (c.has_all.ensures c.if-has_all.true);
}
