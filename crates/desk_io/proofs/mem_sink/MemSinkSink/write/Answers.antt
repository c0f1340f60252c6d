use Rattle.std.proofs.Common.{arith}
use Rattle.std.proofs.lemmas.Grind.{common_steps}
use Rattle.desk_io.proofs.mem_sink.MemSinkSink.write.Goals as goal

pub returns-clause-appends : goal.returns-clause-appends
returns-clause-appends c = record {
  bytes = λ w e. grind (arith, common_steps);
  some = (omega arith, grind (arith, common_steps));
  count = grind (arith, common_steps);
  later = grind (arith, common_steps);
}
