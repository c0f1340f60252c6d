use Rattle.std.proofs.Common.{refl}
use Rattle.desk_run.proofs.CallLemmas.{lacked_ends, others_same_kept, refusal_ends, stays_same}
use Rattle.desk_run.specs.Input.{checked}
use Rattle.desk_run.proofs.call.run_bytes.Goals as goal

pub returns-in-Ok : goal.returns-in-Ok
returns-in-Ok g c = record { ends = rw c.in-Ok.ensures.checked c.run_input.ensures.ends; others = c.run_input.ensures.others }

pub returns-in-Err-Refused : goal.returns-in-Err-Refused
returns-in-Err-Refused g c = record {
  ends = refusal_ends c.in-Err-Refused.refusal (checked c.args.bytes.now) _ _ c.say.result (rw c.in-Err-Refused.field-0-is at c.in-Err-Refused.ensures.checked)
      refl (rw c.in-Err-Refused.field-0-is at c.say.ensures);
  others = others_same_kept _ _;
}

pub returns-in-Err-NoMemory : goal.returns-in-Err-NoMemory
returns-in-Err-NoMemory g c = record { ends = lacked_ends (checked c.args.bytes.now) _ _ (stays_same _ _ refl) refl refl; others = others_same_kept _ _ }
