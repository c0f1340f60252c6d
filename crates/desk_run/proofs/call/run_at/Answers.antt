use Rattle.std.proofs.Common.{refl, sym, inl, inr}
use Rattle.desk_shelf.specs.Shelf.{others_same, others_then}
use Rattle.desk_run.specs.Input.{checked_of}
use Rattle.desk_run.proofs.CallLemmas.{begun_serves, unchanged_same}
use Rattle.desk_run.proofs.call.run_at.Goals as goal

pub run_on-requires-clause-place : goal.run_on-requires-clause-place
run_on-requires-clause-place g c = rw (c.in-Ok.ensures.desk, c.in-Ok-enable_at.ensures.others.count) c.requires.place

pub run_on-requires-clause-serves : goal.run_on-requires-clause-serves
run_on-requires-clause-serves g c =
    rw c.in-Ok.ensures.desk (begun_serves (checked_of c.args.input.now) c.args.place _ (rw c.in-Ok.ensures.mode at c.in-Ok-enable_at.ensures.enables).ok)

pub run_on-requires-clause-can : goal.run_on-requires-clause-can
run_on-requires-clause-can g c = rw (c.in-Ok.ensures.desk, c.in-Ok.ensures.script) c.requires.can

pub returns-in-Err : goal.returns-in-Err
returns-in-Err g c = record {
  run = inr (inr (inr (record { is = refl; same = unchanged_same _; quiet = refl; count = refl })));
  others = others_same _ _;
}

pub returns-in-Ok-enable_at : goal.returns-in-Ok-enable_at
returns-in-Ok-enable_at g c = record {
  run = inl (record {
    begun = _;
    enabled = rw c.in-Ok.ensures.mode at c.in-Ok-enable_at.ensures.enables;
    ran = rw (c.in-Ok.ensures.script, c.in-Ok.ensures.desk) at c.run_on.ensures.ran;
  });
  others = others_then _ _ _ _ c.in-Ok-enable_at.ensures.others (rw c.in-Ok.ensures.desk at c.run_on.ensures.others);
}

pub returns-in-Err-ModeOut : goal.returns-in-Err-ModeOut
returns-in-Err-ModeOut g c =
    let refused = rw (c.in-Ok.ensures.mode, c.in-Err-ModeOut.field-0-is) at c.in-Err-ModeOut.ensures.enables in
    record {
      run = inr (inl (record { limit = c.in-Err-ModeOut.limit; has = sym refused.limit; same = refused.err; said = c.say.ensures }));
      others = c.in-Err-ModeOut.ensures.others;
    }

pub returns-in-Err-Fault : goal.returns-in-Err-Fault
returns-in-Err-Fault g c =
    let failed = rw (c.in-Ok.ensures.mode, c.in-Err-Fault.field-0-is) at c.in-Err-Fault.ensures.enables in
    record {
      run = inr (inr (inl (record { has = sym failed.limit; rose = failed.cause; same = failed.err; said = c.say-in-Err-Fault.ensures })));
      others = c.in-Err-Fault.ensures.others;
    }
