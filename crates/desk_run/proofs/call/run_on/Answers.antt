use Rattle.desk_run.proofs.call.run_on.Goals as goal

pub returns-clause-ran : goal.returns-clause-ran
returns-clause-ran g c =
    let (h, ran) = c.run_all-ended.ensures.ran in
    record { ended = c.run_all-ended.result; status = c.status_of.ensures; desk = c.run_all-ended.new.run.desk; history = h; ran = ran }
