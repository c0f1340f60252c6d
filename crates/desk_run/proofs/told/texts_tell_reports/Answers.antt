use Rattle.desk_run.proofs.TextLemmas.{histories_back, lists_back, report_back}
use Rattle.desk_run.proofs.told.texts_tell_reports.Goals as goal

pub returns-clause-report : goal.returns-clause-report
returns-clause-report c = report_back

pub returns-clause-lists : goal.returns-clause-lists
returns-clause-lists c = lists_back

pub returns-clause-histories : goal.returns-clause-histories
returns-clause-histories c = histories_back
