-- `asked_of` meets its contract: the records that are left out lie behind the report's end.
use Rattle.report.proofs.LastRecords.{asked_enough}
use Rattle.report.proofs.asked_of.Goals as goal

pub returns-then-whole-count-clause-result_value : goal.returns-then-whole-count-clause-result_value
returns-then-whole-count-clause-result_value c = asked_enough c.args.report.now c.args.count c.if-whole-count.true
