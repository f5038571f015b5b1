-- `latest_of` meets its contract: each number is that of its record.
use Rattle.report.specs.Latest.{latest_of}
use Rattle.report.proofs.latest_of.Goals as goal

pub returns : goal.returns
unfolding latest_of
returns c =
    let failed = c.last_failed-failed.ensures in
    rw (c.number_in.ensures, c.number_in-2.ensures, c.code_in.ensures, failed)
