-- The job has no stop time.
use Rattle.std.proofs.Common.{sym}
use Rattle.mp_job_lists.proofs.lists.JobListsOutlineLists.until.Goals as goal

pub returns : goal.returns
returns g c = sym c.self.invariant.whole.until
