-- No stage begins with wakes.
use Rattle.std.proofs.Common.{sym}
use Rattle.mp_model.specs.Tables.{table_of}
use Rattle.mp_job_lists.proofs.Unwoken.{no_opening_names}
use Rattle.mp_job_lists.proofs.lists.JobListsOutlineLists.opening.Goals as goal

pub returns : goal.returns
returns g c = sym (no_opening_names (table_of g.Q.Query.facts g.J.Naming.job) g.J.Naming.job c.self.invariant.legal c.self.invariant.whole c.args._stage)
