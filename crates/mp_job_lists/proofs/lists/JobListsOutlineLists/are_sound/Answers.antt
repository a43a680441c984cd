-- The outline of a legal job is sound.
use Rattle.mp_model.specs.Tables.{table_of}
use Rattle.mp_job_lists.proofs.Stages.{later_post_nothing}
use Rattle.mp_job_lists.proofs.lists.JobListsOutlineLists.are_sound.Goals as goal

pub returns-clause-sound : goal.returns-clause-sound
returns-clause-sound g c = c.self.invariant.sound

pub returns-clause-later : goal.returns-clause-later
returns-clause-later g c = later_post_nothing (table_of g.Q.Query.facts g.J.Naming.job) g.J.Naming.job
