-- The shape is within its limits.
use Rattle.std.proofs.Common.{arith}
use Rattle.mp_command.proofs.Asked.{few_bins}
use Rattle.mp_command.proofs.jobs.job_plan.Goals as goal

pub returns-clause-legal : goal.returns-clause-legal
returns-clause-legal g c = record {
  some_worker = omega (arith, c.requires.workers.0);
  few_workers = c.requires.workers.1;
  few_bins = few_bins c.args.bins c.requires.bins;
  bins = c.requires.bins;
}
