-- Each command ends as its function says; those that make no run leave the same, whatever a run keeps.
use Rattle.mp_command_files.specs.Refused.{outcome_in}
use Rattle.mp_command.proofs.Came.{came_demo, demo_leaves}
use Rattle.mp_command.proofs.Leaving.{leaves_without_run}
use Rattle.mp_run_command.specs.Keeping.{IsKeptBy}
use Rattle.mp_cli.proofs.serve.carry_out.Goals as goal

pub returns-in-Check-clause-left : goal.returns-in-Check-clause-left
returns-in-Check-clause-left g c = rw c.in-Check.is (leaves_without_run IsKeptBy _ _ _ _ tt c.check.ensures.left)

pub returns-in-Make-clause-left : goal.returns-in-Make-clause-left
returns-in-Make-clause-left g c = rw c.in-Make.is (leaves_without_run IsKeptBy _ _ _ _ tt c.make.ensures.left)

pub returns-in-Demo-clause-came : goal.returns-in-Demo-clause-came
returns-in-Demo-clause-came g c =
    rw c.in-Demo.is (came_demo g.D.Depot.files g.D.Depot.found g.D.Depot.read_faults g.D.Depot.write_faults c.args.depot.now c.args.depot.now _ c.demo.result c.demo.ensures.line c.demo.ensures.refused)

pub returns-in-Demo-clause-left : goal.returns-in-Demo-clause-left
returns-in-Demo-clause-left g c = rw c.in-Demo.is (demo_leaves IsKeptBy _ (outcome_in c.demo.result) (g.D.Depot.files c.args.depot.now))

pub returns-in-Audit-clause-left : goal.returns-in-Audit-clause-left
returns-in-Audit-clause-left g c = rw c.in-Audit.is (leaves_without_run IsKeptBy _ _ _ _ tt c.audit.ensures.left)
