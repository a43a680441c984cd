-- Words that are a command end as it does, and others as usage.
use Rattle.std.proofs.Common.{arith, refl}
use Rattle.mp_words.specs.Words.{asked_in}
use Rattle.mp_command_files.specs.Outcome.{NoMemory, Usage}
use Rattle.mp_command_files.specs.Refused.{outcome_in}
use Rattle.mp_command.proofs.Came.{came_short, came_usage}
use Rattle.mp_command.proofs.Leaving.{command_is_apart, ends_alone, ends_so}
use Rattle.mp_run_command.specs.Keeping.{IsKeptBy}
use Rattle.mp_cli.proofs.serve.serve.Goals as goal

pub returns-in-Ok-clause-came : goal.returns-in-Ok-clause-came
returns-in-Ok-clause-came g c = rw c.in-Ok.ensures.asked c.carry_out.ensures.came

pub returns-in-Ok-clause-ends : goal.returns-in-Ok-clause-ends
returns-in-Ok-clause-ends g c =
    rw c.in-Ok.ensures.asked (ends_so IsKeptBy (asked_in c.in-Ok.command) _ _ (command_is_apart c.in-Ok.command c.in-Ok.ensures.within) (outcome_in c.carry_out.result) c.carry_out.ensures.left)

pub returns-in-Err-Usage-clause-came : goal.returns-in-Err-Usage-clause-came
returns-in-Err-Usage-clause-came g c =
    let none = rw c.in-Err-Usage.field-0-is at c.in-Err-Usage.ensures.asked in
    came_usage g.D.Depot.files g.D.Depot.found g.D.Depot.read_faults g.D.Depot.write_faults c.args.depot.now c.args.depot.now _ (none refl)

pub returns-in-Err-Usage-clause-ends : goal.returns-in-Err-Usage-clause-ends
returns-in-Err-Usage-clause-ends g c = ends_alone IsKeptBy _ Usage _ _ (λ e. omega (arith, e)) refl

pub returns-in-Err-NoMemory-clause-came : goal.returns-in-Err-NoMemory-clause-came
returns-in-Err-NoMemory-clause-came g c = came_short g.D.Depot.files g.D.Depot.found g.D.Depot.read_faults g.D.Depot.write_faults c.args.depot.now c.args.depot.now _

pub returns-in-Err-NoMemory-clause-ends : goal.returns-in-Err-NoMemory-clause-ends
returns-in-Err-NoMemory-clause-ends g c = ends_alone IsKeptBy _ NoMemory _ _ (λ e. omega (arith, e)) refl
