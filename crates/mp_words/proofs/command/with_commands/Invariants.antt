-- With the commands that are left the program is as it will be.
use Rattle.std.proofs.Common.{◌≡◌, drop}
use Rattle.clap.specs.Words.{app_of}
use Rattle.mp_words.specs.Tables.{with_all}
use Rattle.mp_words.proofs.command.with_commands.Given as goal

abbrev pub invariant-loop-rule : goal.invariant-loop-rule
invariant-loop-rule l = with_all (app_of l.program) (drop l.rule-index l.commands) ≡ with_all (app_of l.fn.program) l.commands
