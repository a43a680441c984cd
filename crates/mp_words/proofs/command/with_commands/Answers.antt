-- Each round adds a command.
use Rattle.std.proofs.Common.{◌∙◌, ap, refl, sym}
use Rattle.std.proofs.lemmas.List.{drop_all}
use Rattle.clap.specs.Words.{app_of}
use Rattle.mp_words.specs.Tables.{with_all}
use Rattle.mp_words.proofs.Tables.{joined}
use Rattle.mp_words.proofs.command.with_commands.Goals as goal

pub loop-rule-init : goal.loop-rule-init
loop-rule-init c = refl

pub loop-rule-preserved : goal.loop-rule-preserved
loop-rule-preserved c = joined _ _ _ _ _ _ c.loop-rule-test.true c.in_ok-with_options.ensures c.in_ok-program.ensures ∙ c.loop-rule.invariant

pub returns : goal.returns
returns c = ap (with_all (app_of c.loop-rule.program)) (sym (drop_all _ _ c.loop-rule-test.false)) ∙ c.loop-rule.invariant
