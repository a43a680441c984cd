-- Each round adds an option.
use Rattle.std.proofs.Common.{subst, List}
use Rattle.std.proofs.lemmas.List.{take_all}
use Rattle.mp_words.specs.Tables.{Denotes, shape_with}
use Rattle.mp_words.specs.declared.command.OptionRule.{OptionRule}
use Rattle.mp_words.proofs.Tables.{added, fresh}
use Rattle.mp_words.proofs.command.with_options.Goals as goal

pub loop-option-init : goal.loop-option-init
loop-option-init c = fresh _ c.args.options.now _ c.new-command.ensures.app c.new-command.ensures.local

pub loop-option-preserved : goal.loop-option-preserved
loop-option-preserved c = added _ _ _ _ _ _ _ c.loop-option-test.true c.loop-option.invariant c.in_ok-command.ensures c.arg_of.ensures.rule c.arg_of.ensures.local

pub returns : goal.returns
returns c = subst (λ (options : List OptionRule). Denotes (shape_with c.args.name.now options) c.loop-option.command) (take_all _ _ c.loop-option-test.false) c.loop-option.invariant
