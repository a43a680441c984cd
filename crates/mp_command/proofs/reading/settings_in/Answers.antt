-- What the configuration says is found with it.
use Rattle.mp_control.specs.Settings.{settings_in}
use Rattle.mp_command_files.specs.Refused.{outcome_of}
use Rattle.mp_command.proofs.Texts.{settings_given, settings_refused}
use Rattle.mp_command.proofs.reading.settings_in.Goals as goal

pub returns-clause-settings : goal.returns-clause-settings
returns-clause-settings g c =
    let says = rw (c.shape.ensures, c.rules.ensures) at c.config_in.ensures.settings in settings_given _ _ c.args.flow.now settings_in _ says

pub returns-clause-refused : goal.returns-clause-refused
returns-clause-refused g c =
    let refused = rw (c.shape.ensures, c.rules.ensures) at c.config_in.ensures.refused in settings_refused _ _ c.args.flow.now outcome_of _ refused
