-- The job that a command asks for of a query.
use Rattle.std.specs.Prelude.{ℕ, List}
use Rattle.mp_control.specs.Settings.{SettingsFacts}
use Rattle.mp_model.specs.declared.record.Event.{Event}
use Rattle.mp_model.specs.Facts.{JobFacts, QueryFacts}
use Rattle.mp_model.specs.Rules.{RuleFacts, numbers_with}
use Rattle.mp_words.specs.Values.{Options}
use Rattle.mp_command.specs.Config.{job_with, shape_with}

-- of so many workers and bins as are asked for, of the events and the settings that were read; the query's rules have the values that
-- were read, in place of its own
abbrev pub job_by : {Cell : Type 0} → (List ℕ → QueryFacts Cell) → List RuleFacts → List ℕ → Options → List Event → SettingsFacts → JobFacts
job_by facts rules own asked events settings =
    job_with (shape_with asked.workers asked.bins (facts own).stages) (numbers_with rules own settings.values) events settings
