-- The dataflow and the job that a command asks for.
use Rattle.std.specs.Prelude.{ℕ, ◌≡◌, ◌++◌, Bool, true, List, []}
use Rattle.mp_control.specs.Settings.{SettingsFacts}
use Rattle.mp_job.specs.Legal.{ControlsFit, FirstsFit}
use Rattle.mp_job.specs.Parts.{job_of}
use Rattle.mp_model.specs.declared.record.Event.{Event}
use Rattle.mp_model.specs.Facts.{JobFacts}
use Rattle.mp_model.specs.Rules.{RuleFacts, are_within, given_values}
use Rattle.mp_names.specs.declared.controls.Control.{Control}
use Rattle.mp_names.specs.declared.controls.Shape.{Shape}
use Rattle.mp_names.specs.Outlines.{Outline}
use Rattle.mp_outline.specs.JobOutline.{outline_of}
use Rattle.mp_pipeline.specs.Pipes.{PipeFacts}
use Rattle.mp_plans.specs.Plans.{all_at_once_records, fluid_records}
use Rattle.mp_words.specs.declared.options.DemoOptions.{DemoOptions}
use Rattle.mp_words.specs.Values.{AuditAsked, CheckAsked, Options, QueryAsked}
use Rattle.mp_command.specs.declared.flow.Flow.{Flow}
use Rattle.mp_command.specs.declared.flow.FlowQuery.{FlowQuery}
use Rattle.mp_command.specs.declared.flow.FlowQuery.TheVariants.{Named}
use Rattle.mp_command.specs.Queries.{query_numbers, query_of, query_with, rules_of, stages_of}

-- the shape of so many workers, bins and stages
abbrev pub shape_with : ℕ → ℕ → ℕ → Shape
shape_with workers bins stages = record { workers = workers; bins = bins; stages = stages }

-- the shape of a dataflow's jobs
abbrev pub shape_of : Flow → Shape
shape_of flow = shape_with flow.workers flow.bins (stages_of flow.query)

-- a dataflow that is asked for, before the file of a pipeline is read
pub record FlowAsked : Type 0 where
  pub query : QueryAsked
  pub workers : ℕ
  pub bins : ℕ

-- the one that `run` or `replay` asks for
abbrev pub flow_of : Options → FlowAsked
flow_of asked = record { query = asked.query; workers = asked.workers; bins = asked.bins }

-- that which `check` asks for
abbrev pub flow_to_check : CheckAsked → FlowAsked
flow_to_check asked = record { query = asked.query; workers = asked.workers; bins = asked.bins }

-- that which `audit` asks for
abbrev pub flow_to_audit : AuditAsked → FlowAsked
flow_to_audit asked = record { query = asked.query; workers = asked.workers; bins = asked.bins }

-- the dataflow with the pipeline that was read, where it asks for one
abbrev pub flow_with : FlowAsked → PipeFacts → Flow
flow_with asked pipe = record { query = query_with asked.query pipe; workers = asked.workers; bins = asked.bins }

-- the dataflow of this query, of the size that is asked for
abbrev pub flow_for : FlowAsked → FlowQuery → Flow
flow_for asked query = record { query = query; workers = asked.workers; bins = asked.bins }

-- the dataflow that a demo asks for
abbrev pub flow_to_show : DemoOptions → Flow
flow_to_show asked = record { query = Named asked.query; workers = asked.workers; bins = asked.bins }

-- the first owners are of different bins of the shape, the values within the rules, and the control records of the shape
pub record SettingsFit (shape : Shape) (rules : List RuleFacts) (settings : SettingsFacts) : Type 0 where
  pub firsts : FirstsFit shape settings.firsts
  pub values : are_within rules settings.values ≡ true
  pub controls : ControlsFit shape settings.controls

-- the same of the shape and the rules of a dataflow
abbrev pub SettingsFitFlow : Flow → SettingsFacts → Type 0
SettingsFitFlow flow settings = SettingsFit (shape_of flow) (rules_of flow.query) settings

-- the job of a query with these numbers, of these events and settings
abbrev pub job_with : Shape → List ℕ → List Event → SettingsFacts → JobFacts
job_with shape numbers events settings = job_of numbers events settings.controls shape settings.firsts

-- the job of a dataflow with these events and settings
abbrev pub job_asked : Flow → List Event → SettingsFacts → JobFacts
job_asked flow events settings = job_with (shape_of flow) (query_numbers flow.query settings.values) events settings

-- the job as it is run: its control records are paced where that is asked for
abbrev pub run_of : Bool → JobFacts → JobFacts
run_of paced job = record job { paced = paced }

-- the machine's outline of a run of that job, by the query's table with the values of the configuration
abbrev pub outline_asked : Bool → Flow → List Event → SettingsFacts → Outline
outline_asked paced flow events settings =
    let some = query_of flow.query in outline_of (some.facts settings.values) (run_of paced (job_asked flow events settings))

-- the control records of a demo: every bin of the first stage moves at 600, and then one after the other from 1200 on
abbrev pub demo_controls : Shape → List Control
demo_controls shape = all_at_once_records shape 600 0 1 ++ fluid_records shape 1200 30 0 2

-- what a demo is run with: the usual first owners, the given values of the rules, and these control records
abbrev pub demo_settings : Flow → SettingsFacts
demo_settings flow = record { firsts = []; values = given_values (rules_of flow.query); controls = demo_controls (shape_of flow) }
