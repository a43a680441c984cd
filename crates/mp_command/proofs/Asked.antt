-- The job that is made is the one that is asked for, and so is the query's table in it.
use Rattle.std.proofs.Common.{◌≡◌, ◌≤◌, ◌∙◌, true, Option, List, [], ◌∷◌, ℕ, length, ap, ap₂, arith, refl, subst, sym}
use Rattle.std.proofs.Math.Nat.{pow-le-pow_right}
use Rattle.mp_control.specs.Settings.{SettingsFacts}
use Rattle.mp_job.specs.Parts.{job_of}
use Rattle.mp_job.proofs.Whole.{whole_table}
use Rattle.mp_model.specs.declared.record.Event.{Event}
use Rattle.mp_model.specs.Facts.{JobFacts, QueryFacts}
use Rattle.mp_model.specs.QueryLaws.{BeginsFresh}
use Rattle.mp_model.specs.Rules.{RuleFacts, are_within, given_values, numbers_with}
use Rattle.mp_model.specs.Tables.{table_of}
use Rattle.mp_names.specs.declared.controls.Shape.{Shape}
use Rattle.mp_pipeline.specs.Laws.{said_again}
use Rattle.mp_pipeline.specs.Pipes.{PipeFacts, are_sound, numbers_of, pipe_facts, pipe_table}
use Rattle.mp_words.specs.declared.options.QueryName.{QueryName}
use Rattle.mp_words.specs.Limits.{IsBinCount}
use Rattle.mp_command.specs.declared.flow.Flow.{Flow}
use Rattle.mp_command.specs.declared.flow.FlowQuery.{FlowQuery}
use Rattle.mp_command.specs.declared.flow.FlowQuery.TheVariants.{Named, Piped}
use Rattle.mp_command.specs.Config.{FlowAsked, SettingsFit, SettingsFitFlow, flow_for, flow_with, job_asked, job_with, shape_with}
use Rattle.mp_command.specs.Queries.{SomeQuery, query_named, query_of}

-- a power of two that words can say is at most 4096
pub few_bins : (bins : ℕ) → IsBinCount bins → bins ≤ 4096
few_bins bins power = omega (arith, power.2, pow-le-pow_right {n = 2} (omega arith) power.1)

-- a query that has its given values has those that it is given, which are within its rules
numbers_are : (rules : List RuleFacts) (values : List ℕ) → are_within rules values ≡ true → numbers_with rules (given_values rules) values ≡ values
numbers_are [] [] within = refl
numbers_are [] (value ∷ values) within = cc
numbers_are (rule ∷ rules) values within = refl

-- the job that is made of a query with the values that it took is the one with the values that were read
pub job_is : (rules : List RuleFacts) (own : List ℕ) (settings : SettingsFacts) {job : JobFacts} {numbers taken : List ℕ} {events : List Event} {workers bins stages size : ℕ}
    → job ≡ job_of numbers events settings.controls (shape_with workers bins stages) settings.firsts
    → numbers ≡ numbers_with rules own taken → taken ≡ settings.values → stages ≡ size
    → job ≡ job_with (shape_with workers bins size) (numbers_with rules own settings.values) events settings
job_is rules own settings {events = events} {workers = workers} {bins = bins} made given taken_is sized =
    made ∙ ap₂ (λ (ns : List ℕ) (n : ℕ). job_with (shape_with workers bins n) ns events settings)
    (given ∙ ap (λ (vs : List ℕ). numbers_with rules own vs) taken_is) sized

-- the table of a query in such a job is the query's own
pub own_table : {Cell : Type 0} (facts : List ℕ → QueryFacts Cell) (shape : Shape) (numbers : List ℕ) (events : List Event) (settings : SettingsFacts) (job : JobFacts) → BeginsFresh (facts numbers)
    → job ≡ job_with shape numbers events settings → table_of facts job ≡ facts numbers
own_table facts shape numbers events settings job fresh made =
    ap (table_of facts) made ∙ whole_table facts numbers events settings.controls shape settings.firsts fresh

-- what is said of the table in a job is said of the query's own, in the job that it is
pub of_own : {Cell : Type 0} (P : QueryFacts Cell → JobFacts → Type 0) (table q : QueryFacts Cell) (job whole : JobFacts) → table ≡ q → job ≡ whole → P table job → P q whole
of_own P table q job whole same made h = subst (λ (j : JobFacts). P q j) made (subst (λ (t : QueryFacts _). P t job) same h)

-- a dataflow that is asked for is that of its query
flow_is : (asked : FlowAsked) (flow : Flow) (found : PipeFacts) (query : FlowQuery) → flow ≡ flow_with asked found → flow.query ≡ query → flow ≡ flow_for asked query
flow_is asked flow found query same is = same ∙ ap (flow_for asked) (sym (ap (λ (f : Flow). f.query) same) ∙ is)

-- what was read for a dataflow with a pipeline is fit for a job by the numbers of the pipeline
pub piped_fits : (asked : FlowAsked) (flow : Flow) (found pipe : PipeFacts) (settings : SettingsFacts) → flow ≡ flow_with asked found → flow.query ≡ Piped pipe → are_sound pipe.lines ≡ true
    → SettingsFitFlow flow settings → SettingsFit (shape_with asked.workers asked.bins (pipe_facts (numbers_of pipe)).stages) [] settings
piped_fits asked flow found pipe settings same is sound fit =
    subst (λ (p : PipeFacts). SettingsFit (shape_with asked.workers asked.bins (length p.lines)) [] settings) (sym (said_again pipe sound))
    (subst (λ (f : Flow). SettingsFitFlow f settings) (flow_is asked flow found (Piped pipe) same is) fit)

module _ (asked : FlowAsked) (events : List Event) (settings : SettingsFacts) (P : SomeQuery → List ℕ → JobFacts → Type 0) where
  -- what is said of a dataflow: of its query with the values of the configuration, and of its job
  abbrev pub OfQuery : Flow → Type 0
  OfQuery flow = P (query_of flow.query) settings.values (job_asked flow events settings)

  -- what is said of a query's dataflow is said of the one that is asked for
  pub query_of_flow : (flow : Flow) (found : PipeFacts) (query : FlowQuery) → flow ≡ flow_with asked found → flow.query ≡ query → OfQuery (flow_for asked query) → OfQuery (flow_with asked found)
  query_of_flow flow found query same is h = subst (λ (f : Flow). OfQuery f) (sym (flow_is asked flow found query same is) ∙ same) h

  -- what is said of the query of a name, given the values, is said of the dataflow of this name
  pub query_of_name : (name given : QueryName) → name ≡ given → (own : List ℕ) → own ≡ given_values (query_named given).rules → are_within (query_named name).rules settings.values ≡ true
      → P (query_named given) (numbers_with (query_named given).rules own settings.values) (job_with (shape_with asked.workers asked.bins ((query_named given).facts own).stages) (numbers_with (query_named given).rules own settings.values) events settings)
      → OfQuery (flow_for asked (Named name))
  query_of_name name given same own is within h =
      let some = query_named given in
      let inside : are_within some.rules settings.values ≡ true = subst (λ (q : QueryName). are_within (query_named q).rules settings.values ≡ true) same within in
      subst (λ (q : QueryName). OfQuery (flow_for asked (Named q))) (sym same)
      (subst (λ (ns : List ℕ). P some ns (job_with (shape_with asked.workers asked.bins (some.facts (given_values some.rules)).stages) ns events settings)) (numbers_are some.rules settings.values inside)
      (subst (λ (vs : List ℕ). P some (numbers_with some.rules vs settings.values) (job_with (shape_with asked.workers asked.bins (some.facts vs).stages) (numbers_with some.rules vs settings.values) events settings)) is h))

module _ (asked : FlowAsked) (events : List Event) (settings : SettingsFacts) (P : (Cell : Type 0) → QueryFacts Cell → JobFacts → Type 0) where
  -- what is said of a dataflow: of the table of its query, and of its job
  abbrev pub OfFlow : Flow → Type 0
  OfFlow flow = P (query_of flow.query).Cell ((query_of flow.query).facts settings.values) (job_asked flow events settings)

  -- by its table with these values alone
  abbrev pub OfTable : SomeQuery → List ℕ → JobFacts → Type 0
  OfTable some values job = P some.Cell (some.facts values) job

  pub of_flow : (flow : Flow) (found : PipeFacts) (query : FlowQuery) → flow ≡ flow_with asked found → flow.query ≡ query → OfFlow (flow_for asked query) → OfFlow (flow_with asked found)
  of_flow = query_of_flow asked events settings OfTable

  pub of_named : (name given : QueryName) → name ≡ given → (own : List ℕ) → own ≡ given_values (query_named given).rules → are_within (query_named name).rules settings.values ≡ true
      → P (query_named given).Cell ((query_named given).facts (numbers_with (query_named given).rules own settings.values)) (job_with (shape_with asked.workers asked.bins ((query_named given).facts own).stages) (numbers_with (query_named given).rules own settings.values) events settings)
      → OfFlow (flow_for asked (Named name))
  of_named = query_of_name asked events settings OfTable

  -- what is said by the numbers of a pipeline is said by its lines
  pub of_piped : (pipe : PipeFacts) → are_sound pipe.lines ≡ true
      → P (Option ℕ) (pipe_facts (numbers_of pipe)) (job_with (shape_with asked.workers asked.bins (pipe_facts (numbers_of pipe)).stages) (numbers_of pipe) events settings)
      → OfFlow (flow_for asked (Piped pipe))
  of_piped pipe sound h =
      subst (λ (q : QueryFacts (Option ℕ)). P (Option ℕ) q (job_with (shape_with asked.workers asked.bins q.stages) (numbers_of pipe) events settings)) (ap pipe_table (said_again pipe sound)) h
