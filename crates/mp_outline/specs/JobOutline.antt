-- The outline of a job: what the protocol is told of its query, its events and its control records.
use Rattle.std.specs.Prelude.{ℕ, zero, List, [], map, nat_lt, if◌then◌else◌}
use Rattle.std.specs.Option.{option_map_or}
use Rattle.mp_names.specs.declared.names.Name.{Name}
use Rattle.mp_names.specs.declared.names.Name.TheVariants.{Group, Rec as RecName, Row as RowName}
use Rattle.mp_names.specs.Limits.{most_in_bundle}
use Rattle.mp_names.specs.Outlines.{Outline}
use Rattle.mp_job.specs.Below.{bin_of_key}
use Rattle.mp_job.specs.Below.{Layout, first_owner}
use Rattle.mp_model.specs.declared.record.Event.{Event}
use Rattle.mp_model.specs.declared.record.Output.{Output}
use Rattle.mp_model.specs.declared.record.Rec.{Rec}
use Rattle.mp_model.specs.Facts.{JobFacts, QueryFacts}
use Rattle.mp_model.specs.Stages.{answer_rows, stage_records}
use Rattle.mp_job.specs.Records.{record_at}

-- what a record of a stage is called
abbrev pub name_of_record : ℕ → Rec → Name
name_of_record j r = RecName j r.time r.key r.tag

-- what an answer row is called
abbrev pub name_of_row : Output → Name
name_of_row o = RowName o.time o.tag

-- what the group is called that a stage is to wake at a time, for a key
abbrev pub name_of_wake : ℕ → ℕ × ℕ → Name
name_of_wake j w = Group j w.0 w.1

-- the shape of a job and its first owners
abbrev pub layout_of : JobFacts → Layout
layout_of job = record { shape = job.shape; firsts = job.firsts }

module _ {Cell : Type 0} where
  -- the names of the records of a stage, in their order; past the last stage there are none
  abbrev pub record_names : QueryFacts Cell → JobFacts → ℕ → List Name
  record_names q job j = if nat_lt j job.shape.stages then map (name_of_record j) (stage_records q job.events j) else []

  -- the posts of the record of this name: in stage 0 those of the record at its tag's index, in later stages none
  abbrev pub posts_of : QueryFacts Cell → List Event → Name → List ℕ
  posts_of q events (RecName zero t k g) = option_map_or (q.posts 0) (record_at q events g.1) []
  posts_of q events _ = []

  -- the names of the answer rows, in their order
  abbrev pub row_names : QueryFacts Cell → JobFacts → List Name
  row_names q job = map name_of_row (answer_rows q job.events)

  -- the names of the groups that a stage is to wake from the beginning; past the last stage there are none
  abbrev pub opening_names : QueryFacts Cell → JobFacts → ℕ → List Name
  opening_names q job j = if nat_lt j job.shape.stages then map (name_of_wake j) (q.waking j) else []

  -- all that the protocol is told of a job of the query, whose table in the job this is
  abbrev pub outline_of : QueryFacts Cell → JobFacts → Outline
  outline_of q job = record {
    workers = job.shape.workers;
    bins = job.shape.bins;
    stages = job.shape.stages;
    controls = job.controls;
    first_owner = λ j b. first_owner (layout_of job) j b;
    bin_of = λ k. bin_of_key k job.shape.bins;
    records = record_names q job;
    posts = posts_of q job.events;
    rows = row_names q job;
    opening = opening_names q job;
    bundle = most_in_bundle;
    paced = job.paced;
    until = job.until;
  }
