-- What a query makes of events.
use Rattle.std.specs.Prelude.{◌≡◌, ℕ, List, map}
use Rattle.std.specs.List.{range_with_len}
use Rattle.mp_names.specs.declared.names.Name.{Name}
use Rattle.mp_model.specs.declared.record.Event.{Event}
use Rattle.mp_model.specs.Facts.{QueryFacts}
use Rattle.mp_model.specs.Stages.{answer_rows, stage_records}
use Rattle.mp_outline.specs.JobOutline.{name_of_record}
use Rattle.mp_job_lists.specs.declared.fold.Folded.{Folded}

module _ {Cell : Type 0} where
  -- the names of the records of the first so many stages
  abbrev pub names_below : QueryFacts Cell → List Event → ℕ → List (List Name)
  names_below q events stages = map (λ j. map (name_of_record j) (stage_records q events j)) (range_with_len 0 stages)

  -- the names of the records of all stages, what each record of the first one posts, and the answer rows
  pub record IsFolded (q : QueryFacts Cell) (events : List Event) (folded : Folded) : Type 0 where
    pub records : map (λ names. names.items) folded.records.items ≡ names_below q events q.stages
    pub posts : folded.posts ≡ map (q.posts 0) (stage_records q events 0)
    pub rows : folded.rows.items ≡ answer_rows q events
