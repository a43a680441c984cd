-- What the outline of a job tells of the job's records and groups.
use Rattle.std.specs.Prelude.{◌≡◌, ◌↔◌, ◌⊎◌, ℕ, ◌<◌, List, All, AllPairs, Any, Contains, IsSomeAnd}
use Rattle.mp_names.specs.declared.names.Name.TheVariants.{Rec as RecName, Group}
use Rattle.mp_names.specs.declared.names.Tag.{Tag}
use Rattle.mp_names.specs.Names.{In}
use Rattle.mp_names.specs.Outlines.{groups_of, is_woken}
use Rattle.mp_model.specs.declared.record.Output.{Output}
use Rattle.mp_model.specs.declared.record.Rec.{Rec}
use Rattle.mp_model.specs.Entry.{Entry}
use Rattle.mp_model.specs.Facts.{JobFacts, QueryFacts}
use Rattle.mp_model.specs.Folds.{entry_at, of_key, timeline}
use Rattle.mp_model.specs.Stages.{answer_rows, stage_records}
use Rattle.mp_job.specs.Records.{record_at}
use Rattle.mp_outline.specs.JobOutline.{outline_of, record_names}

-- the record has this time, key and tag
abbrev pub HasParts : ℕ → ℕ → Tag → Rec → Type 0
HasParts t k g r = (r.time ≡ t) × (r.key ≡ k) × (r.tag ≡ g)

-- the first tag comes first: by its first number, then by its second
abbrev pub TagIsBefore : Tag → Tag → Type 0
TagIsBefore a b = (a.0 < b.0) ⊎ ((a.0 ≡ b.0) × (a.1 < b.1))

-- of two records with one time the first has the lesser tag
abbrev pub RecordsInOrder : Rec → Rec → Type 0
RecordsInOrder r s = r.time ≡ s.time → TagIsBefore r.tag s.tag

-- and of two outputs
abbrev pub OutputsInOrder : Output → Output → Type 0
OutputsInOrder o p = o.time ≡ p.time → TagIsBefore o.tag p.tag

module _ {Cell : Type 0} where
  -- the groups of a key in a stage, by time, as the query sees them
  abbrev pub timeline_of : QueryFacts Cell → JobFacts → ℕ → ℕ → List Entry
  timeline_of q job j k = timeline q j k (stage_records q job.events j)

  -- the one of a time
  abbrev pub group_at : QueryFacts Cell → JobFacts → ℕ → ℕ → ℕ → Entry
  group_at q job j t k = entry_at q j k (of_key k (stage_records q job.events j)) t

  -- a name is one of stage 0 exactly where the record at its tag's index has its time, key and tag
  abbrev pub NamesTellInputs : QueryFacts Cell → JobFacts → Type 0
  NamesTellInputs q job =
      (t k : ℕ) (g : Tag)
      → (In (RecName 0 t k g) (record_names q job 0) ↔ IsSomeAnd (record_at q job.events g.1) (HasParts t k g))

  -- two records of a stage with one time and one tag are one record
  abbrev pub NamesTellRecords : QueryFacts Cell → JobFacts → Type 0
  NamesTellRecords q job =
      (j : ℕ) (r s : Rec)
      → Contains (stage_records q job.events j) r
      → Contains (stage_records q job.events j) s
      → r.time ≡ s.time
      → r.tag ≡ s.tag
      → r ≡ s

  -- the records of a stage that have one time stand in the order of their tags
  abbrev pub RecordsFollowTags : QueryFacts Cell → JobFacts → Type 0
  RecordsFollowTags q job = (j : ℕ) → AllPairs RecordsInOrder (stage_records q job.events j)

  -- and so do answer rows
  abbrev pub RowsFollowTags : QueryFacts Cell → JobFacts → Type 0
  RowsFollowTags q job = AllPairs OutputsInOrder (answer_rows q job.events)

  -- the outline has a group exactly where it stands on the timeline of its key
  abbrev pub GroupsAreOnTimelines : QueryFacts Cell → JobFacts → Type 0
  GroupsAreOnTimelines q job =
      let o = outline_of q job in
      (j t k : ℕ)
      → j < o.stages
      → (In (Group j t k) (groups_of o j) ↔ Contains (timeline_of q job j k) (group_at q job j t k))

  -- and it is woken by the outline exactly where it is by the query
  abbrev pub WakesAreTimelines : QueryFacts Cell → JobFacts → Type 0
  WakesAreTimelines q job =
      (j t k : ℕ) → j < job.shape.stages → is_woken (outline_of q job) j t k ≡ (group_at q job j t k).woken

  -- a timeline has the groups of its times, in the order of time and each once
  abbrev pub TimelinesRise : QueryFacts Cell → JobFacts → Type 0
  TimelinesRise q job =
      (j k : ℕ)
      → AllPairs (λ e f. e.time < f.time) (timeline_of q job j k)
      × All (λ e. group_at q job j e.time k ≡ e) (timeline_of q job j k)

  -- a record is one of a group exactly where its name has the group's time and key
  abbrev pub GroupsHoldNames : QueryFacts Cell → JobFacts → Type 0
  GroupsHoldNames q job =
      (j t k : ℕ) (g : Tag)
      → j < job.shape.stages
      → (In (RecName j t k g) (record_names q job j) ↔ Any (λ r. r.tag ≡ g) (group_at q job j t k).recs)

  -- the records of a group stand in the order of their tags
  abbrev pub GroupsFollowTags : QueryFacts Cell → JobFacts → Type 0
  GroupsFollowTags q job = (j t k : ℕ) → AllPairs (λ r s. TagIsBefore r.tag s.tag) (group_at q job j t k).recs
