-- What is made of a job is listed for its run.
use Rattle.std.proofs.Common.{◌≡◌, ◌∙◌, ℕ, List, Bool, map, sym, ap, subst, subst₂, arith}
use Rattle.std.specs.List.{flat_map}
use Rattle.mp_names.specs.declared.controls.Control.{Control}
use Rattle.mp_names.specs.declared.controls.Shape.{Shape}
use Rattle.mp_names.specs.declared.names.Name.{Name}
use Rattle.mp_names.specs.Outlines.{OutlineIsSound, moves_of as moves_of_outline, owner_before}
use Rattle.mp_bins.specs.Notes.{Notes, moves_of}
use Rattle.mp_model.specs.Answers.{in_order, line_of, one_thread_answer}
use Rattle.mp_model.specs.declared.record.Event.{Event}
use Rattle.mp_model.specs.declared.record.Output.{Output}
use Rattle.mp_model.specs.Facts.{JobFacts, QueryFacts}
use Rattle.mp_model.specs.QueryLaws.{BeginsFresh, HasStages}
use Rattle.mp_model.specs.TableLaws.{WholeJobsHaveTheQuery}
use Rattle.mp_model.specs.Tables.{table_of}
use Rattle.mp_job.specs.Legal.{JobIsLegal}
use Rattle.mp_job.specs.Runs.{IsRunOf}
use Rattle.mp_job.proofs.Runs.{run_controls, run_is_legal, run_shape, run_table}
use Rattle.mp_job_owners.specs.Told.{TellOwners}
use Rattle.mp_outline.specs.JobOutline.{layout_of, name_of_row, outline_of}
use Rattle.mp_job_lists.specs.declared.fold.Folded.{Folded}
use Rattle.mp_job_lists.specs.Folded.{IsFolded, names_below}
use Rattle.mp_job_lists.specs.Listed.{IsListed, IsWhole}
use Rattle.mp_job_lists.specs.Packets.{name_of_move}
use Rattle.mp_job_lists.proofs.Packets.{packets_are}

module _ {Cell : Type 0} (facts : List ℕ → QueryFacts Cell) (whole : WholeJobsHaveTheQuery facts) (its job : JobFacts) (run : IsRunOf its job) (legal : JobIsLegal (table_of facts its) its) (all : IsWhole its) (fresh : BeginsFresh (facts its.values)) where
  -- the table of the run is the query's own
  own_table : facts its.values ≡ table_of facts job
  own_table = sym (whole its all.until all.from fresh) ∙ run_table its job run facts

  run_events : its.events ≡ job.events
  run_events = ap (λ (f : JobFacts). f.events) run

  pub run_folded : (folded : Folded) → IsFolded (facts its.values) its.events folded → IsFolded (table_of facts job) job.events folded
  run_folded folded h = subst₂ (λ (q : QueryFacts Cell) (events : List Event). IsFolded q events folded) own_table run_events h

  pub run_answer : (folded : Folded) → IsFolded (facts its.values) its.events folded → flat_map line_of (in_order folded.rows.items) ≡ one_thread_answer (table_of facts job) job.events
  run_answer folded h = ap (λ (rows : List Output). flat_map line_of (in_order rows)) (run_folded folded h).rows

  -- the owners are those of the run
  run_told : (notes : Notes) → TellOwners (outline_of (table_of facts its) its) notes → TellOwners (outline_of (table_of facts job) job) notes
  unfolding owner_before moves_of_outline
  run_told notes h =
      subst
      (λ (f : JobFacts). TellOwners (outline_of (table_of facts f) f) notes)
      run
      (record { owners = h.owners; moves = h.moves })

  run_layout : layout_of its ≡ layout_of job
  run_layout = ap layout_of run

  pub listed : HasStages (table_of facts job)
      → OutlineIsSound (outline_of (table_of facts job) job)
      → (shape : Shape) → shape ≡ its.shape
      → (controls : List Control) → controls ≡ its.controls
      → (paced : Bool) → job.paced ≡ paced
      → (folded : Folded) → IsFolded (facts its.values) its.events folded
      → (rows : List Name) → rows ≡ map name_of_row folded.rows.items
      → (notes : Notes) → notes.layout ≡ layout_of its → TellOwners (outline_of (table_of facts its) its) notes
      → (packets : List Name) → packets ≡ map name_of_move (moves_of notes)
      → IsListed (table_of facts job) job shape controls paced (map (λ names. names.items) folded.records.items) folded.posts rows packets notes
  listed stages sound shape is controls are paced pace folded fold rows named notes layout told packets moved =
      let q = table_of facts job in
      let of_job = run_is_legal its job run facts legal in
      let made = run_folded folded fold in
      let owners = run_told notes told in
      record {
        legal = of_job;
        sound = sound;
        whole = record { until = ap (λ (f : JobFacts). f.until) (sym run) ∙ all.until; from = ap (λ (f : JobFacts). f.from) (sym run) ∙ all.from };
        few_stages = omega (arith, of_job.stages, stages.1);
        shape_is = is ∙ run_shape its job run;
        controls_are = are ∙ run_controls its job run;
        pace_is = sym pace;
        records_are = made.records ∙ ap (λ (n : ℕ). names_below q job.events n) (sym of_job.stages);
        posts_are = made.posts;
        rows_are = named ∙ ap (map name_of_row) made.rows;
        packets_are = moved ∙ ap (map name_of_move) owners.moves ∙ packets_are (outline_of q job);
        layout_is = layout ∙ run_layout;
        told = owners;
      }
