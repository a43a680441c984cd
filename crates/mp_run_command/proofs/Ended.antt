-- How a run ends, by the span that is asked for.
use Rattle.std.proofs.Common.{◌≡◌, ◌⊎◌, ◌∙◌, inl, inr, ℕ, Bool, List, Option, Some, Result, Ok, Err, ap, arith, refl, subst, sym}
use Rattle.std.specs.Prelude.{IfErr}
use Rattle.std.proofs.lemmas.Result.{on_err_weaker, on_ok_weaker}
use Rattle.mp_checkpoint_laws.specs.Files.{IsFileOf}
use Rattle.mp_control.specs.Settings.{SettingsFacts}
use Rattle.mp_model.specs.declared.record.Event.{Event}
use Rattle.mp_model.specs.Facts.{JobFacts, QueryFacts}
use Rattle.mp_names.specs.declared.kinds.Kept.{Kept}
use Rattle.mp_outside.specs.Fault.{Rose}
use Rattle.mp_outside.specs.Files.{Files}
use Rattle.mp_opening.specs.Checkpoints.{CheckpointOf}
use Rattle.mp_words.specs.Values.{From, Options, SpanAsked, Until, Whole}
use Rattle.mp_words.specs.Words.{Run}
use Rattle.mp_command.specs.declared.flow.Flow.{Flow}
use Rattle.mp_command_files.specs.declared.refusal.Refusal.{Refusal}
use Rattle.mp_command_files.specs.declared.refusal.Refusal.TheVariants as refusal
use Rattle.mp_command.specs.Audits.{LacksCheckpoint, HasCheckpoint, bad_checkpoint_of}
use Rattle.mp_command_files.specs.Outcome.{StopsAnswer}
use Rattle.mp_command.specs.Config.{flow_of, flow_with, job_asked, outline_asked}
use Rattle.mp_command.specs.Ends.{CameTo, Leaves, WritesFile}
use Rattle.mp_command.specs.Inputs.{Found, inputs_of, nothing_found}
use Rattle.mp_command_files.specs.Outcome.{BadCheckpoint, NoMemory, Outcome, status_of}
use Rattle.mp_command.specs.Queries.{SomeQuery, query_of}
use Rattle.mp_command.specs.Reading.{ReadsAll}
use Rattle.mp_command_files.specs.Refused.{outcome_of}
use Rattle.mp_command.specs.Spans.{IsConfirmedBy, IsRefutedBy, format_by, resumed_from, stopped_at}
use Rattle.mp_command.specs.Writing.{Answer, IsTextInSpan, IsTextOf, IsTextOfJob, IsTextOfRest, IsTextOfStop, Keeping, Purpose, WritesAll, WritesSome, targets_of}
use Rattle.mp_command.proofs.Came.{came_refuted, came_stopped}
use Rattle.mp_command.proofs.Leaving.{leaves_alone, leaves_part, refuted_late}
use Rattle.mp_command.proofs.Parted.{all_as, some_as}
use Rattle.mp_run_command.specs.Keeping.{IsKeptOf}
use Rattle.mp_run_command.specs.Wrote.{EndsInSpan, Writes, Wrote}

-- a run that was stopped refutes nothing
or_refuted : {T : Type 0} (Refutes : Outcome → Type 0) (end : Result T Refusal) → IfErr end (λ r. StopsAnswer (outcome_of r)) → IfErr end (λ r. StopsAnswer (outcome_of r) ⊎ Refutes (outcome_of r))
or_refuted Refutes (Ok x) stops = tt
or_refuted Refutes (Err r) stops = inl stops

-- A depot, by its files and its count of the faults of writes; a query by its number, the texts of its cells and its table, with these
-- values; the bytes that a job of it goes on from
module _ {D : Type 0} (files : D → Option Files) (write_faults : D → ℕ) {Cell : Type 0} (number : ℕ) (text : ℕ → Cell → List ℕ) (facts : List ℕ → QueryFacts Cell) (values bytes : List ℕ) (job : JobFacts) (asked : Options) (old new : D) where
  abbrev pub Ends : {T : Type 0} → Result T Refusal → Type 0
  Ends end = EndsInSpan files write_faults number text facts values job bytes asked end old new

  -- the text for a purpose in this span
  abbrev pub InSpan : SpanAsked → Purpose → List ℕ → Type 0
  InSpan span purpose written = IsTextInSpan number text facts values span bytes job (IsKeptOf (facts values) job asked) purpose written

  -- what is written in a span that is the one that is asked for
  in_span : {T : Type 0} (end : Result T Refusal) (span : SpanAsked) → asked.span ≡ span → Writes files write_faults (InSpan span) asked end old new → Ends end
  in_span end span is writes = record {
    wrote = subst (λ (s : SpanAsked). Wrote (InSpan s) (targets_of (Run asked)) end (files old) (files new)) (sym is) writes.wrote;
    refused = or_refuted (λ o. (bad_checkpoint_of asked.span ≡ Some o) × IsRefutedBy number text facts values asked.span bytes × (files new ≡ files old)) end writes.refused;
    failed = writes.failed;
  }

  -- a run of all events
  pub whole_ends : {T : Type 0} (end : Result T Refusal) → asked.span ≡ Whole → Writes files write_faults (IsTextOfJob (facts values) job (IsKeptOf (facts values) job asked)) asked end old new → Ends end
  whole_ends end is writes = in_span end Whole is writes

  -- one that stops
  pub stop_ends : {T : Type 0} (end : Result T Refusal) (t : ℕ) (save : List ℕ) → asked.span ≡ Until t save → job.values ≡ values → (stopped : JobFacts) → stopped ≡ stopped_at t job
      → Writes files write_faults (IsTextOfStop number text facts stopped.values stopped t) asked end old new → Ends end
  stop_ends end t save is own stopped made writes =
      in_span end (Until t save) is
      (subst (λ (vs : List ℕ). Writes files write_faults (IsTextOfStop number text facts vs (stopped_at t job) t) asked end old new) own
      (subst (λ (j : JobFacts). Writes files write_faults (IsTextOfStop number text facts j.values j t) asked end old new) made writes))

  -- one that goes on from a checkpoint
  pub rest_ends : {T : Type 0} (end : Result T Refusal) (name : List ℕ) → asked.span ≡ From name → (c : CheckpointOf Cell) → IsFileOf (format_by number text facts values) c bytes
      → (resumed : JobFacts) → resumed ≡ resumed_from text c job
      → Writes files write_faults (IsTextOfRest facts resumed) asked end old new → Ends end
  rest_ends end name is c file resumed made writes =
      let rest = subst (λ (j : JobFacts). Writes files write_faults (IsTextOfRest facts j) asked end old new) made writes in
      let Is = IsTextOfRest facts (resumed_from text c job) in
      let Goes = InSpan (From name) in
      let turns : (purpose : Purpose) (written : List ℕ) → Is purpose written → Goes purpose written = λ purpose written h. (c, file, h) in
      in_span end (From name) is (record {
        wrote = record {
          whole = on_ok_weaker end (λ w. all_as Is Goes turns (targets_of (Run asked)) (files old) (files new) w) rest.wrote.whole;
          part = on_err_weaker end (λ w. some_as Is Goes turns (targets_of (Run asked)) (files old) (files new) w) rest.wrote.part;
        };
        refused = rest.refused;
        failed = rest.failed;
      })

module _ {D : Type 0} (files : D → Option Files) (write_faults : D → ℕ) {Cell : Type 0} (number : ℕ) (text : ℕ → Cell → List ℕ) (facts : List ℕ → QueryFacts Cell) (values bytes : List ℕ) (job : JobFacts) (asked : Options) (kept : D) where
  -- where there is no memory for a job nothing is written
  pub short_ends : {T : Type 0} → Ends files write_faults number text facts values bytes job asked kept kept {T = T} (Err refusal.NoMemory)
  short_ends = record {
    wrote = record { whole = tt; part = inl refl };
    refused = inl (inr refl);
    failed = λ eight. absurd (omega (arith, eight));
  }

  -- nor where what a run goes on from is no checkpoint
  pub refuted_ends : {T : Type 0} (r : Refusal) (name : List ℕ) → asked.span ≡ From name
      → (outcome_of r ≡ NoMemory) ⊎ ((outcome_of r ≡ BadCheckpoint name) × IsRefutedBy number text facts values (From name) bytes)
      → Ends files write_faults number text facts values bytes job asked kept kept {T = T} (Err r)
  refuted_ends r name is (inl short) = record {
    wrote = record { whole = tt; part = inl refl };
    refused = inl (inr short);
    failed = λ seven. absurd (omega (arith, sym seven ∙ ap status_of short));
  }
  refuted_ends r name is (inr (bad, refuted)) = record {
    wrote = record { whole = tt; part = inl refl };
    refused = inr (ap bad_checkpoint_of is ∙ ap Some (sym bad), subst (λ (s : SpanAsked). IsRefutedBy number text facts values s bytes) (sym is) refuted, refl);
    failed = λ seven. absurd (omega (arith, sym seven ∙ ap status_of bad));
  }

-- where there is no memory for a job its run writes nothing
pub short_writes : {D T : Type 0} (files : D → Option Files) (write_faults : D → ℕ) (IsText : Purpose → List ℕ → Type 0) (asked : Options) (kept : D) → Writes files write_faults {T = T} IsText asked (Err refusal.NoMemory) kept kept
short_writes files write_faults IsText asked kept = record {
  wrote = record { whole = tt; part = inl refl };
  refused = inr refl;
  failed = λ eight. absurd (omega (arith, eight));
}

-- A query by its number, the texts of its cells and its table, with these values; the bytes that a job of it goes on from, and what is
-- known of the steps that are kept
module _ {Cell : Type 0} (number : ℕ) (text : ℕ → Cell → List ℕ) (facts : List ℕ → QueryFacts Cell) (values bytes : List ℕ) (job : JobFacts) (Keeps : List (List Kept) → Type 0) where
  -- what a run goes on from is a checkpoint where it has written an answer
  answer_confirms : (span : SpanAsked) (written : List ℕ) → IsTextInSpan number text facts values span bytes job Keeps Answer written → IsConfirmedBy number text facts values span bytes
  answer_confirms Whole written is = tt
  answer_confirms (Until t save) written is = tt
  answer_confirms (From name) written (c, file, is) = (c, file)

-- how a run of a job of a query ends, with these values and the bytes that were read
abbrev pub EndsBy : {D T : Type 0} → (D → Option Files) → (D → ℕ) → SomeQuery → List ℕ → List ℕ → JobFacts → Options → Result T Refusal → D → D → Type 0
EndsBy files write_faults some values bytes job asked end old new =
    EndsInSpan files write_faults some.number some.text some.facts values job bytes asked end old new

-- a run of all events ends so, whatever its query is
pub all_end : {D T : Type 0} (files : D → Option Files) (write_faults : D → ℕ) (asked : Options) (flow : Flow) (events : List Event) (settings : SettingsFacts) (bytes : List ℕ) (end : Result T Refusal) (old new : D) → asked.span ≡ Whole
    → (let q = (query_of flow.query).facts settings.values in let job = job_asked flow events settings in Writes files write_faults (IsTextOfJob q job (IsKeptOf q job asked)) asked end old new)
    → EndsBy files write_faults (query_of flow.query) settings.values bytes (job_asked flow events settings) asked end old new
all_end files write_faults asked flow events settings bytes end old new is writes =
    let some = query_of flow.query in
    whole_ends files write_faults some.number some.text some.facts settings.values bytes (job_asked flow events settings) asked old new end is writes

-- what was found is as a run wants it that has written by it
pub confirmed : (AreKept : Keeping) (asked : Options) (found : Found) (old new : Option Files) → WritesAll (IsTextOf AreKept (Run asked) found) (targets_of (Run asked)) old new → HasCheckpoint asked found
confirmed AreKept asked found old new (written, is, rest) =
    let flow = flow_with (flow_of asked) found.pipe in
    let some = query_of flow.query in
    let Keeps = AreKept (outline_asked asked.paced flow found.events found.settings) asked.depth asked.schedule in
    answer_confirms some.number some.text some.facts found.settings.values found.checkpoint (job_asked flow found.events found.settings) Keeps asked.span written is

-- What a command came to whose run ends without an answer

module _ {D : Type 0} (files : D → Option Files) (found : D → List ℕ → Bool → D → Type 0) (read_faults write_faults : D → ℕ) (asked : Options) (old new : D) where
  pub came_ended : (read : Found) (o : Outcome) (kept : Type 0) → ReadsAll (files old) (inputs_of (Run asked)) nothing_found read
      → StopsAnswer o ⊎ ((bad_checkpoint_of asked.span ≡ Some o) × LacksCheckpoint asked read × kept)
      → (status_of o ≡ 7 → WritesFile (Some (Run asked)) × Rose (write_faults old) (write_faults new))
      → CameTo files found read_faults write_faults (Some (Run asked)) o old new
  came_ended read o kept r (inl stops) fault = came_stopped files found read_faults write_faults (Run asked) old new read o r stops fault
  came_ended read o kept r (inr (bad, lacks, same)) fault = came_refuted files found read_faults write_faults (Run asked) old new read o r bad lacks

-- and what it leaves
pub leaves_ended : (AreKept : Keeping) (asked : Options) (read : Found) (o : Outcome) (old new : Option Files) → ReadsAll old (inputs_of (Run asked)) nothing_found read
    → StopsAnswer o ⊎ ((bad_checkpoint_of asked.span ≡ Some o) × LacksCheckpoint asked read × (new ≡ old))
    → WritesSome (IsTextOf AreKept (Run asked) read) (targets_of (Run asked)) old new
    → Leaves AreKept (Run asked) o old new
leaves_ended AreKept asked read o old new r (inl stops) some = leaves_part AreKept (Run asked) o old new stops (inr (read, r, some))
leaves_ended AreKept asked read o old new r (inr (bad, lacks, same)) some = leaves_alone AreKept (Run asked) o old new (λ zero. omega (arith, zero, refuted_late (Run asked) o bad)) same
