-- The control records and the memory of a demo.
use Rattle.std.proofs.Common.{◌≡◌, ◌+◌, ◌*◌, ◌<◌, ◌≤◌, ◌++◌, ℕ, zero, suc, Option, Some, None, List, [], length, inl, inr, map, ap, sym, ◌∙◌, arith}
use Rattle.std.specs.Prelude.{All}
use Rattle.std.specs.List.{range_with_len}
use Rattle.std.specs.Option.{option_copied}
use denote.Bor.{Bor}
use Rattle.std.specs.Prelude.{nat_lt}
use Rattle.std.proofs.Math.Nat.{mod-lt}
use Rattle.std.proofs.lemmas.Bool.{and_parts, ltb-true}
use Rattle.std.proofs.lemmas.List.Elements.{All-append, All-cons, All-nil}
use Rattle.mp_job.specs.Legal.{ControlFits}
use Rattle.mp_model.specs.declared.record.Event.{Event}
use Rattle.mp_model.specs.Rules.{given_values}
use Rattle.mp_names.specs.declared.controls.Shape.{Shape}
use Rattle.mp_names.specs.Limits.{greatest_time}
use Rattle.mp_outside.specs.Fault.{Rose}
use Rattle.mp_outside.specs.Files.{Files, file_at, with_file}
use Rattle.mp_outside.proofs.FileLemmas.{file_at-with_file}
use Rattle.mp_pipeline.specs.Pipes.{may_stand}
use Rattle.mp_plans.specs.Plans.{all_at_once_records, fluid_records, planned}
use Rattle.mp_words.specs.declared.options.QueryName.{QueryName}
use Rattle.mp_words.specs.declared.options.QueryName.TheVariants.{Q1, Q2, Q3, Q4, Q5, Q6, Q7, Q8}
use Rattle.mp_command_files.specs.Outcome.{StopsAnswer}
use Rattle.mp_command_files.specs.Outcome.{Outcome, NoMemory, status_of}
use Rattle.mp_command.specs.declared.flow.FlowQuery.{FlowQuery}
use Rattle.mp_command.specs.declared.flow.FlowQuery.TheVariants.{Named, Piped}
use Rattle.mp_command.specs.Queries.{IsSound, answer_of, rules_of, stages_of}

-- a fact of the item of each index below a bound is one of each item of a list made from these
all_made : {X : Type 0} (P : X → Type 0) (f : ℕ → X) (a n : ℕ) → ((k : ℕ) → a ≤ k → k < a + n → P (f k)) → All P (map f (range_with_len a n))
all_made P f a zero each = All-nil P
all_made P f a (suc n) each =
    All-cons P (f a) (map f (range_with_len (a + 1) n)) (each a (omega arith) (omega arith)) (all_made P f (a + 1) n (λ k low high. each k (omega (arith, low)) (omega (arith, high))))

-- the records of a plan of the first stage fit where they are in time
planned_fit : (shape : Shape) (shift : ℕ) (time_of : ℕ → ℕ) → 0 < shape.workers → 0 < shape.stages → ((bin : ℕ) → bin < shape.bins → time_of bin ≤ greatest_time)
    → All (ControlFits shape) (planned shape 0 shift time_of)
planned_fit shape shift time_of some stages timely = all_made (ControlFits shape) _ 0 shape.bins (λ bin low high. record {
  in_time = timely bin (omega (arith, high));
  within = (mod-lt _ some, omega (arith, high), stages);
})

-- those of a demo do
pub two_moves_fit : (shape : Shape) → 0 < shape.workers → shape.bins ≤ 4096 → 0 < shape.stages
    → All (ControlFits shape) (([] ++ all_at_once_records shape 600 0 1) ++ fluid_records shape 1200 30 0 2)
two_moves_fit shape some few stages =
    All-append (ControlFits shape) ([] ++ all_at_once_records shape 600 0 1) (fluid_records shape 1200 30 0 2)
    (planned_fit shape 1 (λ bin. 600) some stages (λ bin low. omega arith))
    (planned_fit shape 2 (λ bin. 1200 + bin * 30) some stages (λ bin low. omega (arith, low, few)))

-- each query has a stage
stages_of_name : (name : QueryName) → 0 < stages_of (Named name)
stages_of_name Q1 = omega arith
stages_of_name Q2 = omega arith
stages_of_name Q3 = omega arith
stages_of_name Q4 = omega arith
stages_of_name Q5 = omega arith
stages_of_name Q6 = omega arith
stages_of_name Q7 = omega arith
stages_of_name Q8 = omega arith

pub some_stages : (query : FlowQuery) → IsSound query → 0 < stages_of query
some_stages (Named name) sound = stages_of_name name
some_stages (Piped pipe) sound = ltb-true _ _ (and_parts (nat_lt 0 (length pipe.lines)) (may_stand pipe.lines) sound).0

-- where no write is counted as failed, none failed
pub only_memory : (o : Outcome) → StopsAnswer o → (status_of o ≡ 7 → Rose 0 0) → o ≡ NoMemory
only_memory o (inl e) failed = absurd (never (failed (ap status_of e)))
  where
    never : Rose 0 0 → ⊥
    never (inl less) = omega (arith, less)
    never (inr last) = omega (arith, last)
only_memory o (inr e) failed = e

-- a name that was written holds what was written
pub got_written : (old new : Option Files) (name text : List ℕ) → old ≡ Some (λ _. None) → new ≡ with_file old name text → file_at new name ≡ Some text
got_written old new name text empty written = rw (written, empty) (file_at-with_file (λ _. None) name text)

-- what was got is what is held
pub copied_some : (o : Option (Bor (List ℕ))) (x : Bor (List ℕ)) (text : List ℕ) → o ≡ Some x → option_copied o ≡ Some text → x.now ≡ text
copied_some o x text is held =
    let same : Some x.now ≡ Some text = ap option_copied (sym is) ∙ held in
    cc

-- the text of a demo's answer
pub demo_text : (query asked : FlowQuery) (values text : List ℕ) (events made : List Event) → text ≡ answer_of query values events → values ≡ given_values (rules_of query) → query ≡ asked → events ≡ made
    → text ≡ answer_of asked (given_values (rules_of asked)) made
demo_text query asked values text events made is given same all =
    is ∙ ap (λ (vs : List ℕ). answer_of query vs events) given
    ∙ ap (λ (q : FlowQuery). answer_of q (given_values (rules_of q)) events) same
    ∙ ap (λ (es : List Event). answer_of asked (given_values (rules_of asked)) es) all
