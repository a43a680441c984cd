-- The steps that the workers of a run keep, where a journal is asked for.
use Rattle.std.proofs.Common.{◌≡◌, ◌≤◌, ℕ, true, false, List, [], Option, None, Some, ap, arith, length, map, option_map, ⊎_elim}
use Rattle.std.specs.Prelude.{IsSome, is_some}
use Rattle.std.proofs.lemmas.Bool.{cases_Bool}
use Rattle.std.proofs.lemmas.List.{length-map}
use Rattle.mp_names.specs.Outlines.{Outline}
use Rattle.mp_names.specs.declared.kinds.Kept.{Kept}
use Rattle.mp_words.specs.declared.options.Schedule.{Schedule}
use Rattle.mp_words.specs.declared.options.Schedule.TheVariants.{Threads, Seeded}
use Rattle.mp_run_command.specs.Keeping.{IsKeptBy}

-- there is a list for each worker
for_each_worker : (o : Outline) (depth : ℕ) (schedule : Schedule) (lists : List (List Kept)) → IsKeptBy o depth schedule lists → length lists ≡ o.workers
for_each_worker o depth Threads lists kept = kept.all
for_each_worker o depth (Seeded seed) lists kept = kept.all_workers

-- a name that is asked for is there
pub asked_some : {X Y : Type 0} (f : X → Y) (name : Option X) → IsSome (option_map f name) → IsSome name
asked_some f None some = some
asked_some f (Some name) some = some

-- there are no more lists than workers, where none is kept but for a journal
pub few_lists : {X Y : Type 0} (o : Outline) (depth : ℕ) (schedule : Schedule) (journal : Option X) (items : Y → List Kept) (kept : List Y)
    → (IsSome journal → IsKeptBy o depth schedule (map items kept)) → (is_some journal ≡ false → kept ≡ []) → length kept ≤ o.workers
few_lists o depth schedule journal items kept all none =
    ⊎_elim
    (λ (e : is_some journal ≡ true). omega (arith, for_each_worker o depth schedule (map items kept) (all e), length-map kept items))
    (λ (e : is_some journal ≡ false). omega (arith, ap length (none e)))
    (cases_Bool (is_some journal))
