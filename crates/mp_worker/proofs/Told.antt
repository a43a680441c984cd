-- What a step that was made adds to the lines of the answer, by the names that it tells of.
use Rattle.std.proofs.Common.{◌≡◌, ℕ, List, [], ◌∷◌, Some, refl, sym, ap, ◌∙◌, subst}
use Rattle.std.specs.Prelude.{slice_get}
use Rattle.mp_names.specs.declared.kinds.Kind.{Kind}
use Rattle.mp_names.specs.declared.kinds.Kind.TheVariants.{Settle, Write}
use Rattle.mp_names.specs.declared.names.Name.{Name}
use Rattle.mp_names.specs.Logs.{with_settled}
use Rattle.mp_names.specs.Outlines.{Outline}
use Rattle.mp_machine.specs.Steps.{AreNamesOf, IsNext, logged}
use Rattle.mp_machine.specs.Worlds.{Worker}
use Rattle.mp_model.specs.Facts.{JobFacts, QueryFacts}
use Rattle.mp_outline.specs.JobOutline.{outline_of}
use Rattle.mp_msg.specs.declared.names.Names.{Names}
use Rattle.mp_worker_sends.specs.Below.{written_lines}
use Rattle.mp_worker_sends.specs.Below.{others_write_nothing}
use Rattle.mp_worker_refinement.specs.State.{CanMake, Makes, WorkerState}
use Rattle.mp_worker_refinement.specs.Steps.{Tells}
use Rattle.mp_worker_refinement.proofs.Lists.{some_is}

-- a step of another kind than a write adds no lines, however many names it puts into the log
pub no_lines_else : {Cell : Type 0} (q : QueryFacts Cell) (job : JobFacts) (w : ℕ) (worker : Worker) (kind : Kind) (x : Name) (xs : List Name) → (kind ≡ Write → ⊥) → IsNext (outline_of q job) w worker kind x → AreNamesOf (outline_of q job) w worker.log kind x xs
    → written_lines q job.events (logged kind worker.log xs) ≡ written_lines q job.events worker.log
no_lines_else q job w worker Write x xs other next are = absurd (other refl)
no_lines_else q job w worker (Settle j) x xs other next are =
    subst (λ (l : List Name). written_lines q job.events (logged (Settle j) worker.log l) ≡ written_lines q job.events worker.log) (sym are) (others_write_nothing q job w worker (Settle j) x other next)
no_lines_else q job w worker kind x xs other next are = refl

-- a write puts the one name into the log that it tells
pub one_time : (o : Outline) (kind : Kind) (s new : WorkerState) (told : Names) (xs : List Name) → Tells told xs → Makes o kind s xs new → kind ≡ Write → CanMake o Write s told.first × (new.log ≡ with_settled s.log told.first)
one_time o kind s new told xs tells makes is =
    let can : CanMake o Write s makes.first = subst (λ (k : Kind). CanMake o k s makes.first) is makes.can in
    let alone : xs ≡ makes.first ∷ [] = subst (λ (k : Kind). AreNamesOf o s.number s.log k makes.first xs) is makes.names in
    let first : makes.first ≡ told.first = some_is makes.first told.first (subst (λ (l : List Name). slice_get l 0 ≡ Some told.first) alone tells.first) in (
      subst (CanMake o Write s) first can,
      ap (λ (n : WorkerState). n.log) makes.after ∙ ap (λ (k : Kind). logged k s.log xs) is ∙ ap (λ (l : List Name). logged Write s.log l) (alone ∙ ap (λ (y : Name). y ∷ []) first),
    )
