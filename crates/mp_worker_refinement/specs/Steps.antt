-- What a step of a kind came to, by its answer: the names that were put into the log, none, or an error.
use Rattle.std.specs.Prelude.{◌≡◌, ◌<◌, ℕ, List, Ok, Err, Option, None, Some, length, slice_get}
use Rattle.std.specs.declared.result.Result.{Result}
use Rattle.mp_names.specs.declared.kinds.Kind.{Kind}
use Rattle.mp_names.specs.declared.kinds.Kind.TheVariants.{Exchange}
use Rattle.mp_names.specs.declared.names.Name.{Name}
use Rattle.mp_names.specs.Outlines.{Outline}
use Rattle.mp_msg.specs.declared.names.Names.{Names}
use Rattle.mp_worker_refinement.specs.Mail.{MailboxAllows, MailboxBlocks}
use Rattle.mp_worker_refinement.specs.State.{CanMake, Makes, WorkerState, kept_with}

-- The worker posted its log, and saw this version, which is later than the one that it had seen; nothing else of it changed but the steps that it keeps
pub record Sees (old : WorkerState) (version : ℕ) (new : WorkerState) : Type 0 where
  pub after : new ≡ record old { posted = old.log; seen = new.seen; steps = kept_with old.steps Exchange version }
  pub version_is : new.seen.version ≡ version
  pub later : old.seen.version < version

-- Of these names the step tells the first, and how many there are
pub record Tells (told : Names) (xs : List Name) : Type 0 where
  pub first : slice_get xs 0 ≡ Some told.first
  pub count : told.count ≡ length xs

-- The step was made with names of which it tells
pub record MakesAlone (o : Outline) (kind : Kind) (old new : WorkerState) (told : Names) : Type 0 where
  pub names : List Name
  pub tells : Tells told names
  pub makes : Makes o kind old names new

-- a step that uses no mailbox was made; or it can't be made, or there is an error, and the worker is as it was
abbrev pub StepsAlone : {E : Type 0} → Outline → Kind → (old new : WorkerState) → Result (Option Names) E → Type 0
StepsAlone o kind old new (Ok (Some told)) = MakesAlone o kind old new told
StepsAlone o kind old new (Ok None) = ((x : Name) → CanMake o kind old x → ⊥) × (new ≡ old)
StepsAlone o kind old new (Err e) = new ≡ old

module _ (had_room was_full was_empty : ℕ → ℕ → Type 0) (o : Outline) (kind : Kind) (old new : WorkerState) where
  -- The step was made with names of which it tells, and its mailbox let it
  pub record MakesByMail (told : Names) : Type 0 where
    pub names : List Name
    pub tells : Tells told names
    pub makes : Makes o kind old names new
    pub allows : MailboxAllows had_room o old.number kind names

  -- the step can't be made, or its mailbox was in the way; the worker is as it was
  abbrev pub IsHinderedByMail : Type 0
  IsHinderedByMail = ((x : Name) → CanMake o kind old x → MailboxBlocks was_full was_empty o old.number kind x) × (new ≡ old)

  -- a step was made; or it can't be made, or there is an error, and the worker is as it was
  abbrev pub StepsByMail : {E : Type 0} → Result (Option Names) E → Type 0
  StepsByMail (Ok (Some told)) = MakesByMail told
  StepsByMail (Ok None) = IsHinderedByMail
  StepsByMail (Err e) = new ≡ old
