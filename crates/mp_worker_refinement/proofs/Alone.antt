-- Steps that use no mailbox leave the post as it was, and are steps by mail too.
use Rattle.std.proofs.Common.{◌≡◌, ℕ, List, Option, None, Some, Ok, Err, refl, ap, ◌∙◌}
use Rattle.std.specs.declared.result.Result.{Result}
use Rattle.mp_names.specs.declared.kinds.Kind.{Kind}
use Rattle.mp_names.specs.declared.names.Name.{Name}
use Rattle.mp_names.specs.Logs.{Log}
use Rattle.mp_names.specs.Outlines.{Outline}
use Rattle.mp_machine.specs.Steps.{logged}
use Rattle.mp_msg.specs.declared.names.Names.{Names}
use Rattle.mp_worker_refinement.specs.Ends.{Standing, Waiting}
use Rattle.mp_worker_refinement.specs.Mail.{MailboxAllows}
use Rattle.mp_worker_refinement.specs.Served.{PostFollows}
use Rattle.mp_worker_refinement.specs.State.{WorkerState}
use Rattle.mp_worker_refinement.specs.Steps.{StepsAlone, StepsByMail}
use Rattle.mp_worker_refinement.proofs.Messages.{messages_kept}

-- A post that is as it was

module _ {P : Type 0} (workers depth : P → ℕ) (serves : P → ℕ → Type 0) (denotes : P → Standing) (waits : P → Waiting) (o : Outline) where
  -- it follows a log that has as sent and taken what it had
  pub post_same : (w : ℕ) (log now : Log) (post : P) → now.sent ≡ log.sent → now.took ≡ log.took → PostFollows workers depth serves denotes waits o w log now post post
  post_same w log now post sent took = record {
    follows = λ a b pushed popped la lb stood. rw (sent, took) stood;
    messages = messages_kept o w log now (waits post) (waits post) sent took (λ a b messages h. h);
    keeps = record { same_workers = refl; same_depth = refl; same_ends = λ v h. h };
  }

  -- so it does where the worker made a step of a kind that neither sends nor takes
  pub post_kept : {E : Type 0} (kind : Kind) → ((log : Log) (xs : List Name) → ((logged kind log xs).sent ≡ log.sent) × ((logged kind log xs).took ≡ log.took))
      → (old new : WorkerState) (post : P) (r : Result (Option Names) E) → StepsAlone o kind old new r → PostFollows workers depth serves denotes waits o old.number old.log new.log post post
  post_kept kind quiet old new post (Ok (Some told)) made =
      let same = quiet old.log made.names in
      post_same old.number old.log new.log post (ap (λ (s : WorkerState). s.log.sent) made.makes.after ∙ same.0) (ap (λ (s : WorkerState). s.log.took) made.makes.after ∙ same.1)
  post_kept kind quiet old new post (Ok None) idle = post_same old.number old.log new.log post (ap (λ (s : WorkerState). s.log.sent) idle.1) (ap (λ (s : WorkerState). s.log.took) idle.1)
  post_kept kind quiet old new post (Err e) same = post_same old.number old.log new.log post (ap (λ (s : WorkerState). s.log.sent) same) (ap (λ (s : WorkerState). s.log.took) same)

-- a step of a kind that no mailbox holds up is one by mail
pub alone_by_mail : (had_room was_full was_empty : ℕ → ℕ → Type 0) (o : Outline) {E : Type 0} (kind : Kind) → ((w : ℕ) (xs : List Name) → MailboxAllows had_room o w kind xs)
    → (old new : WorkerState) (r : Result (Option Names) E) → StepsAlone o kind old new r → StepsByMail had_room was_full was_empty o kind old new r
alone_by_mail had_room was_full was_empty o kind allows old new (Ok (Some told)) made = record { names = made.names; tells = made.tells; makes = made.makes; allows = allows old.number made.names }
alone_by_mail had_room was_full was_empty o kind allows old new (Ok None) idle = ((λ x can. absurd (idle.0 x can)), idle.1)
alone_by_mail had_room was_full was_empty o kind allows old new (Err e) same = same
