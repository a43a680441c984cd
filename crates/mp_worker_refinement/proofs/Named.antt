-- The names of a step, and the mailboxes after it.
use Rattle.std.proofs.Common.{◌≡◌, ℕ, ◌<◌, List, [], ◌∷◌, length, refl, sym, ap, ◌∙◌, subst, ⊎_elim}
use Rattle.std.proofs.lemmas.Bool.{false≢true}
use Rattle.mp_names.specs.declared.kinds.Kind.{Kind}
use Rattle.mp_names.specs.declared.kinds.Kind.TheVariants.{Ingest, SendControl, Route, Receive, Extract, Settle, Apply, SendRow, Write, Exchange}
use Rattle.mp_names.specs.declared.names.Name.{Name}
use Rattle.mp_names.specs.Names.{In}
use Rattle.mp_names.specs.Outlines.{Outline, OutlineIsSound, receiver, sender}
use Rattle.mp_names.proofs.Lists.{In_cases}
use Rattle.mp_machine.specs.Worlds.{Worker, World}
use Rattle.mp_machine.specs.Messages.{first_message}
use Rattle.mp_machine.specs.Steps.{AreNamesOf, IsNext, logged, mailed, names_of}
use Rattle.mp_machine.proofs.Messages.{bundle_begins, bundle_receiver}
use Rattle.mp_worker_refinement.proofs.Mailboxes.{MovesAt, kept_at, popped_is_gone, pushed_is_queued}

only_to : (o : Outline) (x y : Name) → In y (x ∷ []) → receiver o y ≡ receiver o x
only_to o x y i = ⊎_elim (λ (e : x ≡ y). ap (receiver o) (sym e)) (λ (k : In y []). absurd (false≢true k)) (In_cases y x [] i)

one_to : (o : Outline) (x : Name) (xs : List Name) → xs ≡ x ∷ [] → (y : Name) → In y xs → receiver o y ≡ receiver o x
one_to o x xs e y i = only_to o x y (subst (λ (l : List Name). In y l) e i)

-- the first name of a step is the first of its names
pub first_begins : (o : Outline) → OutlineIsSound o → (w : ℕ) (worker : Worker) (kind : Kind) (x : Name) (xs : List Name) → IsNext o w worker kind x → AreNamesOf o w worker.log kind x xs → (rest : List Name) × (xs ≡ x ∷ rest)
first_begins o ok w worker (Route j) x xs next names = let b = bundle_begins o ok w worker j x next in (b.0, names ∙ b.1)
first_begins o ok w worker (Receive v) x xs next names = names
first_begins o ok w worker Ingest x xs next names = ([], names)
first_begins o ok w worker SendControl x xs next names = ([], names)
first_begins o ok w worker (Extract j) x xs next names = ([], names)
first_begins o ok w worker (Settle j) x xs next names = ([], names)
first_begins o ok w worker (Apply j) x xs next names = ([], names)
first_begins o ok w worker SendRow x xs next names = ([], names)
first_begins o ok w worker Write x xs next names = ([], names)
first_begins o ok w worker Exchange x xs next names = absurd next

-- the names of a step are those that the machine puts, where a message that is received is the first one
pub names_put : (o : Outline) (world : World) (w : ℕ) (kind : Kind) (x : Name) (xs : List Name) → AreNamesOf o w (world.worker w).log kind x xs → ((v : ℕ) → kind ≡ Receive v → first_message (world.mailbox v w) ≡ xs) → names_of o world w kind x ≡ xs
names_put o world w (Route j) x xs names first = sym names
names_put o world w (Receive v) x xs names first = first v refl
names_put o world w Ingest x xs names first = sym names
names_put o world w SendControl x xs names first = sym names
names_put o world w (Extract j) x xs names first = sym names
names_put o world w (Settle j) x xs names first = sym names
names_put o world w (Apply j) x xs names first = sym names
names_put o world w SendRow x xs names first = sym names
names_put o world w Write x xs names first = sym names
names_put o world w Exchange x xs names first = sym names

module _ (o : Outline) (ok : OutlineIsSound o) (w : ℕ) (worker : Worker) (mailbox queue : ℕ → ℕ → List (List Name)) where
  -- queues that move as the log goes on are the mailboxes after the step
  pub queue_is_mailed : (kind : Kind) (x : Name) (xs : List Name) → IsNext o w worker kind x → AreNamesOf o w worker.log kind x xs → 0 < length xs → ((v : ℕ) → kind ≡ Receive v → (y : Name) → In y xs → sender o y ≡ v)
      → (a b : ℕ) → MovesAt o w mailbox queue worker.log (logged kind worker.log xs) a b → queue a b ≡ mailed o w kind x xs mailbox a b
  queue_is_mailed SendControl x xs next names some comes = pushed_is_queued o w mailbox queue worker.log (logged SendControl worker.log xs) xs (receiver o x) some (one_to o x xs names) refl refl
  queue_is_mailed (Route j) x xs next names some comes =
      pushed_is_queued o w mailbox queue worker.log (logged (Route j) worker.log xs) xs (receiver o x) some (λ y i. bundle_receiver o ok w worker j x y (subst (λ (l : List Name). In y l) names i)) refl refl
  queue_is_mailed (Receive v) x xs next names some comes = popped_is_gone o w mailbox queue worker.log (logged (Receive v) worker.log xs) xs v some (comes v refl) refl refl
  queue_is_mailed (Extract j) x xs next names some comes = pushed_is_queued o w mailbox queue worker.log (logged (Extract j) worker.log xs) xs (receiver o x) some (one_to o x xs names) refl refl
  queue_is_mailed SendRow x xs next names some comes = pushed_is_queued o w mailbox queue worker.log (logged SendRow worker.log xs) xs (receiver o x) some (one_to o x xs names) refl refl
  queue_is_mailed Ingest x xs next names some comes = kept_at o w mailbox queue worker.log (logged Ingest worker.log xs) refl refl
  queue_is_mailed (Settle j) x xs next names some comes = kept_at o w mailbox queue worker.log (logged (Settle j) worker.log xs) refl refl
  queue_is_mailed (Apply j) x xs next names some comes = kept_at o w mailbox queue worker.log (logged (Apply j) worker.log xs) refl refl
  queue_is_mailed Write x xs next names some comes = kept_at o w mailbox queue worker.log (logged Write worker.log xs) refl refl
  queue_is_mailed Exchange x xs next names some comes = absurd next
