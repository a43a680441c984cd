-- Steps that are seen not to be possible now, without the worker.
use Rattle.std.proofs.Common.{◌≡◌, ◌⊎◌, ℕ, ◌<◌, ◌≤◌, [], ◌∷◌, Some, length, ⊎_elim, arith, sym, ◌∙◌}
use Rattle.std.proofs.lemmas.Bool.{eqb-true}
use Rattle.std.proofs.lemmas.Option.{slice_get_cases}
use Rattle.std.specs.Prelude.{slice_get}
use Rattle.mp_names.specs.declared.kinds.Kind.{Kind}
use Rattle.mp_names.specs.declared.kinds.Kind.TheVariants.{Exchange, Receive, SendControl, Write}
use Rattle.mp_names.specs.declared.names.Name.{Name}
use Rattle.mp_names.specs.declared.names.Name.TheVariants.{Ctrl}
use Rattle.mp_names.specs.Keeping.{IsHeld}
use Rattle.mp_names.specs.Logs.{Log}
use Rattle.mp_names.specs.Names.{is_ctrl}
use Rattle.mp_names.specs.Outlines.{Outline, OutlineIsSound}
use Rattle.mp_mailbox.specs.Queues.{WasEmpty, WasFull}
use Rattle.mp_machine.specs.Runs.{NotNow, run_of_machine}
use Rattle.mp_machine.proofs.Worlds.{run_right}
use Rattle.mp_worker_refinement.specs.Mail.{MailboxBlocks}
use Rattle.mp_worker_refinement.specs.State.{CanMake, WorkerState}
use Rattle.mp_worker_refinement.specs.SystemState.{SystemState}
use Rattle.mp_worker_refinement.proofs.Steps as steps
use Rattle.mp_plain.specs.Driven.{AreReached, LeadsOn}
use Rattle.mp_plain.proofs.Turned.{idle_leads_on, number_is}

held_by_first : (o : Outline) (w : ℕ) (log : Log) (x : Name) → IsHeld o w log is_ctrl x → w ≡ 0
held_by_first o w log (Ctrl i v) h = eqb-true w 0 h.2
held_by_first o w log x h = absurd (cc)

module _ (o : Outline) (ok : OutlineIsSound o) (t : SystemState) (reached : AreReached o t) (w : ℕ) (l : w < o.workers) where
  here : (s : WorkerState) × (slice_get t.workers w ≡ Some s)
  here =
      let all = reached.1.all_workers in
      ⊎_elim
      (λ (h : (s : WorkerState) × (w < length t.workers) × (slice_get t.workers w ≡ Some s) × _). (h.0, h.2))
      (λ (h : (length t.workers ≤ w) × _). absurd (omega (arith, h.0, all, l)))
      (slice_get_cases t.workers w).1

  held_up : (kind : Kind) → (kind ≡ Exchange → ⊥) → ((s : WorkerState) (x : Name) → s.number ≡ w → CanMake o kind s x → MailboxBlocks (WasFull t.post) (WasEmpty t.post) o w kind x) → LeadsOn o ((w, kind) ∷ []) (NotNow ∷ []) t t
  held_up kind other blocks =
      let s = here.0 in
      idle_leads_on o t w kind
      (λ before are.
      steps.not_now o ok t.post.depth t (run_of_machine o t.post.depth before) (run_right o ok t.post.depth before) are w s here.1 kind other
      (λ x can. blocks s x (number_is o ok t reached w s here.1) can))

  -- nothing waits for it
  pub none_waits : (v : ℕ) → WasEmpty t.post v w → LeadsOn o ((w, Receive v) ∷ []) (NotNow ∷ []) t t
  none_waits v empty = held_up (Receive v) (λ e. cc) (λ s x number can. empty)

  -- worker 0 alone sends control records, and writes
  pub of_the_first : (kind : Kind) → (kind ≡ SendControl) ⊎ (kind ≡ Write) → (w ≡ 0 → ⊥) → LeadsOn o ((w, kind) ∷ []) (NotNow ∷ []) t t
  of_the_first SendControl h other = held_up SendControl (λ e. cc) (λ s x number can. absurd (other (sym number ∙ held_by_first o s.number s.log x can.next.0.0)))
  of_the_first Write h other = held_up Write (λ e. cc) (λ s x number can. absurd (other (sym number ∙ can.next.0)))
  of_the_first kind h other = absurd (⊎_elim (λ e. cc) (λ e. cc) h)
