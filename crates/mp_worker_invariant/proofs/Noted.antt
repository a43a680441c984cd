-- Which control records are noted and which are sent, by a log with one more name.
use Rattle.std.proofs.Common.{◌≡◌, ℕ, ◌<◌, ◌==◌, ◌||◌, Bool, true, false, List, [], ◌∷◌, ◌++◌, length, refl, sym, ap, ◌∙◌, subst, ⊎_elim}
use Rattle.std.proofs.lemmas.List.Elements.{All-nil, All-same}
use Rattle.std.proofs.lemmas.Bool.{eq-eqb, eqb-true, or_cases, or_left, or_right}
use Rattle.mp_names.specs.declared.names.Name.{Name}
use Rattle.mp_names.specs.declared.names.Name.TheVariants.{Ctrl}
use Rattle.mp_names.specs.Controls.{control_of}
use Rattle.mp_names.specs.Names.{has, In, is_ctrl}
use Rattle.mp_names.specs.Logs.{Log, empty_log, with_sent, with_took}
use Rattle.mp_names.specs.Outlines.{Outline}
use Rattle.mp_names.proofs.Lists.{In_left}
use Rattle.mp_bins.specs.declared.owners.Note.{Note}
use Rattle.mp_bins.specs.Laws.{AreNotesOf, IsNoteOf}
use Rattle.mp_bins.specs.Notes.{AreInOrder, Notes, is_noted, with_note}
use Rattle.mp_bins.proofs.Placing.{noted_with}
use Rattle.mp_bins.proofs.Told.{one_more}
use Rattle.mp_host_laws.proofs.Logs.{same_test}
use Rattle.mp_model.specs.Facts.{JobFacts}
use Rattle.mp_outline.specs.JobOutline.{layout_of}
use Rattle.mp_controller.specs.Controlling.{Controlling}
use Rattle.mp_controller.specs.Telling.{IsControllerOf}
use Rattle.mp_controller.proofs.Sending.{controller_stays, has_ctrl, last_ctrl}
use Rattle.mp_worker_invariant.specs.Parts.{AreTaken}
use Rattle.mp_worker_invariant.proofs.Unheard.{unheard}

-- What is taken

module _ (job : JobFacts) (w : ℕ) where
  pub taken_stays : (old new : Log) (notes : Notes) → ((i : ℕ) → has old.took (Ctrl i w) ≡ has new.took (Ctrl i w)) → AreTaken job w old notes → AreTaken job w new notes
  taken_stays old new notes same are = record { layout = are.layout; of_job = are.of_job; taken = λ i. are.taken i ∙ same i }

  -- a name that is no control record's is no concern of the notes
  pub taken_else : (log : Log) (notes : Notes) (x : Name) → is_ctrl x ≡ false → AreTaken job w log notes → AreTaken job w (with_took log x) notes
  taken_else log notes x none are = taken_stays log (with_took log x) notes (λ i. unheard is_ctrl log.took (Ctrl i w) x none refl) are

  -- one more control record is taken, and noted
  pub taken_more : (log : Log) (notes new : Notes) (i : ℕ) → i < length job.controls → new.layout ≡ notes.layout → new.noted ≡ with_note notes.noted (record { index = i; control = control_of job.controls i })
      → AreTaken job w log notes → AreTaken job w (with_took log (Ctrl i w)) new
  taken_more log notes new i listed layout noted are = record {
    layout = layout ∙ are.layout;
    of_job = one_more job.controls notes new note are.of_job (listed, refl) noted;
    taken = λ k. ap (λ (ns : List Note). is_noted ns k) noted ∙ noted_with notes.noted note k ∙ ap (λ (b : Bool). i == k || b) (are.taken k) ∙ more k;
  }
    where
      note : Note
      note = record { index = i; control = control_of job.controls i }

      more : (k : ℕ) → (i == k || has log.took (Ctrl k w)) ≡ has (log.took ++ Ctrl i w ∷ []) (Ctrl k w)
      more k =
          same_test (i == k || has log.took (Ctrl k w)) (has (log.took ++ Ctrl i w ∷ []) (Ctrl k w))
          (λ e.
          ⊎_elim
          (λ (f : (i == k) ≡ true). subst (λ (n : ℕ). In (Ctrl n w) (log.took ++ Ctrl i w ∷ [])) (eqb-true i k f) (last_ctrl log.took i w))
          (λ (f : In (Ctrl k w) log.took). In_left (Ctrl k w) log.took (Ctrl i w ∷ []) f)
          (or_cases (i == k) (has log.took (Ctrl k w)) e))
          (λ e.
          ⊎_elim
          (λ (f : In (Ctrl k w) log.took). or_right (i == k) (has log.took (Ctrl k w)) f)
          (λ (f : (i ≡ k) × (w ≡ w)). or_left (i == k) (has log.took (Ctrl k w)) (eq-eqb i k f.0))
          (has_ctrl log.took i w k w e))

  -- at first nothing is taken or noted
  pub none_taken : (notes : Notes) → notes.layout ≡ layout_of job → notes.noted ≡ [] → AreTaken job w empty_log notes
  none_taken notes layout none = record { layout = layout; of_job = none_noted; taken = λ i. ap (λ (ns : List Note). is_noted ns i) none }
    where
      none_noted : AreNotesOf job.controls notes
      none_noted = record { in_order = subst AreInOrder (sym none) tt; each = All-same (IsNoteOf job.controls) notes.noted [] none (All-nil (IsNoteOf job.controls)) }

-- What is sent: a name that is no control record's is no concern of the controller
pub controller_else : (o : Outline) (log : Log) (c : Controlling) (x : Name) → is_ctrl x ≡ false → IsControllerOf o log c → IsControllerOf o (with_sent log x) c
controller_else o log c x none = controller_stays o log (with_sent log x) c (λ i v. unheard is_ctrl log.sent (Ctrl i v) x none refl)
