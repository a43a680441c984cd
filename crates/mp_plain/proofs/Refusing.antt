-- What stands where a step of a list was refused.
use Rattle.std.proofs.Common.{◌≡◌, ℕ, suc, ◌+◌, List, [], ◌∷◌, ◌++◌, Option, Err, drop, take, refl, sym, subst, inl, inr, ⊎_elim, append-nil, ◌∙◌, arith}
use Rattle.std.specs.Prelude.{IfErr}
use Rattle.std.specs.declared.result.Result.{Result}
use Rattle.std.proofs.lemmas.List.{take-append-drop}
use Rattle.mp_names.specs.declared.kinds.Kind.{Kind}
use Rattle.mp_names.specs.declared.kinds.Kind.TheVariants as kind
use Rattle.mp_names.specs.Outlines.{Outline}
use Rattle.mp_machine.specs.Runs.{Turn, made_count}
use Rattle.mp_model.specs.Facts.{JobFacts, QueryFacts}
use Rattle.mp_outline.specs.JobOutline.{outline_of}
use Rattle.mp_board.specs.declared.causes.Cause.{Cause}
use Rattle.mp_board.specs.declared.causes.Cause.TheVariants as cause
use Rattle.mp_answer_laws.specs.Lines.{HasBegun}
use Rattle.mp_plain.specs.Driven.{Driven, HasKept, HasWritten, LeadsOn}
use Rattle.mp_plain.specs.Refused.{IsWriteNext, KeepsSteps}
use Rattle.mp_plain.proofs.Leading.{leads_further, still_there}

-- what holds of a reason holds of it where it is handed on
pub handed_on : {T E : Type 0} (K : E → Type 0) (r : Result T E) (x y : E) → r ≡ Err y → y ≡ x → K x → IfErr r K
handed_on K r x y e f k = subst (λ (g : Result _ _). IfErr g K) (sym e) (subst K (sym f) k)

module _ {Cell : Type 0} (q : QueryFacts Cell) (job : JobFacts) where
  abbrev o : Outline
  o = outline_of q job

  -- no step of a list is made, and none is refused
  pub keeps_none : (steps : List (ℕ × Kind)) (why : Cause) (t : Driven) (has : Option (List ℕ)) → (why ≡ cause.Write → ⊥) → KeepsSteps q job steps why t t has has
  keeps_none steps why t has not_write = record {
    kept = [];
    left = steps;
    turns = [];
    parts = refl;
    lead = still_there o t.state;
    counted = let none : made_count [] ≡ 0 = refl in omega arith;
    refused = inl refl;
    write = λ e. absurd (not_write e);
    lines = λ before h. inl h;
  }

  -- a step of a list is refused, after those before it
  pub keeps_steps : (steps : List (ℕ × Kind)) (i : ℕ) (step : ℕ × Kind) (why : Cause) (turns : List Turn) (t mid new : Driven) (had has : Option (List ℕ)) → drop i steps ≡ step ∷ drop (suc i) steps → LeadsOn o (take i steps) turns t.state mid.state → LeadsOn o [] [] mid.state new.state
      → mid.made ≡ t.made + made_count turns → new.made ≡ mid.made
      → (why ≡ cause.Write → step.1 ≡ kind.Write) → ((before : Option (List ℕ)) → HasWritten q job.events before t.state had → HasKept q job.events step.1 before new.state has) → KeepsSteps q job steps why t new had has
  keeps_steps steps i step why turns t mid new had has here lead still more same failed lines = record {
    kept = take i steps;
    left = drop i steps;
    turns = turns ++ [];
    parts = sym (take-append-drop i steps);
    lead = subst (λ (made : List (ℕ × Kind)). LeadsOn o made (turns ++ []) t.state new.state) (append-nil (take i steps)) (leads_further o (take i steps) [] turns [] t.state mid.state new.state lead still);
    counted = subst (λ (made : List Turn). new.made ≡ t.made + made_count made) (sym (append-nil turns)) (same ∙ more);
    refused = inr (step, drop (suc i) steps, here);
    write = λ e. write (failed e);
    lines = λ before h. ⊎_elim (λ (k : HasWritten q job.events before new.state has). inl k) (λ (k : (step.1 ≡ kind.Write) × HasBegun q job.events before has). inr (write k.0, k.1)) (lines before h);
  }
    where
      write : step.1 ≡ kind.Write → IsWriteNext (drop i steps)
      write e = subst IsWriteNext (sym here) e
