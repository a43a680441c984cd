-- What a command came to, by what was read and written.
use Rattle.std.proofs.Common.{ℕ, ◌≡◌, ◌⊎◌, inl, inr, Bool, Option, Some, None, Result, Ok, Err, List, refl, sym, ap, subst, ◌∙◌, arith}
use Rattle.std.specs.Prelude.{IfErr, IfOk, OnSome}
use Rattle.std.specs.Global.{Global}
use Rattle.std.specs.declared.vec.Vec.{Vec}
use Rattle.mp_outside.specs.Fault.{Rose}
use Rattle.mp_outside.specs.Files.{Files}
use Rattle.mp_words.specs.declared.options.DemoOptions.{DemoOptions}
use Rattle.mp_words.specs.Words.{Asked, Demo}
use Rattle.mp_command_files.specs.declared.refusal.Refusal.{Refusal}
use Rattle.mp_command.specs.Audits.{IsRefuted, refuted_end}
use Rattle.mp_command_files.specs.Outcome.{StopsAnswer}
use Rattle.mp_command.specs.Calls.{MayCome, Refutes}
use Rattle.mp_command.specs.Ends.{CameTo, IsRefusal, LacksOne, Leaves, WritesFile}
use Rattle.mp_command.specs.Inputs.{Found, Input, inputs_of, nothing_found}
use Rattle.mp_command.specs.Lines.{demo_line, line_after}
use Rattle.mp_command_files.specs.Outcome.{Outcome, Answered, NoMemory, Usage, status_of}
use Rattle.mp_command.specs.Reading.{ReadsAll, RefusesOne}
use Rattle.mp_command_files.specs.Refused.{outcome_in, outcome_of}
use Rattle.mp_command.specs.Writing.{Keeping}
use Rattle.mp_command.proofs.Coming.{may_answer, may_lack_memory, may_refuse, may_stop, refuses_as_refusal}
use Rattle.mp_command.proofs.Leaving.{leaves_alone, no_both, no_refusal, refuted_late}

-- what is said of the files of one list is said of those of the other, where they are the same

pub reads_so : (told : Option Files) (one other : List (Input × List ℕ)) → one ≡ other → (found : Found) → ReadsAll told one nothing_found found → ReadsAll told other nothing_found found
reads_so told one other same found r = subst (λ (inputs : List (Input × List ℕ)). ReadsAll told inputs nothing_found found) same r

pub refuses_so : (told : Option Files) (one other : List (Input × List ℕ)) → one ≡ other → (o : Outcome) → RefusesOne told one nothing_found o → RefusesOne told other nothing_found o
refuses_so told one other same o r = subst (λ (inputs : List (Input × List ℕ)). RefusesOne told inputs nothing_found o) same r

pub lacks_so : {D : Type 0} (found : D → List ℕ → Bool → D → Type 0) (one other : List (Input × List ℕ)) → one ≡ other → (new : D) → LacksOne found one new → LacksOne found other new
lacks_so found one other same new l = subst (λ (inputs : List (Input × List ℕ)). LacksOne found inputs new) same l

module _ {D : Type 0} (files : D → Option Files) (found : D → List ℕ → Bool → D → Type 0) (read_faults write_faults : D → ℕ) (asked : Asked) (old new : D) where
  -- a file that is read was refused
  pub came_refused : (o : Outcome) → RefusesOne (files old) (inputs_of asked) nothing_found o
      → (status_of o ≡ 5 → LacksOne found (inputs_of asked) new) → (status_of o ≡ 6 → Rose (read_faults old) (read_faults new))
      → CameTo files found read_faults write_faults (Some asked) o old new
  came_refused o r lacks fault = record {
    may = inl (may_refuse (inputs_of asked) (line_after asked) (files old) o r);
    not_found = lacks;
    read_fault = fault;
    write_fault = λ seven. absurd (no_seven seven (refuses_as_refusal (files old) (inputs_of asked) nothing_found o r));
  }
    where
      no_seven : status_of o ≡ 7 → IsRefusal (status_of o) ⊎ (o ≡ NoMemory) → ⊥
      no_seven seven (inl refusal) = no_both (status_of o) (inl seven) refusal
      no_seven seven (inr memory) = omega (arith, seven, ap status_of memory)

  -- all was read, and the line is said
  pub came_answered : (read : Found) → ReadsAll (files old) (inputs_of asked) nothing_found read
      → CameTo files found read_faults write_faults (Some asked) (Answered (line_after asked read)) old new
  came_answered read r = record {
    may = inl (may_answer (inputs_of asked) (line_after asked) (files old) read r);
    not_found = λ e. absurd (omega (arith, e));
    read_fault = λ e. absurd (omega (arith, e));
    write_fault = λ e. absurd (omega (arith, e));
  }

  -- all was read, and then the command was stopped
  pub came_stopped : (read : Found) (o : Outcome) → ReadsAll (files old) (inputs_of asked) nothing_found read → StopsAnswer o
      → (status_of o ≡ 7 → WritesFile (Some asked) × Rose (write_faults old) (write_faults new))
      → CameTo files found read_faults write_faults (Some asked) o old new
  came_stopped read o r stops fault = record {
    may = inl (may_stop (inputs_of asked) (line_after asked) (files old) read o r stops);
    not_found = λ e. absurd (neither 5 stops e (λ h. omega (arith, h)) (λ h. omega (arith, h)));
    read_fault = λ e. absurd (neither 6 stops e (λ h. omega (arith, h)) (λ h. omega (arith, h)));
    write_fault = fault;
  }
    where
      neither : (n : ℕ) → StopsAnswer o → status_of o ≡ n → (n ≡ 7 → ⊥) → (n ≡ 8 → ⊥) → ⊥
      neither n (inl e) at no_seven no_eight = no_seven (sym at ∙ ap status_of e)
      neither n (inr e) at no_seven no_eight = no_eight (sym at ∙ ap status_of e)

  -- all was read, and what was found is refuted
  pub came_refuted : (read : Found) (o : Outcome) → ReadsAll (files old) (inputs_of asked) nothing_found read → refuted_end asked ≡ Some o → IsRefuted asked read
      → CameTo files found read_faults write_faults (Some asked) o old new
  came_refuted read o r ends refuted = record {
    may = inr (ends, told_refuted (files old) (read, r, refuted));
    not_found = λ e. absurd (omega (arith, e, refuted_late asked o ends));
    read_fault = λ e. absurd (omega (arith, e, refuted_late asked o ends));
    write_fault = λ e. absurd (omega (arith, e, refuted_late asked o ends));
  }
    where
      told_refuted : (told : Option Files) → Refutes told asked → OnSome told (Refutes told asked)
      told_refuted None refutes = tt
      told_refuted (Some told) refutes = refutes

-- where a file was refused nothing has changed
pub refused_leaves : (AreKept : Keeping) (asked : Asked) (told : Option Files) (o : Outcome) (old new : Option Files) → RefusesOne told (inputs_of asked) nothing_found o → new ≡ old → Leaves AreKept asked o old new
refused_leaves AreKept asked told o old new r same = leaves_alone AreKept asked o old new (λ zero. no_zero zero (refuses_as_refusal told (inputs_of asked) nothing_found o r)) same
  where
    no_zero : status_of o ≡ 0 → IsRefusal (status_of o) ⊎ (o ≡ NoMemory) → ⊥
    no_zero zero (inl refusal) = no_refusal (status_of o) refusal zero
    no_zero zero (inr memory) = omega (arith, zero, ap status_of memory)

-- Where no command was carried out

module _ {D : Type 0} (files : D → Option Files) (found : D → List ℕ → Bool → D → Type 0) (read_faults write_faults : D → ℕ) (old new : D) where
  -- the words are no command
  pub came_usage : (command : Option Asked) → command ≡ None → CameTo files found read_faults write_faults command Usage old new
  came_usage command none = record {
    may = subst (λ (c : Option Asked). MayCome c (files old) Usage) (sym none) (inl refl);
    not_found = λ e. absurd (omega (arith, e));
    read_fault = λ e. absurd (omega (arith, e));
    write_fault = λ e. absurd (omega (arith, e));
  }

  -- there was no memory
  pub came_short : (command : Option Asked) → CameTo files found read_faults write_faults command NoMemory old new
  came_short command = record {
    may = may_lack_memory command (files old);
    not_found = λ e. absurd (omega (arith, e));
    read_fault = λ e. absurd (omega (arith, e));
    write_fault = λ e. absurd (omega (arith, e));
  }

  -- a demo reads nothing
  pub came_demo : (asked : DemoOptions) (result : Result (Vec ℕ Global) Refusal) → IfOk result (λ line. line.items ≡ demo_line asked) → IfErr result (λ r. outcome_of r ≡ NoMemory)
      → CameTo files found read_faults write_faults (Some (Demo asked)) (outcome_in result) old new
  came_demo asked (Ok line) said refused =
      subst (λ (text : List ℕ). CameTo files found read_faults write_faults (Some (Demo asked)) (Answered text) old new) (sym said)
      (came_answered files found read_faults write_faults (Demo asked) old new nothing_found refl)
  came_demo asked (Err r) said refused =
      subst (λ (o : Outcome). CameTo files found read_faults write_faults (Some (Demo asked)) o old new) (sym refused) (came_short (Some (Demo asked)))

-- and leaves the files alone
pub demo_leaves : (AreKept : Keeping) (asked : DemoOptions) (o : Outcome) (told : Option Files) → Leaves AreKept (Demo asked) o told told
demo_leaves AreKept asked o told = record { whole = λ e. (nothing_found, refl, tt, refl); part = λ stop. inl refl; untouched = λ refusal. refl }
