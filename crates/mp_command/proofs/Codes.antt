-- What the status of an end tells.
use Rattle.std.proofs.Common.{ℕ, zero, suc, ◌≡◌, ◌≤◌, ◌<◌, ◌⊎◌, inl, inr, Bool, true, false, Option, Some, None, IsSome, Result, Ok, Err, List, [], ◌∷◌, length, cond, refl, sym, ap, subst, ◌∙◌, arith}
use Rattle.std.specs.Prelude.{nat_le, IfSome, IsSomeAnd, OnSome}
use Rattle.std.proofs.lemmas.List.{take_all}
use Rattle.mp_names.specs.Limits.{most_bytes}
use Rattle.mp_outside.specs.Fault.{Rose}
use Rattle.mp_outside.specs.Files.{Files, SameFiles, file_at}
use Rattle.mp_outside.specs.Sink.{grown}
use Rattle.mp_words.specs.Words.{Asked, Run, Check, Make, Demo, Audit}
use Rattle.mp_command.specs.Audits.{refuted_end}
use Rattle.mp_command.specs.Calls.{ComesOf, IsRefusalOf, MayCome, MayEnd, MayEndRefuted, MayFail, Refutes, called_for, files_call_for, unless_refused, with_text}
use Rattle.mp_command.specs.Ends.{ComesWhere, EndsWith, IsCommandAnsweredInPart, IsCommandRefuted, IsRefusal, IsStop, SaysAnswer, SaysLine, WritesFile, status_at_fault}
use Rattle.mp_command.specs.Inputs.{AnswerFile, CheckpointFile, ConfigFile, EventFile, Found, Input, JournalFile, PipeFile, inputs_of, nothing_found, read_as}
use Rattle.mp_command.specs.Lines.{line_after}
use Rattle.mp_command_files.specs.Outcome.{Outcome, Answered, NoMemory, TooLarge, WriteFault, line_said, status_of}
use Rattle.mp_command.specs.Writing.{Keeping}
use Rattle.mp_command.proofs.Coming.{may_lack_memory, refusal_of_text}
use Rattle.mp_command.proofs.Leaving.{no_both, no_stop, refuted_late, status_is, stopped_alone}

-- Where no file is at fault

-- a status that no file that is read gives
abbrev IsNoFileStatus : ℕ → Type 0
IsNoFileStatus n = (n ≡ 3 → ⊥) × (n ≡ 4 → ⊥) × (n ≡ 5 → ⊥) × (n ≡ 6 → ⊥) × (n ≡ 9 → ⊥) × (n ≡ 12 → ⊥) × (n ≡ 14 → ⊥)

done_is : IsNoFileStatus 0
done_is = ((λ e. omega (arith, e)), (λ e. omega (arith, e)), (λ e. omega (arith, e)), (λ e. omega (arith, e)), (λ e. omega (arith, e)), (λ e. omega (arith, e)), (λ e. omega (arith, e)))

usage_is : IsNoFileStatus 2
usage_is = ((λ e. omega (arith, e)), (λ e. omega (arith, e)), (λ e. omega (arith, e)), (λ e. omega (arith, e)), (λ e. omega (arith, e)), (λ e. omega (arith, e)), (λ e. omega (arith, e)))

bad_is : IsNoFileStatus 11
bad_is = ((λ e. omega (arith, e)), (λ e. omega (arith, e)), (λ e. omega (arith, e)), (λ e. omega (arith, e)), (λ e. omega (arith, e)), (λ e. omega (arith, e)), (λ e. omega (arith, e)))

no_run_is : IsNoFileStatus 13
no_run_is = ((λ e. omega (arith, e)), (λ e. omega (arith, e)), (λ e. omega (arith, e)), (λ e. omega (arith, e)), (λ e. omega (arith, e)), (λ e. omega (arith, e)), (λ e. omega (arith, e)))

module _ (n : ℕ) (no_file : IsNoFileStatus n) where
  text_refused : (input : Input) (o : Outcome) → IsRefusalOf input o → status_of o ≡ n → ⊥
  text_refused EventFile o (line, why, is) at = no_file.0 (sym at ∙ ap status_of is)
  text_refused PipeFile o (line, why, is) at = no_file.5 (sym at ∙ ap status_of is)
  text_refused (ConfigFile flow) o (line, why, is) at = no_file.1 (sym at ∙ ap status_of is)
  text_refused CheckpointFile o none at = none
  text_refused AnswerFile o none at = none
  text_refused (JournalFile flow) o (line, why, is) at = no_file.6 (sym at ∙ ap status_of is)

  comes_otherwise : (inputs : List (Input × List ℕ)) (o : Outcome) → ComesOf inputs o → status_of o ≡ n → ⊥
  comes_otherwise [] o comes at = comes
  comes_otherwise (input ∷ more) o (inl e) at = no_file.2 (sym at ∙ ap status_of e)
  comes_otherwise (input ∷ more) o (inr (inl e)) at = no_file.4 (sym at ∙ ap status_of e)
  comes_otherwise (input ∷ more) o (inr (inr (inl e))) at = no_file.3 (sym at ∙ ap status_of e)
  comes_otherwise (input ∷ more) o (inr (inr (inr (inl refused)))) at = text_refused input.0 o refused at
  comes_otherwise (input ∷ more) o (inr (inr (inr (inr later)))) at = comes_otherwise more o later at

  module _ (line : Found → List ℕ) where
    -- files whose call has that status were all read
    called_line : (told : Option Files) (inputs : List (Input × List ℕ)) (before : Found) → status_of (files_call_for told inputs line before) ≡ n → (found : Found) × (files_call_for told inputs line before ≡ Answered (line found))
    called_line told [] before at = (before, refl)
    called_line told (input ∷ more) before at = of_file (λ after. called_line told more after) (file_at told input.1) at
      where
        of_read : ((after : Found) → status_of (files_call_for told more line after) ≡ n → (found : Found) × (files_call_for told more line after ≡ Answered (line found))) → (text : List ℕ) (read : Result Found Outcome) → read_as input.0 before text ≡ read → status_of (unless_refused (files_call_for told more line) read) ≡ n
            → (found : Found) × (unless_refused (files_call_for told more line) read ≡ Answered (line found))
        of_read again text (Ok after) is at = again after at
        of_read again text (Err o) is at = absurd (text_refused input.0 o (refusal_of_text input.0 before text o is) at)

        of_text : ((after : Found) → status_of (files_call_for told more line after) ≡ n → (found : Found) × (files_call_for told more line after ≡ Answered (line found))) → (text : List ℕ) (within : Bool)
            → status_of (cond within (unless_refused (files_call_for told more line) (read_as input.0 before text)) (TooLarge input.1)) ≡ n
            → (found : Found) × (cond within (unless_refused (files_call_for told more line) (read_as input.0 before text)) (TooLarge input.1) ≡ Answered (line found))
        of_text again text true at = of_read again text (read_as input.0 before text) refl at
        of_text again text false at = absurd (no_file.4 (sym at))

        of_file : ((after : Found) → status_of (files_call_for told more line after) ≡ n → (found : Found) × (files_call_for told more line after ≡ Answered (line found))) → (held : Option (List ℕ))
            → status_of (with_text input.1 held (λ text. unless_refused (files_call_for told more line) (read_as input.0 before text))) ≡ n
            → (found : Found) × (with_text input.1 held (λ text. unless_refused (files_call_for told more line) (read_as input.0 before text)) ≡ Answered (line found))
        of_file again None at = absurd (no_file.2 (sym at))
        of_file again (Some text) at = of_text again text (nat_le (length text) most_bytes) at

    -- an end with that status is that of a line, if it is no fault of the writing
    line_at_end : (told : Option Files) (inputs : List (Input × List ℕ)) (o : Outcome) → MayEnd told inputs line o → status_of o ≡ n → (n ≡ 7 → ⊥) → (n ≡ 8 → ⊥) → (found : Found) × (o ≡ Answered (line found))
    line_at_end None inputs o (inl says) at no_seven no_eight = says
    line_at_end None inputs o (inr (inl comes)) at no_seven no_eight = absurd (comes_otherwise inputs o comes at)
    line_at_end None inputs o (inr (inr (inl e))) at no_seven no_eight = absurd (no_seven (sym at ∙ ap status_of e))
    line_at_end None inputs o (inr (inr (inr e))) at no_seven no_eight = absurd (no_eight (sym at ∙ ap status_of e))
    line_at_end (Some files) inputs o (inl called) at no_seven no_eight =
        let said = called_line (Some files) inputs nothing_found (sym (ap status_of called) ∙ at) in (said.0, called ∙ said.1)
    line_at_end (Some files) inputs o (inr (inl (e, some))) at no_seven no_eight = absurd (no_file.3 (sym at ∙ ap status_of e))
    line_at_end (Some files) inputs o (inr (inr (inl (e, done)))) at no_seven no_eight = absurd (no_seven (sym at ∙ ap status_of e))
    line_at_end (Some files) inputs o (inr (inr (inr e))) at no_seven no_eight = absurd (no_eight (sym at ∙ ap status_of e))

-- an outcome with status 0 is the line of what was found
done_line : (asked : Asked) (told : Option Files) (o : Outcome) → MayCome (Some asked) told o → status_of o ≡ 0 → (found : Found) × (o ≡ Answered (line_after asked found))
done_line asked told o (inl may) at = line_at_end 0 done_is (line_after asked) told (inputs_of asked) o may at (λ e. omega (arith, e)) (λ e. omega (arith, e))
done_line asked told o (inr refuted) at = absurd (omega (arith, at, refuted_late asked o refuted.0))

-- a command ends otherwise than as usage
not_usage : (asked : Asked) (told : Option Files) (o : Outcome) → MayCome (Some asked) told o → status_of o ≡ 2 → ⊥
not_usage asked told o (inl may) at =
    let said = line_at_end 2 usage_is (line_after asked) told (inputs_of asked) o may at (λ e. omega (arith, e)) (λ e. omega (arith, e)) in
    omega (arith, at, ap status_of said.1)
not_usage asked told o (inr refuted) at = omega (arith, at, refuted_late asked o refuted.0)

-- an outcome with such a status is that of a command that refutes what it found
only_refuted : (n : ℕ) → IsNoFileStatus n → 10 < n → (asked : Asked) (told : Option Files) (o : Outcome) → MayCome (Some asked) told o → status_of o ≡ n → OnSome told (Refutes told asked)
only_refuted n no_file late asked told o (inl may) at =
    let said = line_at_end n no_file (line_after asked) told (inputs_of asked) o may at (λ e. omega (arith, e, late)) (λ e. omega (arith, e, late)) in
    absurd (omega (arith, at, late, ap status_of said.1))
only_refuted n no_file late asked told o (inr refuted) at = refuted.1

-- a command writes a file or says its answer, and not both
one_of_both : (command : Option Asked) → WritesFile command → SaysAnswer command → ⊥
one_of_both None w s = w
one_of_both (Some (Run asked)) w s = s
one_of_both (Some (Check asked)) w s = w
one_of_both (Some (Make asked)) w s = s
one_of_both (Some (Demo asked)) w s = w
one_of_both (Some (Audit asked)) w s = w

-- How the status of a call follows from the outcome's: it is that, or the line was not said whole
abbrev pub TellsCode : Outcome → ℕ → Type 0 → Type 0
TellsCode o code rose =
    (code ≡ status_of o)
    ⊎ (((status_of o ≡ 0) × (code ≡ 7) × (0 < length (line_said o)) × rose)
    ⊎ ((code ≡ 8) × (0 < length (line_said o))))

module _ {S : Type 0} (written : S → Option (List ℕ)) (faults : S → ℕ) (o : Outcome) (code : ℕ) (old new : S) (says : SaysLine written faults (line_said o) (status_of o) code old new) where
  pub told_code : TellsCode o code (Rose (faults old) (faults new))
  told_code = go (status_of o) refl says.ends
    where
      go : (own : ℕ) → status_of o ≡ own
          → ((code ≡ own) × (length (line_said o) ≤ says.count))
          ⊎ (((code ≡ status_at_fault own) × (says.count < length (line_said o)) × Rose (faults old) (faults new))
          ⊎ ((code ≡ 8) × (says.count < length (line_said o)) × (faults new ≡ faults old)))
          → TellsCode o code (Rose (faults old) (faults new))
      go own is (inl (e, all)) = inl (e ∙ sym is)
      go zero is (inr (inl (e, less, rose))) = inr (inl (is, e, omega (arith, less), rose))
      go (suc n) is (inr (inl (e, less, rose))) = inl (e ∙ sym is)
      go own is (inr (inr (e, less, same))) = inr (inr (e, omega (arith, less)))

  -- with status 0 the line was said whole
  pub said_whole : code ≡ 0 → written new ≡ grown (written old) (line_said o)
  said_whole done = go (status_of o) says.ends
    where
      go : (own : ℕ)
          → ((code ≡ own) × (length (line_said o) ≤ says.count))
          ⊎ (((code ≡ status_at_fault own) × (says.count < length (line_said o)) × Rose (faults old) (faults new))
          ⊎ ((code ≡ 8) × (says.count < length (line_said o)) × (faults new ≡ faults old)))
          → written new ≡ grown (written old) (line_said o)
      go own (inl (e, all)) = says.grew ∙ ap (λ (text : List ℕ). grown (written old) text) (take_all says.count (line_said o) all)
      go zero (inr (inl (e, less, rose))) = absurd (omega (arith, e, done))
      go (suc n) (inr (inl (e, less, rose))) = absurd (omega (arith, e, done))
      go own (inr (inr (e, less, same))) = absurd (omega (arith, e, done))

module _ (command : Option Asked) (told : Option Files) (o : Outcome) (code : ℕ) (rose : Type 0) (may : MayCome command told o) (tells : TellsCode o code rose) where
  -- a status other than 7 and 8 is the outcome's
  pub status_at : (n : ℕ) → code ≡ n → (n ≡ 7 → ⊥) → (n ≡ 8 → ⊥) → status_of o ≡ n
  status_at n at no_seven no_eight = go tells
    where
      go : TellsCode o code rose → status_of o ≡ n
      go (inl e) = sym e ∙ at
      go (inr (inl (done, e, some, r))) = absurd (no_seven (sym at ∙ e))
      go (inr (inr (e, some))) = absurd (no_eight (sym at ∙ e))

  -- only a command that says its answer has a line with status 0
  speaks : status_of o ≡ 0 → 0 < length (line_said o) → SaysAnswer command
  speaks done some = go command may
    where
      go : (command : Option Asked) → MayCome command told o → SaysAnswer command
      go None (inl e) = absurd (omega (arith, done, ap status_of e))
      go None (inr e) = absurd (omega (arith, done, ap status_of e))
      go (Some (Check asked)) may = tt
      go (Some (Demo asked)) may = tt
      go (Some (Audit asked)) may = tt
      go (Some (Run asked)) may =
          let said = done_line (Run asked) told o may done in
          absurd (omega (arith, some, ap (λ (x : Outcome). length (line_said x)) said.1))
      go (Some (Make asked)) may =
          let said = done_line (Make asked) told o may done in
          absurd (omega (arith, some, ap (λ (x : Outcome). length (line_said x)) said.1))

  -- words that are no command end as usage
  pub usage_at : ComesWhere 2 code (command ≡ None)
  usage_at = (λ e. none command may (status_at 2 e (λ h. omega (arith, h)) (λ h. omega (arith, h))), λ is. pick command may is)
    where
      none : (command : Option Asked) → MayCome command told o → status_of o ≡ 2 → command ≡ None
      none None may at = refl
      none (Some asked) may at = absurd (not_usage asked told o may at)

      as_usage : status_of o ≡ 2 → TellsCode o code rose → (code ≡ 2) ⊎ (code ≡ 8)
      as_usage at (inl e) = inl (e ∙ at)
      as_usage at (inr (inl (done, e, some, r))) = absurd (omega (arith, done, at))
      as_usage at (inr (inr (e, some))) = inr e

      as_memory : status_of o ≡ 8 → TellsCode o code rose → (code ≡ 2) ⊎ (code ≡ 8)
      as_memory at (inl e) = inr (e ∙ at)
      as_memory at (inr (inl (done, e, some, r))) = absurd (omega (arith, done, at))
      as_memory at (inr (inr (e, some))) = inr e

      pick : (command : Option Asked) → MayCome command told o → command ≡ None → (code ≡ 2) ⊎ (code ≡ 8)
      pick None (inl e) is = as_usage (ap status_of e) tells
      pick None (inr e) is = as_memory (ap status_of e) tells
      pick (Some asked) may is = cc

  -- where a line is not said for a fault of the sink, the command could also have ended with a fault of a write
  may_fault : status_of o ≡ 0 → MayCome command told WriteFault
  may_fault done = go command told may
    where
      go : (command : Option Asked) (told : Option Files) → MayCome command told o → MayCome command told WriteFault
      go None told (inl e) = absurd (omega (arith, done, ap status_of e))
      go None told (inr e) = absurd (omega (arith, done, ap status_of e))
      go (Some asked) told (inr refuted) = absurd (omega (arith, done, refuted_late asked o refuted.0))
      go (Some asked) None (inl may) = inl (inr (inr (inl refl)))
      go (Some asked) (Some files) (inl (inl called)) = inl (inr (inr (inl (refl, sym (ap status_of called) ∙ done))))
      go (Some asked) (Some files) (inl (inr (inl (e, some)))) = absurd (omega (arith, done, ap status_of e))
      go (Some asked) (Some files) (inl (inr (inr (inl (e, answered))))) = absurd (omega (arith, done, ap status_of e))
      go (Some asked) (Some files) (inl (inr (inr (inr e)))) = absurd (omega (arith, done, ap status_of e))

  -- the status is that of an outcome that may come
  pub outcome_at : (x : Outcome) × MayCome command told x × (status_of x ≡ code)
  outcome_at = go tells
    where
      go : TellsCode o code rose → (x : Outcome) × MayCome command told x × (status_of x ≡ code)
      go (inl e) = (o, may, sym e)
      go (inr (inl (done, e, some, r))) = (WriteFault, may_fault done, sym e)
      go (inr (inr (e, some))) = (NoMemory, may_lack_memory command told, sym e)

  -- a write fault of a command that writes files is one of its own
  pub write_fault_at : (writes : Type 0) → (status_of o ≡ 7 → WritesFile command × writes) → WritesFile command → code ≡ 7 → writes
  write_fault_at writes faults w at = go tells
    where
      go : TellsCode o code rose → writes
      go (inl e) = (faults (sym e ∙ at)).1
      go (inr (inl (done, e, some, r))) = absurd (one_of_both command w (speaks done some))
      go (inr (inr (e, some))) = absurd (omega (arith, e, at))

  -- and one of a command that says its answer is one of the line
  pub said_fault_at : (writes : Type 0) → (status_of o ≡ 7 → WritesFile command × writes) → SaysAnswer command → code ≡ 7 → rose
  said_fault_at writes faults s at = go tells
    where
      go : TellsCode o code rose → rose
      go (inl e) = absurd (one_of_both command (faults (sym e ∙ at)).0 s)
      go (inr (inl (done, e, some, r))) = r
      go (inr (inr (e, some))) = absurd (omega (arith, e, at))

  -- well-formed input is answered, but for faults
  pub complete_at : (reads writes : Type 0) → (status_of o ≡ 6 → reads) → (status_of o ≡ 7 → WritesFile command × writes)
      → (asked : Asked) → command ≡ Some asked → IsSome told → status_of (called_for told asked) ≡ 0
      → (reads → ⊥) → (writes → ⊥) → (SaysAnswer (Some asked) × rose → ⊥) → (code ≡ 0) ⊎ ((code ≡ 8) ⊎ IsSomeAnd (refuted_end asked) (λ outcome. code ≡ status_of outcome))
  complete_at reads writes read write asked is some answered no_reads no_writes no_rose = go tells
    where
      called_at : (command : Option Asked) (told : Option Files) → MayCome command told o → command ≡ Some asked → IsSome told
          → (o ≡ called_for told asked) ⊎ (MayFail (inputs_of asked) (called_for told asked) o ⊎ MayEndRefuted told asked o)
      called_at None told may is some = cc
      called_at (Some given) None may is some = cc
      called_at (Some given) (Some files) may is some =
          let same : given ≡ asked = cc in
          subst (λ (x : Asked). (o ≡ called_for (Some files) x) ⊎ (MayFail (inputs_of x) (called_for (Some files) x) o ⊎ MayEndRefuted (Some files) x o)) same (in_turn may)
        where
          in_turn : MayCome (Some given) (Some files) o → (o ≡ called_for (Some files) given) ⊎ (MayFail (inputs_of given) (called_for (Some files) given) o ⊎ MayEndRefuted (Some files) given o)
          in_turn (inl (inl called)) = inl called
          in_turn (inl (inr fails)) = inr (inl fails)
          in_turn (inr refuted) = inr (inr refuted)

      own : code ≡ status_of o → (o ≡ called_for told asked) ⊎ (MayFail (inputs_of asked) (called_for told asked) o ⊎ MayEndRefuted told asked o) → (code ≡ 0) ⊎ ((code ≡ 8) ⊎ IsSomeAnd (refuted_end asked) (λ outcome. code ≡ status_of outcome))
      own e (inl called) = inl (e ∙ ap status_of called ∙ answered)
      own e (inr (inl (inl (fault, some)))) = absurd (no_reads (read (ap status_of fault)))
      own e (inr (inl (inr (inl (fault, done))))) = absurd (no_writes (write (ap status_of fault)).1)
      own e (inr (inl (inr (inr memory)))) = inr (inl (e ∙ ap status_of memory))
      own e (inr (inr refuted)) = inr (inr (rw refuted.0 e))

      go : TellsCode o code rose → (code ≡ 0) ⊎ ((code ≡ 8) ⊎ IsSomeAnd (refuted_end asked) (λ outcome. code ≡ status_of outcome))
      go (inl e) = own e (called_at command told may is some)
      go (inr (inl (done, e, speaking, r))) = absurd (no_rose (subst (λ (c : Option Asked). SaysAnswer c) is (speaks done speaking), r))
      go (inr (inr (e, speaking))) = inr (inl e)

  -- what was found is refuted only by what the files say
  refuted_at : (n : ℕ) → IsNoFileStatus n → 10 < n → code ≡ n → IsCommandRefuted command told
  refuted_at n no_file late at = go command told may (status_at n at (λ h. omega (arith, h, late)) (λ h. omega (arith, h, late)))
    where
      go : (command : Option Asked) (told : Option Files) → MayCome command told o → status_of o ≡ n → IsCommandRefuted command told
      go command None may is = tt
      go None (Some files) (inl e) is = absurd (omega (arith, is, late, ap status_of e))
      go None (Some files) (inr e) is = absurd (omega (arith, is, late, ap status_of e))
      go (Some asked) (Some files) may is = only_refuted n no_file late asked (Some files) o may is

  pub no_run_at : code ≡ 13 → IsCommandRefuted command told
  no_run_at = refuted_at 13 no_run_is (omega arith)

  pub bad_checkpoint_at : code ≡ 11 → IsCommandRefuted command told
  bad_checkpoint_at = refuted_at 11 bad_is (omega arith)

  -- a refusal's status is the outcome's
  refusal_at : IsRefusal code → IsRefusal (status_of o)
  refusal_at refusal = go tells
    where
      go : TellsCode o code rose → IsRefusal (status_of o)
      go (inl e) = subst (λ (n : ℕ). IsRefusal n) e refusal
      go (inr (inl (done, e, some, r))) = absurd (no_both code (inl e) refusal)
      go (inr (inr (e, some))) = absurd (no_both code (inr e) refusal)

  module _ (AreKept : Keeping) (new : Option Files) (ends : EndsWith AreKept command o told new) where
    pub untouched_at : IsRefusal code → SameFiles told new
    untouched_at refusal name = ap (λ (files : Option Files). file_at files name) (ends.untouched (refusal_at refusal))

    -- a call that was stopped has written a part, or its command writes nothing
    pub part_at : IsStop code → IsCommandAnsweredInPart AreKept command told new
    part_at stop = go (status_is o)
      where
        silent : (command : Option Asked) (told : Option Files) → SaysAnswer command → IsCommandAnsweredInPart AreKept command told new
        silent None told s = absurd s
        silent (Some asked) None s = tt
        silent (Some (Check asked)) (Some files) s = inl (λ i d low. absurd (omega (arith, low)))
        silent (Some (Demo asked)) (Some files) s = inl (λ i d low. absurd (omega (arith, low)))
        silent (Some (Audit asked)) (Some files) s = inl (λ i d low. absurd (omega (arith, low)))
        silent (Some (Run asked)) (Some files) s = absurd s
        silent (Some (Make asked)) (Some files) s = absurd s

        of_done : status_of o ≡ 0 → TellsCode o code rose → IsCommandAnsweredInPart AreKept command told new
        of_done done (inl e) = absurd (no_stop code stop (e ∙ done))
        of_done done (inr (inl (d, e, some, r))) = silent command told (speaks done some)
        of_done done (inr (inr (e, some))) = silent command told (speaks done some)

        go : (status_of o ≡ 0) ⊎ (IsStop (status_of o) ⊎ IsRefusal (status_of o)) → IsCommandAnsweredInPart AreKept command told new
        go (inl done) = of_done done tells
        go (inr (inl own)) = ends.part own
        go (inr (inr refusal)) = stopped_alone AreKept command told new (ends.untouched refusal)

  -- with status 0 what is said is the line that the files call for
  pub printed_at : (before now : Option (List ℕ)) → (code ≡ 0 → now ≡ grown before (line_said o)) → code ≡ 0
      → OnSome told (IfSome command (λ asked. now ≡ grown before (line_said (called_for told asked))))
  printed_at before now whole done = go command told may
    where
      zero_is : status_of o ≡ 0
      zero_is = status_at 0 done (λ h. omega (arith, h)) (λ h. omega (arith, h))

      go : (command : Option Asked) (told : Option Files) → MayCome command told o → OnSome told (IfSome command (λ asked. now ≡ grown before (line_said (called_for told asked))))
      go None None may = tt
      go None (Some files) may = tt
      go (Some asked) None may = tt
      go (Some asked) (Some files) (inr refuted) = absurd (omega (arith, zero_is, refuted_late asked o refuted.0))
      go (Some asked) (Some files) (inl (inl called)) = whole done ∙ ap (λ (x : Outcome). grown before (line_said x)) called
      go (Some asked) (Some files) (inl (inr (inl (e, some)))) = absurd (omega (arith, zero_is, ap status_of e))
      go (Some asked) (Some files) (inl (inr (inr (inl (e, answered))))) = absurd (omega (arith, zero_is, ap status_of e))
      go (Some asked) (Some files) (inl (inr (inr (inr e)))) = absurd (omega (arith, zero_is, ap status_of e))
