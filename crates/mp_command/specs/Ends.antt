-- What is promised of the end of a call.
use Rattle.std.specs.Prelude.{ℕ, zero, ◌≡◌, ◌≢◌, ◌⊎◌, ◌<◌, ◌≤◌, Bool, false, Option, Some, None, List, [], ◌∷◌, All, take, length}
use Rattle.std.specs.Prelude.{IfSome, IsSomeAnd, OnSome}
use Rattle.mp_outside.specs.Fault.{Rose}
use Rattle.mp_outside.specs.Files.{Files, file_at}
use Rattle.mp_outside.specs.Sink.{grown}
use Rattle.mp_words.specs.Words.{Asked, Run, Check, Make, Demo, Audit}
use Rattle.mp_command.specs.Audits.{IsConfirmed}
use Rattle.mp_command.specs.Calls.{IsNamedIn, MayCome, Refutes}
use Rattle.mp_command.specs.Inputs.{Found, Input, inputs_of, nothing_found}
use Rattle.mp_command_files.specs.Outcome.{Outcome, status_of}
use Rattle.mp_command.specs.Reading.{ReadsAll}
use Rattle.mp_command.specs.Writing.{IsTextOf, Keeping, Purpose, Target, WritesPart, WritesWhole, targets_of}

-- the file is as it was
abbrev pub IsSame : Option Files → Option Files → Target → Type 0
IsSame old new target = file_at new target.name ≡ file_at old target.name

module _ (IsText : Purpose → List ℕ → Type 0) where
  -- the file holds exactly a text for its purpose
  abbrev pub IsWhole : Option Files → Target → Type 0
  IsWhole new target = (text : List ℕ) × IsText target.purpose text × (file_at new target.name ≡ Some text)

  -- the file is as it was, or holds the first bytes of a text for its purpose
  abbrev pub IsPart : Option Files → Option Files → Target → Type 0
  IsPart old new target =
      IsSame old new target
      ⊎ ((text : List ℕ) × IsText target.purpose text × (k : ℕ) × (file_at new target.name ≡ Some (take k text)))

  -- the files before one are whole, that one is there in part, and those behind it are as they were
  abbrev pub AreInPart : Option Files → Option Files → List Target → Type 0
  AreInPart old new [] = Unit {0}
  AreInPart old new (target ∷ more) =
      (IsPart old new target × All (IsSame old new) more) ⊎ (IsWhole new target × AreInPart old new more)

module _ (AreKept : Keeping) where
  -- What the files hold where the command is done: what those that it reads say is as the command wants it, and by that each that it
  -- writes is whole
  abbrev pub IsDone : Option Files → Option Files → Asked → Type 0
  IsDone old new asked =
      (found : Found) × ReadsAll old (inputs_of asked) nothing_found found × IsConfirmed asked found × All (IsWhole (IsTextOf AreKept asked found) new) (targets_of asked)

  -- what they hold where it was stopped: those that it writes are as they were, or by what was read there in part
  abbrev pub IsDoneInPart : Option Files → Option Files → Asked → Type 0
  IsDoneInPart old new asked =
      All (IsSame old new) (targets_of asked)
      ⊎ ((found : Found) × ReadsAll old (inputs_of asked) nothing_found found × AreInPart (IsTextOf AreKept asked found) old new (targets_of asked))

-- the statuses at which the files are as they were
abbrev pub IsRefusal : ℕ → Type 0
IsRefusal code =
    (code ≡ 2) ⊎ ((code ≡ 3) ⊎ ((code ≡ 4) ⊎ ((code ≡ 5) ⊎ ((code ≡ 6) ⊎ ((code ≡ 9) ⊎ ((code ≡ 11) ⊎ ((code ≡ 12) ⊎ ((code ≡ 13) ⊎ (code ≡ 14)))))))))

-- the statuses at which a part may be written
abbrev pub IsStop : ℕ → Type 0
IsStop code = (code ≡ 7) ⊎ (code ≡ 8)

-- the name is not one that the command writes
abbrev pub IsLeft : List ℕ → Asked → Type 0
IsLeft name asked = All (λ target. name ≢ target.name) (targets_of asked)

-- the name is not one that the command writes, if the words are a command
abbrev pub IsOther : Option Asked → List ℕ → Type 0
IsOther command name = IfSome command (IsLeft name)

-- the command is none that runs a job on files
abbrev pub MakesNoRun : Asked → Type 0
MakesNoRun (Run asked) = ⊥
MakesNoRun _ = Unit {0}

-- the command writes a file: `run`, `replay` or `make`
abbrev pub WritesFile : Option Asked → Type 0
WritesFile (Some (Run asked)) = Unit {0}
WritesFile (Some (Make asked)) = Unit {0}
WritesFile _ = ⊥

-- the command says what it found: `check`, `demo` or `audit`
abbrev pub SaysAnswer : Option Asked → Type 0
SaysAnswer (Some (Check asked)) = Unit {0}
SaysAnswer (Some (Demo asked)) = Unit {0}
SaysAnswer (Some (Audit asked)) = Unit {0}
SaysAnswer _ = ⊥

-- the status comes where its cause is, and nowhere else; want of memory may come in its place
abbrev pub ComesWhere : ℕ → ℕ → Type 0 → Type 0
ComesWhere status code cause = (code ≡ status → cause) × (cause → (code ≡ status) ⊎ (code ≡ 8))

module _ {D : Type 0} (found : D → List ℕ → Bool → D → Type 0) where
  -- a `find` of one of the files that are read answered that it isn't there, and left the depot in this state
  abbrev pub LacksOne : List (Input × List ℕ) → D → Type 0
  LacksOne inputs new = (before : D) × (name : List ℕ) × IsNamedIn inputs name × found before name false new

  -- a `find` of a file that the command reads answered so
  abbrev pub LacksInput : Option Asked → D → Type 0
  LacksInput None new = ⊥
  LacksInput (Some asked) new = LacksOne (inputs_of asked) new

-- where the depot tells its files, the words are a command, and it refutes what these say
abbrev pub IsCommandRefuted : Option Asked → Option Files → Type 0
IsCommandRefuted command told = OnSome told (IsSomeAnd command (Refutes told))

module _ (AreKept : Keeping) where
  -- where the depot tells its files, the command is done
  abbrev pub IsCommandAnswered : Option Asked → Option Files → Option Files → Type 0
  IsCommandAnswered command old new = OnSome old (IfSome command (IsDone AreKept old new))

  -- where the depot tells its files, what the command writes is written in part, or nothing is
  abbrev pub IsCommandAnsweredInPart : Option Asked → Option Files → Option Files → Type 0
  IsCommandAnsweredInPart command old new = OnSome old (IfSome command (IsDoneInPart AreKept old new))

-- each name but those that the command writes holds what it held
abbrev pub OthersStay : Option Asked → Option Files → Option Files → Type 0
OthersStay command old new = (name : List ℕ) → IsOther command name → file_at new name ≡ file_at old name

module _ {D : Type 0} (files : D → Option Files) (found : D → List ℕ → Bool → D → Type 0) (read_faults write_faults : D → ℕ) where
  -- The command came to this: it may, by what the files hold, and a file that it misses wasn't found, a fault that it
  -- speaks of was counted in this call, that of a write only where the command writes a file
  pub record CameTo (command : Option Asked) (outcome : Outcome) (old new : D) : Type 0 where
    pub may : MayCome command (files old) outcome
    pub not_found : status_of outcome ≡ 5 → LacksInput found command new
    pub read_fault : status_of outcome ≡ 6 → Rose (read_faults old) (read_faults new)
    pub write_fault : status_of outcome ≡ 7 → WritesFile command × Rose (write_faults old) (write_faults new)

module _ (AreKept : Keeping) where
  -- what a command has written where it ends so
  pub record Leaves (asked : Asked) (outcome : Outcome) (old new : Option Files) : Type 0 where
    pub whole : status_of outcome ≡ 0 → WritesWhole AreKept asked old new
    pub part : IsStop (status_of outcome) → WritesPart AreKept asked old new
    pub untouched : IsRefusal (status_of outcome) → new ≡ old

  -- what the files of the depot hold, where it tells them and the words' command, if they are one, ends so
  pub record EndsWith (command : Option Asked) (outcome : Outcome) (old new : Option Files) : Type 0 where
    pub answered : status_of outcome ≡ 0 → IsCommandAnswered AreKept command old new
    pub part : IsStop (status_of outcome) → IsCommandAnsweredInPart AreKept command old new
    pub untouched : IsRefusal (status_of outcome) → new ≡ old
    pub others : OthersStay command old new

-- the status where a line is not said whole for a fault of the sink: that of a refusal stays, and an answer is a write fault
abbrev pub status_at_fault : ℕ → ℕ
status_at_fault zero = 7
status_at_fault own = own

module _ {S : Type 0} (written : S → Option (List ℕ)) (faults : S → ℕ) where
  -- A line was said whole, with its own status. Or a part of it was said: the sink failed, which is a write fault where
  -- the line is an answer; or it counted no fault, but found no memory for the rest, and the status is 8
  pub record SaysLine (line : List ℕ) (own code : ℕ) (old new : S) : Type 0 where
    pub count : ℕ
    pub grew : written new ≡ grown (written old) (take count line)
    pub ends : ((code ≡ own) × (length line ≤ count))
        ⊎ (((code ≡ status_at_fault own) × (count < length line) × Rose (faults old) (faults new))
        ⊎ ((code ≡ 8) × (count < length line) × (faults new ≡ faults old)))
