-- What comes of reading one file of the command.
use Rattle.std.specs.Prelude.{ℕ, ◌≡◌, ◌<◌, ◌≤◌, ◌⊎◌, Option, None, Ok, Err, List, Result, length}
use Rattle.mp_names.specs.Limits.{most_bytes}
use Rattle.mp_outside.specs.Files.{Files, file_at, IsThereWith}
use Rattle.mp_command_files.specs.Outcome.{Outcome, NoFile, NoMemory, ReadFault, TooLarge}

-- the text is the file's, where files are told, and no longer than is allowed
pub record IsRead (told : Option Files) (name text : List ℕ) : Type 0 where
  pub whole : IsThereWith told name (λ bytes. text ≡ bytes)
  pub within : length text ≤ most_bytes

-- why a file gave no text: it isn't there, it is too large, or the outside failed
pub data CannotRead (told : Option Files) (name : List ℕ) : Outcome → Type 0 where
  absent : file_at told name ≡ None → CannotRead told name (NoFile name)
  large : IsThereWith told name (λ bytes. most_bytes < length bytes) → CannotRead told name (TooLarge name)
  failed : CannotRead told name ReadFault
  no_memory : CannotRead told name NoMemory

-- what a text says, or how a call ends for its first bad line and the first check that it fails
abbrev pub or_refused : {V Why : Type 0} → (ℕ → Why → Outcome) → Result V (ℕ × Why) → Result V Outcome
or_refused refusal (Ok value) = Ok value
or_refused refusal (Err bad) = Err (refusal bad.0 bad.1)

-- the file of this name was read, and its text says so much
abbrev pub Says : {V Why : Type 0} → (List ℕ → Result V (ℕ × Why)) → Option Files → List ℕ → V → Type 0
Says reads told name value = (text : List ℕ) × IsRead told name text × (reads text ≡ Ok value)

-- how a call ends where the file of this name gave no text, or one that is refused so
abbrev pub IsRefused : {V Why : Type 0} → (List ℕ → Result V (ℕ × Why)) → (ℕ → Why → Outcome) → Option Files → List ℕ → Outcome → Type 0
IsRefused reads refusal told name outcome =
    CannotRead told name outcome
    ⊎ ((text : List ℕ) × IsRead told name text × (or_refused refusal (reads text) ≡ Err outcome))
