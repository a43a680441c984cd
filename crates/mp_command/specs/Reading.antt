-- What comes of reading a command's files.
use Rattle.std.specs.Prelude.{ℕ, ◌≡◌, ◌⊎◌, Option, Ok, Err, List, [], ◌∷◌}
use Rattle.mp_outside.specs.Files.{Files}
use Rattle.mp_command_files.specs.Outcome.{Outcome}
use Rattle.mp_command_files.specs.Texts.{CannotRead, IsRead}
use Rattle.mp_command.specs.Inputs.{Found, Input, read_as}

-- the file was read, and with its text so much is found
abbrev pub ReadsAs : Option Files → Input × List ℕ → Found → Found → Type 0
ReadsAs told input before after = (text : List ℕ) × IsRead told input.1 text × (read_as input.0 before text ≡ Ok after)

-- how a call ends whose file gave no text, or one that is refused so
abbrev pub RefusesAs : Option Files → Input × List ℕ → Found → Outcome → Type 0
RefusesAs told input before outcome =
    CannotRead told input.1 outcome
    ⊎ ((text : List ℕ) × IsRead told input.1 text × (read_as input.0 before text ≡ Err outcome))

-- the files were read, each in its turn, and in the end so much is found
abbrev pub ReadsAll : Option Files → List (Input × List ℕ) → Found → Found → Type 0
ReadsAll told [] before after = after ≡ before
ReadsAll told (input ∷ more) before after = (found : Found) × ReadsAs told input before found × ReadsAll told more found after

-- how a call ends where one of the files was refused, behind those that were read
abbrev pub RefusesOne : Option Files → List (Input × List ℕ) → Found → Outcome → Type 0
RefusesOne told [] before outcome = ⊥
RefusesOne told (input ∷ more) before outcome =
    RefusesAs told input before outcome ⊎ ((found : Found) × ReadsAs told input before found × RefusesOne told more found outcome)
