-- Records that travel together.
use Rattle.std.specs.Prelude.{◌≡◌, ℕ, List, [], ◌∷◌, All, map}
use Rattle.mp_names.specs.declared.names.Name.{Name}
use Rattle.mp_names.specs.Names.{In}
use Rattle.mp_names.specs.Outlines.{Outline, receiver, sender}
use Rattle.mp_machine.specs.Messages.{IsMessage}
use Rattle.mp_model.specs.declared.record.Rec.{Rec}
use Rattle.mp_model.specs.Facts.{JobFacts, QueryFacts}
use Rattle.mp_outline.specs.JobOutline.{name_of_record, outline_of}
use Rattle.mp_msg.specs.Contents.{IsRecordOf}

-- the stage, and records of it
pub record Bundled : Type 0 where
  pub stage : ℕ
  pub recs : List Rec

-- what they are called
abbrev pub names_in : Bundled → List Name
names_in b = map (name_of_record b.stage) b.recs

-- one worker sends these names
abbrev pub HasOneSender : Outline → List Name → Type 0
HasOneSender o xs = (x y : Name) → In x xs → In y xs → sender o y ≡ sender o x

-- the worker that sends a message, which is that of its first name
abbrev pub sender_of : Outline → List Name → ℕ
sender_of o [] = 0
sender_of o (x ∷ xs) = sender o x

-- the worker that receives it
abbrev pub receiver_of : Outline → List Name → ℕ
receiver_of o [] = 0
receiver_of o (x ∷ xs) = receiver o x

-- Each is a record of the stage of the job, and their names are a message that one worker sends
pub record IsBundle {Cell : Type 0} (q : QueryFacts Cell) (job : JobFacts) (b : Bundled) : Type 0 where
  pub records : All (IsRecordOf q job b.stage) b.recs
  pub message : IsMessage (outline_of q job) (names_in b)
  pub sender : HasOneSender (outline_of q job) (names_in b)
