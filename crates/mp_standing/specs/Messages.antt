-- What the messages of a player tell of the machine's.
use Rattle.std.specs.Prelude.{◌≡◌, suc, List, [], ◌∷◌, length}
use Rattle.mp_names.specs.declared.names.Name.{Name}
use Rattle.mp_names.specs.Outlines.{Outline}
use Rattle.mp_chart.specs.Entries.{entry_of}
use Rattle.mp_standing.specs.declared.message.Message.{Message}

-- the first name, and the number of names
abbrev pub IsMessageOf : Outline → Message → List Name → Type 0
IsMessageOf o m [] = ⊥
IsMessageOf o m (x ∷ xs) = (m.first ≡ entry_of o x) × (m.count ≡ suc (length xs))

-- one for each message, in their order
abbrev pub AreMessagesOf : Outline → List Message → List (List Name) → Type 0
AreMessagesOf o [] [] = Unit {0}
AreMessagesOf o (m ∷ ms) (xs ∷ messages) = IsMessageOf o m xs × AreMessagesOf o ms messages
AreMessagesOf o _ _ = ⊥
