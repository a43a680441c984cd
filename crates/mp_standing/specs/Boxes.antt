-- The messages that wait from a worker to another.
use Rattle.std.specs.Prelude.{ℕ, List, [], get_or, slice_set}
use Rattle.mp_standing.specs.declared.message.Message.{Message}

abbrev pub box_of : List (List (List Message)) → ℕ → ℕ → List Message
box_of mail from to = get_or (get_or mail from []) to []

-- the same mail, but for these messages from a worker to another
abbrev pub with_box : List (List (List Message)) → ℕ → ℕ → List Message → List (List (List Message))
with_box mail from to messages = slice_set mail from (slice_set (get_or mail from []) to messages)
