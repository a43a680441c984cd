-- What a worker may send.
use Rattle.std.specs.Prelude.{ℕ, List, ◌++◌}
use Rattle.mp_names.specs.declared.names.Name.{Name}
use Rattle.mp_names.specs.Names.{In}
use Rattle.mp_names.specs.Logs.{Log, LogIsLegal}
use Rattle.mp_names.specs.Outlines.{Outline, IsOwedBy}
use Rattle.mp_machine.specs.Messages.{IsMessage}

-- the log with these names as sent too
abbrev pub with_all_sent : Log → List Name → Log
with_all_sent log xs = record log { sent = log.sent ++ xs }

-- The names are a message, the worker has to send each of them, and its log is legal once it has
pub record MaySend (o : Outline) (w : ℕ) (log : Log) (xs : List Name) : Type 0 where
  pub message : IsMessage o xs
  pub owed : (x : Name) → In x xs → IsOwedBy o w x
  pub legal : LogIsLegal o w (with_all_sent log xs)
