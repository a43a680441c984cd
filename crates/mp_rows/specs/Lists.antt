-- A log with more names.
use Rattle.std.specs.Prelude.{List, ◌++◌}
use Rattle.mp_names.specs.declared.names.Name.{Name}
use Rattle.mp_names.specs.Logs.{Log, with_applied, with_ingested, with_sent, with_settled, with_took}
use Rattle.mp_rows.specs.declared.lists.LogList.{LogList}
use Rattle.mp_rows.specs.declared.lists.LogList.TheVariants.{Ingested, Sent, Took, Applied, Settled}

-- the log with a name at the end of a list
abbrev pub with_name : LogList → Name → Log → Log
with_name Ingested x log = with_ingested log x
with_name Sent x log = with_sent log x
with_name Took x log = with_took log x
with_name Applied x log = with_applied log x
with_name Settled x log = with_settled log x

-- the log with these names at the end of a list
abbrev pub with_names : LogList → List Name → Log → Log
with_names Ingested xs log = record log { ingested = log.ingested ++ xs }
with_names Sent xs log = record log { sent = log.sent ++ xs }
with_names Took xs log = record log { took = log.took ++ xs }
with_names Applied xs log = record log { applied = log.applied ++ xs }
with_names Settled xs log = record log { settled = log.settled ++ xs }
