-- The names of a log as they follow from those before.
use Rattle.std.specs.Prelude.{◌≡◌, ◌+◌, List, suc, [], ◌∷◌, ◌++◌, length}
use Rattle.std.proofs.Common.{arith, length-append}
use Rattle.mp_names.specs.declared.names.Name.{Name}
use Rattle.mp_names.specs.Laws.{log_size}
use Rattle.mp_names.specs.Logs.{Log, empty_log}
use Rattle.mp_rows.specs.declared.lists.LogList.{LogList}
use Rattle.mp_rows.specs.declared.lists.LogList.TheVariants.{Ingested, Sent, Took, Applied, Settled}
use Rattle.mp_rows.specs.declared.names.Link.{Link}
use Rattle.mp_rows.specs.declared.names.Link.TheVariants.{Start, More, Several}
use Rattle.mp_rows.specs.Lists.{with_name, with_names}

-- there are none, or one more, or several
abbrev pub names_of : Link → Log
names_of Start = empty_log
names_of (More before list x) = with_name list x before.value
names_of (Several before list xs x) = with_names list (xs.value ++ x ∷ []) before.value

-- a log with one more name has one more
pub one_larger : (list : LogList) (x : Name) (log : Log) → log_size (with_name list x log) ≡ suc (log_size log)
one_larger Ingested x log = omega (arith, length-append log.ingested (x ∷ []))
one_larger Sent x log = omega (arith, length-append log.sent (x ∷ []))
one_larger Took x log = omega (arith, length-append log.took (x ∷ []))
one_larger Applied x log = omega (arith, length-append log.applied (x ∷ []))
one_larger Settled x log = omega (arith, length-append log.settled (x ∷ []))

-- a log with several more has so many more
pub so_much_larger : (list : LogList) (xs : List Name) (log : Log) → log_size (with_names list xs log) ≡ log_size log + length xs
so_much_larger Ingested xs log = omega (arith, length-append log.ingested xs)
so_much_larger Sent xs log = omega (arith, length-append log.sent xs)
so_much_larger Took xs log = omega (arith, length-append log.took xs)
so_much_larger Applied xs log = omega (arith, length-append log.applied xs)
so_much_larger Settled xs log = omega (arith, length-append log.settled xs)
