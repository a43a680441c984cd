-- The words of lines.
use Rattle.std.specs.Prelude.{ℕ, Option, Some, None, List, codes, if◌then◌else◌}
use Rattle.std.specs.Str.{bytes_eq}
use Rattle.mp_pipe_file.specs.declared.kinds.LineKind.{LineKind}
use Rattle.mp_pipe_file.specs.declared.kinds.LineKind.TheVariants.{On, Stage}
use Rattle.mp_pipeline.specs.declared.kinds.EventKind.{EventKind}
use Rattle.mp_pipeline.specs.declared.kinds.EventKind.TheVariants.{Person, Auction, Bid}
use Rattle.mp_pipeline.specs.declared.stage.Form.TheVariants.{Pass, Count, Sum, Window}
use Rattle.mp_pipeline.specs.declared.stage.Test.{Test}
use Rattle.mp_pipeline.specs.declared.stage.Test.TheVariants.{Any, Below, Equal, AtLeast}

-- what a line says, by its first field
abbrev pub kind_of : List ℕ → Option LineKind
kind_of field =
    if bytes_eq field (codes "on") then Some On
    else if bytes_eq field (codes "pass") then Some (Stage Pass)
    else if bytes_eq field (codes "count") then Some (Stage Count)
    else if bytes_eq field (codes "sum") then Some (Stage Sum)
    else if bytes_eq field (codes "window") then Some (Stage Window)
    else None

-- the kind of events that a field says
abbrev pub event_kind_of : List ℕ → Option EventKind
event_kind_of field =
    if bytes_eq field (codes "P") then Some Person
    else if bytes_eq field (codes "A") then Some Auction
    else if bytes_eq field (codes "B") then Some Bid
    else None

-- the test that a field says
abbrev pub test_of : List ℕ → Option Test
test_of field =
    if bytes_eq field (codes "any") then Some Any
    else if bytes_eq field (codes "lt") then Some Below
    else if bytes_eq field (codes "eq") then Some Equal
    else if bytes_eq field (codes "ge") then Some AtLeast
    else None
