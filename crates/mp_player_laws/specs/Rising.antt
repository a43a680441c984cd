-- How the numbers of a worker rise with its steps.
use Rattle.std.specs.Prelude.{◌≡◌, ℕ, ◌+◌}
use Rattle.mp_names.specs.declared.names.Name.{Name}
use Rattle.mp_names.specs.declared.kinds.Kind.{Kind}
use Rattle.mp_names.specs.declared.kinds.Kind.TheVariants.{Ingest, SendControl, Extract, Settle, Apply, SendRow, Write}
use Rattle.mp_machine.specs.Worlds.{put}
use Rattle.mp_machine.specs.Steps.{CanStep, logged, names_of}
use Rattle.mp_machine.specs.Promises.{InEveryRun}
use Rattle.mp_player_laws.specs.Numbers.{Numbers, numbers_of}

-- the numbers with one more of the list that the kind goes along; a step that routes records, one that receives and an exchange go along none
abbrev pub with_one : Kind → Numbers → Numbers
with_one Ingest n = record n { ingested = n.ingested + 1 }
with_one SendControl n = record n { controls = n.controls + 1 }
with_one (Extract j) n = record n { packets = put j (n.packets j + 1) n.packets }
with_one (Settle j) n = record n { times = put j (n.times j + 1) n.times }
with_one (Apply j) n = record n { groups = put j (n.groups j + 1) n.groups }
with_one SendRow n = record n { rows = n.rows + 1 }
with_one Write n = record n { written = n.written + 1 }
with_one _ n = n

-- each step of a run counts one
abbrev pub NumbersRise : Type 0
NumbersRise =
    InEveryRun (λ o depth world.
    (w : ℕ) (kind : Kind) (x : Name)
    → CanStep o depth world w kind x
    → let log = (world.worker w).log in
    numbers_of (logged kind log (names_of o world w kind x)) ≡ with_one kind (numbers_of log))
