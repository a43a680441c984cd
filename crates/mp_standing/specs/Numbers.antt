-- How far a worker is in each list.
use Rattle.std.specs.Prelude.{◌≡◌, ℕ, ◌<◌, get_or}
use Rattle.mp_names.specs.declared.kinds.Kind.{Kind}
use Rattle.mp_names.specs.declared.kinds.Kind.TheVariants.{Ingest, SendControl, Route, Receive, Extract, Settle, Apply, SendRow, Write, Exchange}
use Rattle.mp_names.specs.Limits.{most_stages}
use Rattle.mp_names.specs.Outlines.{Outline}
use Rattle.mp_machine.specs.Steps.{KindFits}
use Rattle.mp_player_laws.specs.Numbers.{Numbers}
use Rattle.mp_chart.specs.Lists.{number_at}
use Rattle.mp_standing.specs.declared.done.Done.{Done}

-- how many steps of a kind are made
abbrev pub done_at : Done → Kind → ℕ
done_at d Ingest = d.ingested
done_at d SendControl = d.controls
done_at d (Extract j) = get_or d.packets j 0
done_at d (Settle j) = get_or d.times j 0
done_at d (Apply j) = get_or d.groups j 0
done_at d SendRow = d.rows
done_at d Write = d.written
done_at d _ = 0

-- the kind goes along a list, of a stage that there may be
abbrev pub IsCounted : Kind → Type 0
IsCounted (Route j) = ⊥
IsCounted (Receive v) = ⊥
IsCounted (Extract j) = j < most_stages
IsCounted (Settle j) = j < most_stages
IsCounted (Apply j) = j < most_stages
IsCounted Exchange = ⊥
IsCounted _ = Unit {0}

-- these are the numbers, of each kind that the job has
abbrev pub AreNumbers : Outline → Done → Numbers → Type 0
AreNumbers o d n = (kind : Kind) → KindFits o kind → done_at d kind ≡ number_at n kind
