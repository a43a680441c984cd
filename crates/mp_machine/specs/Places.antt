-- The places of a machine: the pairs of worker and kind that its outline has.
use Rattle.std.specs.Prelude.{ℕ, List, [], ◌∷◌, ◌++◌, map}
use Rattle.mp_names.specs.declared.kinds.Kind.{Kind}
use Rattle.mp_names.specs.declared.kinds.Kind.TheVariants.{Ingest, SendControl, Route, Receive, Extract, Settle, Apply, SendRow, Write, Exchange}
use Rattle.mp_names.specs.Names.{joined_below}
use Rattle.mp_names.specs.Outlines.{Outline}

-- one kind for each number below n, in order
abbrev pub each_below : ℕ → (ℕ → Kind) → List Kind
each_below n kind = joined_below n (λ i. kind i ∷ [])

-- the kinds in the order in which a worker's round tries them
abbrev pub kinds_of : Outline → List Kind
kinds_of o =
    Ingest ∷ SendControl ∷ []
    ++ each_below o.stages Route
    ++ each_below o.workers Receive
    ++ each_below o.stages Extract
    ++ each_below o.stages Settle
    ++ each_below o.stages Apply
    ++ SendRow ∷ Write ∷ Exchange ∷ []

-- the places, by worker and then by that order
abbrev pub places : Outline → List (ℕ × Kind)
places o = joined_below o.workers (λ w. map (λ kind. (w, kind)) (kinds_of o))
