-- The states that hosts have in hand, with their stages.
use Rattle.std.specs.Prelude.{ℕ, List, map}
use Rattle.mp_msg.specs.States.{BinContent}
use Rattle.mp_host_laws.specs.Hosted.{Hosted}

-- the states that a host has in hand, each with the host's stage
abbrev pub staged : {Cell : Type 0} → Hosted Cell → List (ℕ × BinContent Cell)
staged h = map (λ s. (h.stage, s.state)) h.held
