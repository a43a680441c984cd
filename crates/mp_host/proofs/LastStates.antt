-- What the laws of hosts tell of a host at the end.
use Rattle.mp_model.specs.Facts.{JobFacts, QueryFacts}
use Rattle.mp_outline.proofs.Soundness.{outline_is_sound}
use Rattle.mp_host_laws.specs.Hosted.{Hosted}
use Rattle.mp_host_laws.specs.Last.{EndsWithLastStates}
use Rattle.mp_host_laws.proofs.LastStates.{last_states_are_held}
use Rattle.mp_host.specs.Hosts.{IsHosted}
use Rattle.mp_host.proofs.Told.{QueryKeeps}

-- once its worker has done all that it has to do, it has the states that its bins have then
pub ends_with_last_states : {Cell : Type 0} (q : QueryFacts Cell) (job : JobFacts) → QueryKeeps q job → (its : JobFacts) (h : Hosted Cell) → IsHosted q job its h → EndsWithLastStates q job h
ends_with_last_states q job keeps its h hosted =
    last_states_are_held q job hosted.legal keeps.later keeps.nothing (outline_is_sound q keeps.stages keeps.later keeps.nothing job hosted.legal) h hosted.order hosted.stage
