use Rattle.std.proofs.Common.{◌≡◌, subst, sym}
use Rattle.std.specs.List.{flat_map}
use Rattle.mp_machine.specs.Promises.{LogIsFull}
use Rattle.mp_model.specs.Tables.{table_of}
use Rattle.mp_outline.specs.JobOutline.{outline_of}
use Rattle.mp_msg.specs.LastStates.{AreStatesOf}
use Rattle.mp_worker_parts.specs.Contents.{Contents}
use Rattle.mp_worker_parts.specs.Last.{staged}
use Rattle.mp_worker_parts.proofs.LastStates.{last_states, ok_with}
use Rattle.mp_worker_parts.proofs.parts.Parts.into_states.Goals as goal

pub returns : goal.returns
returns g c =
    let job = g.J.Naming.job in
    let q = table_of g.Q.Query.facts job in
    let i = c.self.inside in
    let parts = c.self.invariant.parts in
    let w = i.log.worker in
    let hosts = i.hosts.items in
    let full = subst (λ (p : Contents g.row.Q-Cell.Denot). LogIsFull (outline_of q job) p.worker.number p.worker.log) (sym c.self.view_is) c.requires in
    rw (← c.self.view_is)
    (ok_with c.states_of.result (λ s. s.items ≡ flat_map staged hosts) (λ s. AreStatesOf q job w s.items) _
    (λ ends s same. subst (AreStatesOf q job w) (sym same) (last_states q job w i.log.log hosts parts.all_hosts parts.hosts parts.legal full ends))
    c.states_of.ensures.last c.states_of.ensures.states)
