use Rattle.std.proofs.Common.{◌++◌, ◌∙◌, All, List, ℕ, ap, append_assoc, subst, sym}
use Rattle.std.specs.List.{flat_map}
use Rattle.std.specs.Vec.Iter.{into_iter_items}
use Rattle.std.proofs.lemmas.List.Elements.{All-cons}
use Rattle.mp_model.specs.Tables.{table_of}
use Rattle.mp_msg.specs.States.{BinContent}
use Rattle.mp_host_laws.specs.Hosted.{Hosted}
use Rattle.mp_host_laws.specs.Last.{EndsWithLastStates}
use Rattle.mp_worker_parts.specs.Last.{staged}
use Rattle.mp_worker_parts.proofs.last.states_of.Goals as goal

pub loop-host-preserved : goal.loop-host-preserved
loop-host-preserved g c =
    let job = g.J.Naming.job in
    let ends = EndsWithLastStates (table_of g.Q.Query.facts job) job in
    let before = c.loop-host.invariant in
    let host = c.in-Some.host in
    let rest = into_iter_items c.next.new.self in
    let others = flat_map staged rest in
    let was = c.loop-host.states.items in
    let left = c.in-Some.ensures.steps.0 in
    record {
      next = (tt, tt);
      states = ap (λ (xs : List (ℕ × BinContent g.row.Q-Cell.Denot)). xs ++ others) c.in_ok-add_states.ensures.states
          ∙ (append_assoc was (staged host) others ∙ (ap (λ (hs : List (Hosted g.row.Q-Cell.Denot)). was ++ flat_map staged hs) (sym left) ∙ before.states));
      last = λ more. before.last (subst (All ends) (sym left) (All-cons ends host rest c.add_states.ensures.last more));
    }
