use Rattle.std.proofs.Common.{ℕ, ◌∙◌, List, ap, filter}
use Rattle.mp_names.specs.declared.names.Name.{Name}
use Rattle.mp_names.specs.declared.locations.Loc.TheVariants.{Move, State}
use Rattle.mp_names.specs.Names.{is_packet}
use Rattle.mp_names.specs.Outlines.{control_times, packets_of}
use Rattle.mp_work_lists.specs.Parts.{names_at, time_in, times_at}
use Rattle.mp_work_lists.proofs.Joining.{moves_joined, listed_each, listed_once}
use Rattle.mp_work_lists.proofs.Settling.{times_of_map}
use Rattle.mp_work_lists.proofs.parts.add_moves.Goals as goal

pub returns : goal.returns
returns g c =
    let o = g.L.OutlineLists.outline c.args.lists.now in
    let j = c.args.stage in
    let f = λ (t : ℕ). names_at t (control_times o j) in
    let p = λ (t : ℕ). names_at t (filter (is_packet j) (packets_of o)) in
    let many = λ (t : ℕ).
    ap (times_at t) c.in_ok-packets.ensures
    ∙ times_of_map time_in t (filter (is_packet j) c.packets.result.now)
    ∙ ap (λ (xs : List Name). names_at t (filter (is_packet j) xs)) c.packets.ensures
    in
    moves_joined o _ _ _ _ j
    (listed_each (Move j) _ _ _ _ f _ _ c.workers.ensures.workers c.deref.ensures.value c.in_ok-times.ensures c.in_ok-add_times.ensures)
    (listed_once (Move j) _ _ p _ _ c.deref-2.ensures.value many c.in_ok-add_times-2.ensures)
    (listed_once (State j) _ _ p _ _ c.deref-3.ensures.value many c.in_ok-add_times-3.ensures)
