-- What the crates above take of those below through this one.
pub use Rattle.mp_answer_laws.proofs.Written.{others_write_nothing}
pub use Rattle.mp_answer_laws.specs.Lines.{written_lines}
pub use Rattle.mp_host.specs.Moves.{GivesUp, NothingLeaves}
pub use Rattle.mp_tally.proofs.Lists.{push_all}
pub use Rattle.mp_tally.specs.Tallies.{IsTallyOf, MovedHasKeys, name_of_moved, sent_packets}
pub use Rattle.mp_tally.specs.declared.tally.Moved.{Moved}
pub use Rattle.mp_tally.specs.declared.tally.Tally.{Tally}
pub use Rattle.mp_worker_invariant.proofs.Items.{again_there, put_at}
pub use Rattle.mp_worker_invariant.proofs.Legal.{packet_legal, route_legal}
pub use Rattle.mp_worker_invariant.proofs.Others.{other_hosts, other_movers, other_router}
pub use Rattle.mp_worker_invariant.proofs.Routers.{back, first_is, goes, gone, none_goes, owner_is, owners_known, same_bundle}
pub use Rattle.mp_worker_invariant.proofs.RowsGone.{holds_row, least_row, rows_back, rows_left}
pub use Rattle.mp_worker_invariant.proofs.Standing.{asked, host_at, movers_at, movers_informed, router_at, steps, told}
pub use Rattle.mp_worker_invariant.specs.Laws.{CanDo}
pub use Rattle.mp_worker_invariant.specs.Machine.{machine_worker}
pub use Rattle.mp_worker_invariant.specs.Parts.{AreMoversAt, ArePartsOf, IsHostAt, IsRouterAt, Parts}
