-- A worker may go to another thread, and so may one with its ends and its seat. Each part is shown by itself: a search through all of a worker ends at its limits.
use denote.RattleType.{RattleType}
use denote.Ref.{NamedLft}
use denote.Param.Send.{IsSend, IsSync, sendable}
use Rattle.std.proofs.Crossing.{crosses}
use Rattle.std.proofs.alloc.Global.TheSendSync as global
use Rattle.mp_model.specs.declared.query.Query as query
use Rattle.mp_model.specs.declared.naming.Naming as naming
use Rattle.mp_job.proofs.job.Job.TheSendSync as job
use Rattle.mp_worker.below.mp_bins.proofs.owners.Owners.TheSendSync as owners
use Rattle.mp_worker.below.mp_controller.proofs.controller.Controller.TheSendSync as controller
use Rattle.mp_worker.below.mp_route.proofs.router.Router.TheSendSync as router
use Rattle.mp_worker.below.mp_host.proofs.host.Host.TheSendSync as host
use Rattle.mp_worker.below.mp_handoff.proofs.movers.Movers.TheSendSync as movers
use Rattle.mp_worker.below.mp_worker_parts.proofs.lists.ChangeLists.TheSendSync as lists
use Rattle.mp_output.proofs.unsent.Unsent.TheSendSync as unsent
use Rattle.mp_output.proofs.rows.Rows.TheSendSync as rows
use Rattle.mp_ruled.proofs.post.RuledPost.TheSendSync as post
use Rattle.mp_msg.proofs.message.Msg.TheSendSync as message
use Rattle.mp_threads_hub.proofs.Crossing.{hub_send, log_send}
use Rattle.mp_worker.specs.contracts.worker.Worker as worker
use Rattle.mp_threads_member.specs.contracts.member.Member as member

module _ (a : NamedLft) (Q J C : RattleType) (g : query.Ghosts Q.Denot C.Denot) (h : naming.Ghosts J.Denot) where
  pub worker_send : IsSend Q → IsSync Q → IsSend J → IsSync J → IsSend C → IsSync C → IsSend (worker.the_row a Q J C g h)
  worker_send q qs j js s ss = search (log_send, controller.the_send, job.the_sync, owners.the_send, router.the_send, host.the_send, movers.the_send, unsent.the_send, rows.the_send, lists.the_field_send, global.the_field_send, crosses, sendable) depth 60 fits 20000

  pub member_send : (R : RattleType) → IsSend R → IsSend Q → IsSync Q → IsSend J → IsSync J → IsSend C → IsSync C → IsSend (member.the_row a Q J R C g h)
  member_send R r q qs j js s ss = search (worker_send, hub_send, post.the_send, message.the_send, crosses, sendable) depth 60 fits 20000
