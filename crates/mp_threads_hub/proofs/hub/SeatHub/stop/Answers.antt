use Rattle.std.proofs.Common.{◌∙◌, ap}
use Rattle.mp_board.specs.Boards.{Posted}
use Rattle.mp_threads_hub.specs.Hubs.{shared_version}
use Rattle.mp_threads_hub.proofs.Posting.{unchanged}
use Rattle.mp_threads_hub.proofs.hub.SeatHub.stop.Goals as goal

pub put-requires-clause-row : goal.put-requires-clause-row
put-requires-clause-row g c =
    let t = c.take-shared in
    unchanged c.self.inside.seat t.new.seat t.result.logs c.stop.new.self.logs (shared_version t.result) t.ensures.seat (c.stop.ensures.logs ∙ ap (λ (b : Posted). b.logs) (c.deref_mut.ensures.value ∙ c.shared.view_is))
