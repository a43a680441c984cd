use Rattle.mp_board.proofs.Sameness.{rises}
use Rattle.mp_board.proofs.hub.BoardHub.exchange.Goals as goal

pub returns-clause-rises : goal.returns-clause-rises
returns-clause-rises g c = rises _ _ _ _ c.exchange.ensures.version
