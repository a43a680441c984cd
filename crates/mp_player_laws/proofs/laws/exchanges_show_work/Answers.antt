use Rattle.mp_machine.specs.Runs.{run_of_machine}
use Rattle.mp_machine.specs.Worlds.{posted_logs, start_of_machine}
use Rattle.mp_player_laws.proofs.Remaining.{shows_frontier}
use Rattle.mp_player_laws.proofs.Exchanging.{exchange_sees, start_legal, work_moves}
use Rattle.mp_player_laws.proofs.laws.exchanges_show_work.Goals as goal

pub returns-clause-start : goal.returns-clause-start
returns-clause-start c = λ o w at f ok is. shows_frontier o ok (posted_logs (start_of_machine o)) at (start_legal o ok) f is

pub returns-clause-moved : goal.returns-clause-moved
returns-clause-moved c = λ o depth steps ok w a t l. work_moves o (run_of_machine o depth steps) w a t l

pub returns-clause-seen : goal.returns-clause-seen
returns-clause-seen c = λ o depth steps ok w at f l is. exchange_sees o ok depth steps w at f l is
