use Rattle.mp_machine.specs.Worlds.{start_of_machine}
use Rattle.mp_journal_laws.proofs.Searches.{found_merge, goes_on, no_run}
use Rattle.mp_journal_laws.proofs.merges.searches_decide.Goals as goal

pub returns-clause-found : goal.returns-clause-found
returns-clause-found c = λ o depth journal taken may none. found_merge o depth taken (start_of_machine o) journal may none

pub returns-clause-run : goal.returns-clause-run
returns-clause-run c = λ o depth journal taken may none over. record { merge = found_merge o depth taken (start_of_machine o) journal may none; finished = over }

pub returns-clause-on : goal.returns-clause-on
returns-clause-on c = λ o depth journal taken may steps m. goes_on o depth taken (start_of_machine o) journal steps may m

pub returns-clause-none : goal.returns-clause-none
returns-clause-none c = λ o depth journal taken may stuck unfinished steps legal. no_run o depth taken (start_of_machine o) journal may stuck unfinished steps legal.merge legal.finished
