use Rattle.mp_names.specs.Frontiers.{count_at}
use Rattle.mp_names.proofs.Exact.{closed_from_passed, passed_from_closed, frontier_unique}
use Rattle.mp_names.proofs.Exists.{frontier_is}
use Rattle.mp_names.proofs.Grows.{grown_closed}
use Rattle.mp_names.proofs.laws.frontiers_are_exact.Goals as goal

pub returns-clause-exact : goal.returns-clause-exact
returns-clause-exact c = λ o logs ok good at f t h. (closed_from_passed o logs ok good at f t h, passed_from_closed o logs ok good at f t h)

pub returns-clause-exist : goal.returns-clause-exist
returns-clause-exist c = frontier_is

pub returns-clause-unique : goal.returns-clause-unique
returns-clause-unique c = λ o logs at f g h k. frontier_unique (count_at o logs) at f g h k

pub returns-clause-never_back : goal.returns-clause-never_back
returns-clause-never_back c = λ o old new ok good better grows at f g t h k p.
    passed_from_closed o new ok better at g t k (λ w l. grown_closed o w (old w) (new w) (grows w l) at t (closed_from_passed o old ok good at f t h p w l))

pub returns-clause-own_part : goal.returns-clause-own_part
returns-clause-own_part c = λ o logs ok good at f t h p w log l grows. grown_closed o w (logs w) log grows at t (closed_from_passed o logs ok good at f t h p w l)
