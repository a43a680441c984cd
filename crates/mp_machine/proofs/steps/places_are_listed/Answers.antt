use Rattle.mp_machine.proofs.Places.{place_listed, places_counted}
use Rattle.mp_machine.proofs.steps.places_are_listed.Goals as goal

pub returns-clause-listed : goal.returns-clause-listed
returns-clause-listed c = place_listed

pub returns-clause-counted : goal.returns-clause-counted
returns-clause-counted c = places_counted
