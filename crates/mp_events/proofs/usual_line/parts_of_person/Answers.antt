use Rattle.mp_events.proofs.UsualLines.{person_found}
use Rattle.mp_events.proofs.usual_line.parts_of_person.Goals as goal

pub returns : goal.returns
returns c = person_found _ _ _ _ _ _ _ _ _ _ _ c.in_ok-time.ensures c.in_ok-id.ensures c.in_ok-name.ensures c.in_ok-city.ensures c.in_ok-state.ensures
