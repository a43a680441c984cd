use Rattle.mp_restart_laws.proofs.OneWay.{checkpoints_are_one}
use Rattle.mp_restart_laws.proofs.Saying.{says}
use Rattle.mp_restart_laws.proofs.laws.checkpoints_say_what_is_left.Goals as goal

pub returns-clause-say : goal.returns-clause-say
returns-clause-say g c = λ vs events checkpoint holds allowed.
    let laws = g.met.Q.Query g.world.𝓛 g.world.𝓜 g.world.𝓡 ((λ s x. x), (λ x. x), (λ x. x), λ x. x) in
    says (g.Q.Query.facts vs) g.Q.Query.text_of (laws.texts_tell_cells vs) events checkpoint holds allowed

pub returns-clause-one : goal.returns-clause-one
returns-clause-one g c = λ vs events one other time holds order hold ordered. checkpoints_are_one (g.Q.Query.facts vs) events one other time holds order hold ordered
