use Rattle.std.proofs.Common.{List, subst, sym}
use Rattle.mp_model.specs.declared.record.Event.{Event}
use Rattle.mp_model.specs.Legal.{EventsAreLegal}
use Rattle.mp_model.specs.Plain.{EventsArePlain}
use Rattle.mp_model.specs.Tables.{table_of}
use Rattle.mp_opening.specs.Checkpoints.{saved_in}
use Rattle.mp_restart_laws.proofs.OfJobs.{two_jobs}
use Rattle.mp_restart_laws.proofs.Saying.{says}
use Rattle.mp_collect.proofs.Fitting.{allowed}
use Rattle.mp_collect.proofs.laws.saves_give_the_answer.Goals as goal

pub returns-clause-allowed : goal.returns-clause-allowed
returns-clause-allowed g c = λ first second checkpoint legal are holds may_be_saved.
    let laws = g.met.Q.Query g.world.𝓛 g.world.𝓜 g.world.𝓡 ((λ s x. x), (λ x. x), (λ x. x), λ x. x) in
    two_jobs g.Q.Query.facts second (laws.begins_fresh second.values) (laws.posts_are_later second.values) (laws.later_stages_post_nothing second.values) legal (laws.has_stages second.values).0
    (saved_in g.Q.Query.text_of checkpoint) first are
    (says (table_of g.Q.Query.facts first) g.Q.Query.text_of (laws.texts_tell_cells first.values) first.events checkpoint holds may_be_saved)

pub returns-clause-plain : goal.returns-clause-plain
returns-clause-plain g c = λ first second checkpoint legal plain are holds order.
    let laws = g.met.Q.Query g.world.𝓛 g.world.𝓜 g.world.𝓡 ((λ s x. x), (λ x. x), (λ x. x), λ x. x) in
    let saved = g.met.Q.Saved g.world.𝓛 g.world.𝓜 g.world.𝓡 ((λ s x. x), (λ x. x), (λ x. x), λ x. x) in
    let first_legal = subst EventsAreLegal (sym are.events) legal in
    let first_plain = subst (λ (events : List Event). EventsArePlain events) (sym are.events) plain in
    let may_be_saved =
    allowed g.Q.Saved.NUMBER g.Q.Query.facts first (laws.begins_fresh first.values) (laws.posts_are_later first.values) (laws.later_stages_post_nothing first.values) (saved.leaves_what_may_be_saved first.values) first_legal are.from checkpoint are.until holds order first_plain in
    two_jobs g.Q.Query.facts second (laws.begins_fresh second.values) (laws.posts_are_later second.values) (laws.later_stages_post_nothing second.values) legal (laws.has_stages second.values).0
    (saved_in g.Q.Query.text_of checkpoint) first are
    (says (table_of g.Q.Query.facts first) g.Q.Query.text_of (laws.texts_tell_cells first.values) first.events checkpoint holds may_be_saved)
