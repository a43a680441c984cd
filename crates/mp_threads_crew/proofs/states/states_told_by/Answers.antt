use Rattle.std.proofs.Common.{map, subst, sym}
use Rattle.std.proofs.lemmas.List.{get_or_default}
use Rattle.std.proofs.Common.{get_or}
use Rattle.mp_model.specs.Tables.{table_of}
use Rattle.mp_outline.specs.JobOutline.{outline_of}
use Rattle.mp_threads_member.specs.Below.{all_states}
use Rattle.mp_threads_crew.specs.Crews.{AreFinished}
use Rattle.mp_threads_crew.proofs.Tallied.{stands_at}
use Rattle.mp_threads_crew.proofs.states.states_told_by.Goals as goal

pub tallies_of-requires-clause-finished : goal.tallies_of-requires-clause-finished
tallies_of-requires-clause-finished g c κs within =
    let o = outline_of (table_of g.Q.Query.facts g.J.Naming.job) g.J.Naming.job in
    subst (AreFinished o) (sym c.as_slice.ensures.value) c.requires.finished

pub last_states-requires-after_bounds : goal.last_states-requires-after_bounds
last_states-requires-after_bounds g c κs within =
    let workers = c.args.workers.items in
    λ k d l. (c.requires.finished.each k (get_or workers k d) (stands_at workers k (get_or workers k d) l (get_or_default workers k d (get_or workers k d) l))).knows

pub returns-clause-states : goal.returns-clause-states
returns-clause-states g c =
    let job = g.J.Naming.job in
    let q = table_of g.Q.Query.facts job in
    let done = c.requires.finished in
    all_states q job c.args.workers.items done.all done.numbers (map (λ own. own.items) c.in_ok-states.states.items) c.in_ok-states.ensures
