-- Both ways to run a job say the same of the sink, of the tallies and of the steps that are kept.
use Rattle.std.proofs.Common.{◌≡◌, ◌∙◌, refl}
use Rattle.std.specs.Prelude.{IsSome}
use Rattle.mp_model.specs.Tables.{table_of}
use Rattle.mp_outline.specs.JobOutline.{outline_of}
use Rattle.mp_words.specs.declared.options.Schedule.TheVariants.{Threads, Seeded}
use Rattle.mp_command.specs.Config.{run_of}
use Rattle.mp_run_command.proofs.Kept.{asked_some, few_lists}
use Rattle.mp_run_command.proofs.Handed.{ran_on, was_stopped}
use Rattle.mp_run_command.proofs.running.run_into.Goals as goal

pub returns-in-Ok-clause-tells : goal.returns-in-Ok-clause-tells
returns-in-Ok-clause-tells g c =
    let options = c.args.options.now in
    let o = outline_of (table_of g.Q.Query.facts c.args.job.now) (run_of options.paced c.args.job.now) in
    let kept = λ (some : IsSome options.journal). c.in-Ok.ensures.kept (c.is_some.ensures ∙ some) in
    record {
      made = rw c.in-Threads.is refl;
      tallies = c.in-Ok.ensures.tallies;
      kept = rw c.in-Threads.is (λ some. kept (asked_some _ options.journal some));
      lists = few_lists o options.depth Threads options.journal (λ v. v.items) c.in-Ok.run'.kept.items kept (λ none. c.in-Ok.ensures.none_kept (c.is_some.ensures ∙ none));
    }

pub returns-in-Ok-replay_with_tallies-clause-tells : goal.returns-in-Ok-replay_with_tallies-clause-tells
returns-in-Ok-replay_with_tallies-clause-tells g c =
    let options = c.args.options.now in
    let o = outline_of (table_of g.Q.Query.facts c.args.job.now) (run_of options.paced c.args.job.now) in
    let kept = λ (some : IsSome options.journal). c.in-Ok-replay_with_tallies.ensures.kept (c.is_some.ensures ∙ some) in
    record {
      made = rw c.in-Seeded.is c.in-Ok-replay_with_tallies.ensures.made;
      tallies = c.in-Ok-replay_with_tallies.ensures.tallies;
      kept = rw c.in-Seeded.is (λ some. kept (asked_some _ options.journal some));
      lists = few_lists o options.depth (Seeded c.in-Seeded.seed) options.journal (λ v. v.items) c.in-Ok-replay_with_tallies.run'.kept.items kept (λ none. c.in-Ok-replay_with_tallies.ensures.none_kept (c.is_some.ensures ∙ none));
    }

pub returns-in-Ok-clause-leaves : goal.returns-in-Ok-clause-leaves
returns-in-Ok-clause-leaves g c = ran_on _ _ _ _ _ _ _ _ _ c.in-Ok.ensures.leaves

pub returns-in-Ok-replay_with_tallies-clause-leaves : goal.returns-in-Ok-replay_with_tallies-clause-leaves
returns-in-Ok-replay_with_tallies-clause-leaves g c = ran_on _ _ _ _ _ _ _ _ _ c.in-Ok-replay_with_tallies.ensures.leaves

pub returns-in-Err-clause-leaves : goal.returns-in-Err-clause-leaves
returns-in-Err-clause-leaves g c = rw c.refused_after.ensures (was_stopped _ _ _ _ _ _ _ _ c.in-Err.ensures.leaves)

pub returns-in-Err-replay_with_tallies-clause-leaves : goal.returns-in-Err-replay_with_tallies-clause-leaves
returns-in-Err-replay_with_tallies-clause-leaves g c = rw c.refused_after-in-Err-replay_with_tallies.ensures (was_stopped _ _ _ _ _ _ _ _ c.in-Err-replay_with_tallies.ensures.leaves)
