-- The name holds what the run wrote, since it was begun.
use Rattle.std.proofs.Common.{ap, inl, inr, refl, rules}
use Rattle.std.proofs.lemmas.Result.{err_from_is_err_and, on_err_weaker, on_ok_weaker}
use Rattle.mp_model.specs.Answers.{one_thread_answer}
use Rattle.mp_model.specs.Tables.{table_of}
use Rattle.mp_outside.proofs.FileLemmas.{there_begun}
use Rattle.mp_command_files.proofs.Written.{none_written, written_from_begun}
use Rattle.mp_run_command.proofs.Handed.{not_begun}
use Rattle.mp_run_command.proofs.running.answer_to.Goals as goal

pub new-sink-requires : goal.new-sink-requires
new-sink-requires g c = there_begun _ _ _ _ c.in_ok-begin.ensures.begun

pub run_gathered-requires-clause-begun : goal.run_gathered-requires-clause-begun
run_gathered-requires-clause-begun g c κs within = rw (c.new-sink.ensures.depot, c.new-sink.ensures.name) (none_written _ _ _ c.in_ok-begin.ensures.begun)

pub returns-in_err-begin-clause-leaves : goal.returns-in_err-begin-clause-leaves
returns-in_err-begin-clause-leaves g c =
    let p = err_from_is_err_and c.from_residual.result c.from_residual.ensures.1 in
    rw (p.1, p.2) (not_begun g.D.Depot.files g.D.Depot.write_faults _ _ _ _ _ c.in_err-begin.ensures.unchanged c.begin.ensures.writes_only.writes_grow c.in_err-begin.ensures.cause)

pub returns-clause-leaves : goal.returns-clause-leaves
returns-clause-leaves g c =
    let leaves = c.run_gathered.ensures.leaves in
    let frame = rw (c.new-sink.ensures.depot, c.new-sink.ensures.name) at leaves.appends.same_frame in
    record {
      whole = on_ok_weaker c.run_gathered.result (λ answer.
          let here = rw (c.new-sink.ensures.depot, c.new-sink.ensures.name) at answer in
          let made = written_from_begun _ _ _ _ _ _ c.in_ok-begin.ensures.begun (ap (λ b. b.name) frame) here (ap (λ b. b.others) frame) in
          search rules)
          leaves.whole;
      part = on_err_weaker c.run_gathered.result (λ part.
          let here = rw (c.new-sink.ensures.depot, c.new-sink.ensures.name) at part.1 in
          let made = written_from_begun _ _ _ _ _ _ c.in_ok-begin.ensures.begun (ap (λ b. b.name) frame) here (ap (λ b. b.others) frame) in
          inr (one_thread_answer (table_of g.Q.Query.facts c.args.job.now) c.args.job.now.events, refl, inl (part.0, search rules)))
          leaves.part;
      refused = leaves.refused;
      failed = search rules;
      faults_grow = search rules;
    }
