use Rattle.std.proofs.Common.{◌∙◌, ap, drop, length}
use Rattle.std.proofs.lemmas.List.Folds.{length-prefix_len}
use Rattle.mp_host_laws.specs.Hosted.{is_of}
use Rattle.mp_host.proofs.FirstRun.{run_of_run, run_taken, run_whole}
use Rattle.mp_host.proofs.Standing.{standing}
use Rattle.mp_host.proofs.groups.first_records.Goals as goal

pub count_first-requires : goal.count_first-requires
count_first-requires c = rw c.first_run-run.ensures.run (run_of_run c.args.records.now.items)

pub returns-clause-records : goal.returns-clause-records
returns-clause-records c =
    let rs = c.args.records.now.items in
    rw (c.count_first.ensures, c.first_run-run.ensures.run) (run_taken c.args.time c.args.key rs ∙ (standing c.args.time c.args.key rs c.first_run-run.ensures.in_order c.requires).0)

pub returns-clause-others : goal.returns-clause-others
returns-clause-others c =
    let p = is_of c.args.time c.args.key in
    let rs = c.args.records.now.items in
    rw (c.count_first.ensures, c.first_run-run.ensures.run) (ap (λ ss. drop (length ss) rs) (run_taken c.args.time c.args.key rs) ∙ rw (length-prefix_len p rs) ((standing c.args.time c.args.key rs c.first_run-run.ensures.in_order c.requires).1))

pub returns-clause-whole : goal.returns-clause-whole
returns-clause-whole c = rw (c.count_first.ensures, c.first_run-run.ensures.run) (run_whole c.args.time c.args.key c.args.records.now.items)
