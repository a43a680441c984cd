use Rattle.std.proofs.Common.{◌≡◌, ℕ, List, ap, refl, ◌∙◌, subst}
use Rattle.mp_names.specs.declared.names.Name.{Name}
use Rattle.mp_names.specs.Logs.{Log}
use Rattle.mp_names.specs.Outlines.{OutlineIsSound}
use Rattle.mp_board.specs.Boards.{ShowsFrontiers}
use Rattle.mp_job.specs.Legal.{JobIsLegal}
use Rattle.mp_job.proofs.Runs.{run_is_legal}
use Rattle.mp_mailbox.specs.Queues.{Queues, empty_queues}
use Rattle.mp_model.specs.Facts.{JobFacts}
use Rattle.mp_model.specs.Tables.{table_of}
use Rattle.mp_outline.specs.JobOutline.{outline_of}
use Rattle.mp_outline.proofs.Soundness.{outline_is_sound}
use Rattle.mp_plain.specs.Kept.{together}
use Rattle.mp_answer_laws.specs.Lines.{written_lines}
use Rattle.mp_plain.proofs.Opened.{are_at_start, begin_counted, begin_reached, first_is_empty}
use Rattle.mp_plain.proofs.plain.Plain.open_by.Given as given
use Rattle.mp_plain.proofs.plain.Plain.open_by.Goals as goal

pub new_workers-requires-clause-opening : goal.new_workers-requires-clause-opening
new_workers-requires-clause-opening g c κs within =
    let o = outline_of (table_of g.Q.Query.facts g.J.Naming.job) g.J.Naming.job in
    subst (λ (logs : List Log). ShowsFrontiers o logs c.seen.result) c.in_ok-board.ensures.logs c.seen.ensures.frontiers

legal : (g : given.Over) (c : goal.In_ok-post g) → let job = g.J.Naming.job in JobIsLegal (table_of g.Q.Query.facts job) job
legal g c = run_is_legal _ _ c.requires.run.run g.Q.Query.facts c.shape.ensures.legal

sound : (g : given.Over) (c : goal.In_ok-post g) → let job = g.J.Naming.job in OutlineIsSound (outline_of (table_of g.Q.Query.facts job) job)
sound g c =
    let laws = g.met.Q.Query g.world.𝓛 g.world.𝓜 g.world.𝓡 ((λ s x. x), (λ x. x), (λ x. x), λ x. x) in
    let job = g.J.Naming.job in
    outline_is_sound (table_of g.Q.Query.facts job) (laws.has_stages job.values) (laws.posts_are_later job.values) (laws.later_stages_post_nothing job.values) job (legal g c)

empty : (g : given.Over) (c : goal.In_ok-post g) → c.in_ok-post.post ≡ empty_queues g.J.Naming.job.shape.workers c.args.plan.depth
empty g c =
    let count = ap (λ s. s.workers) c.shape.ensures.shape ∙ ap (λ (job : JobFacts). job.shape.workers) c.requires.run.run in
    subst (λ (n : ℕ). c.in_ok-post.post ≡ empty_queues n c.args.plan.depth) count c.in_ok-post.ensures.empty

pub invariant_of-result : goal.invariant_of-result
invariant_of-result g c =
    let o = outline_of (table_of g.Q.Query.facts g.J.Naming.job) g.J.Naming.job in
    let board = c.in_ok-board.ensures in
    let workers = c.in_ok-workers.ensures in
    let t = together c.in_ok-workers.workers.items c.in_ok-board.board c.in_ok-post.post in
    record {
      run = c.requires.run.run;
      legal = legal g c;
      reached = begin_reached o (sound g c) t c.args.plan.depth workers.all workers.new board.logs board.version (empty g c);
      counted = begin_counted o (sound g c) t c.args.plan.depth workers.all workers.new board.logs board.version (empty g c) c.args.plan.keeps workers.keeps;
      goes_on = board.cause;
    }

pub returns : goal.returns
returns g c =
    let job = g.J.Naming.job in
    let q = table_of g.Q.Query.facts job in
    let o = outline_of q job in
    let board = c.in_ok-board.ensures in
    let workers = c.in_ok-workers.ensures in
    let t = together c.in_ok-workers.workers.items c.in_ok-board.board c.in_ok-post.post in
    record {
      opened = record {
        start = are_at_start o (sound g c) t c.args.plan.depth workers.all workers.new board.logs board.version (empty g c);
        mailboxes = ap (λ (p : Queues (List Name)). p.depth) (empty g c);
        made = refl;
        nothing_written = ap (λ (log : Log). written_lines q job.events log) (first_is_empty o _ workers.new);
        keeps_so = workers.keeps;
      };
    }
