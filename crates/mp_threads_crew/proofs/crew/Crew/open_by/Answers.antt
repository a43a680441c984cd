use Rattle.std.proofs.Common.{All, List, ℕ, ap, length, ◌≡◌, ◌∙◌, subst, sym}
use Rattle.std.proofs.lemmas.List.{length-replicate}
use Rattle.mp_names.specs.declared.names.Name.{Name}
use Rattle.mp_names.specs.Logs.{Log, empty_log}
use Rattle.mp_board.specs.Boards.{ShowsFrontiers}
use Rattle.mp_model.specs.Facts.{JobFacts}
use Rattle.mp_model.specs.Tables.{table_of}
use Rattle.mp_outline.specs.JobOutline.{outline_of}
use Rattle.mp_ruled.specs.Posts.{AreLinked, AreNewPosts, PostState}
use Rattle.mp_seat.specs.Seats.{SeatState}
use Rattle.mp_threads_hub.specs.Hubs.{AreNewHubs, AreOfOneLock, shared_version}
use Rattle.mp_worker_refinement.specs.State.{WorkerState}
use Rattle.mp_threads_member.specs.Below.{no_steps}
use Rattle.mp_threads_member.specs.Members.{MemberState}
use Rattle.mp_threads_crew.proofs.Lists.{all_of_map}
use Rattle.mp_threads_crew.proofs.crew.Crew.open_by.Goals as goal

pub open_hubs-requires-clause-logs : goal.open_hubs-requires-clause-logs
open_hubs-requires-clause-logs g c =
    let count = ap (λ s. s.workers) c.shape-count.ensures.shape ∙ ap (λ (job : JobFacts). job.shape.workers) c.requires.run.run in
    ap length c.in_ok-board.ensures.logs ∙ length-replicate g.J.Naming.job.shape.workers empty_log ∙ sym count

pub new_workers-requires-clause-opening : goal.new_workers-requires-clause-opening
new_workers-requires-clause-opening g c κs within =
    let o = outline_of (table_of g.Q.Query.facts g.J.Naming.job) g.J.Naming.job in
    subst (λ (logs : List Log). ShowsFrontiers o logs c.seen-seen.result) c.in_ok-board.ensures.logs c.seen-seen.ensures.frontiers

pub new_members-requires-clause-parts : goal.new_members-requires-clause-parts
new_members-requires-clause-parts g c κs within =
    let count = ap (λ s. s.workers) c.shape-count.ensures.shape ∙ ap (λ (job : JobFacts). job.shape.workers) c.requires.run.run in
    let posts = c.in_ok-posts.ensures in
    let hubs = c.in_ok-hubs.ensures in
    let version = shared_version c.in_ok-board.board in
    record {
      all_workers = c.in_ok-workers.ensures.all;
      new_workers = c.in_ok-workers.ensures.new;
      all_posts = posts.many ∙ count;
      new_posts = (c.args.plan.depth, subst (λ (n : ℕ). AreNewPosts n c.args.plan.depth c.in_ok-posts.posts.items) count posts.new);
      no_mail = posts.stand;
      all_hubs = hubs.many ∙ count;
      new_hubs = (version, subst (λ (logs : List Log). AreNewHubs logs version c.in_ok-hubs.hubs.items) c.in_ok-board.ensures.logs hubs.new);
    }

pub returns : goal.returns
returns g c =
    let count = ap (λ s. s.workers) c.shape-count.ensures.shape ∙ ap (λ (job : JobFacts). job.shape.workers) c.requires.run.run in
    let made = c.in_ok-members.ensures.made in
    let posts = c.in_ok-posts.ensures in
    let keeps = c.args.plan.keeps in
    record {
      new = record {
        start = c.in_ok-members.ensures.start;
        keep = all_of_map (λ (s : WorkerState). s.steps ≡ no_steps keeps) (λ (m : MemberState). m.worker) c.in_ok-members.members.items
            (subst (All (λ (s : WorkerState). s.steps ≡ no_steps keeps)) (sym made.same_workers) c.in_ok-workers.ensures.keeps);
        ends = subst (λ (posts : List (PostState (List Name))). AreNewPosts g.J.Naming.job.shape.workers c.args.plan.depth posts) (sym made.same_posts)
            (subst (λ (n : ℕ). AreNewPosts n c.args.plan.depth c.in_ok-posts.posts.items) count posts.new);
        linked = subst (λ (posts : List (PostState (List Name))). AreLinked posts) (sym made.same_posts) posts.linked;
        one_lock = subst (λ (hubs : List (SeatState Log)). AreOfOneLock hubs) (sym made.same_seats) c.in_ok-hubs.ensures.one_lock;
      };
    }
