use Rattle.std.proofs.Common.{[], ◌∷◌, ◌∙◌, ◌≡◌, ◌<◌, ap, arith, length, length-append, sym}
use Rattle.std.proofs.lemmas.List.{length-replicate}
use Rattle.mp_names.specs.Logs.{empty_log}
use Rattle.mp_worker_refinement.specs.State.{WorkerState}
use Rattle.mp_threads_member.specs.Members.{HasDoneNothing, MemberState}
use Rattle.mp_ruled.proofs.Places.{drop_first}
use Rattle.mp_threads_crew.proofs.Lists.{all_more, in_replicate, read_all, read_on}
use Rattle.mp_threads_crew.proofs.Tallied.{one_more_at}
use Rattle.mp_threads_crew.proofs.crew.new_members.Goals as goal

pub new-requires-clause-begins : goal.new-requires-clause-begins
new-requires-clause-begins g c κs within =
    let workers = drop_first c.args.workers.items _ _ _ (sym c.loop-number.invariant.workers ∙ c.in-Some.ensures.items) in
    let new = c.requires.parts.new_workers c.loop-number._number c.in-Some.worker workers.0 in
    (new.log, new.posted)

pub new-requires-clause-ends : goal.new-requires-clause-ends
new-requires-clause-ends g c κs within =
    let workers = drop_first c.args.workers.items _ _ _ (sym c.loop-number.invariant.workers ∙ c.in-Some.ensures.items) in
    let posts = drop_first c.args.posts.items _ _ _ (sym c.loop-number.invariant.posts ∙ c.in-Some-pop_front.ensures.items) in
    let new = c.requires.parts.new_workers c.loop-number._number c.in-Some.worker workers.0 in
    let post = c.requires.parts.new_posts.1 c.loop-number._number c.in-Some-pop_front.post posts.0 in
    (post.worker_is ∙ sym new.number, post.to_all)

pub new-requires-clause-no_mail : goal.new-requires-clause-no_mail
new-requires-clause-no_mail g c κs within =
    let posts = drop_first c.args.posts.items _ _ _ (sym c.loop-number.invariant.posts ∙ c.in-Some-pop_front.ensures.items) in
    c.requires.parts.no_mail c.loop-number._number c.in-Some-pop_front.post posts.0

pub new-requires-clause-seat : goal.new-requires-clause-seat
new-requires-clause-seat g c κs within =
    let workers = drop_first c.args.workers.items _ _ _ (sym c.loop-number.invariant.workers ∙ c.in-Some.ensures.items) in
    let hubs = drop_first c.args.hubs.items _ _ _ (sym c.loop-number.invariant.hubs ∙ c.in-Some-pop_front-2.ensures.items) in
    let new = c.requires.parts.new_workers c.loop-number._number c.in-Some.worker workers.0 in
    let hub = c.requires.parts.new_hubs.1 c.loop-number._number c.in-Some-pop_front-2.hub hubs.0 in
    (new.number ∙ sym hub.number, hub.many ∙ length-replicate g.J.Naming.job.shape.workers empty_log)

pub new-requires-clause-row : goal.new-requires-clause-row
new-requires-clause-row g c κs within =
    let workers = g.J.Naming.job.shape.workers in
    let number = c.loop-number._number in
    let hubs = drop_first c.args.hubs.items _ _ _ (sym c.loop-number.invariant.hubs ∙ c.in-Some-pop_front-2.ensures.items) in
    let hub = c.requires.parts.new_hubs.1 number c.in-Some-pop_front-2.hub hubs.0 in
    let all : length c.args.workers.items ≡ workers = c.requires.parts.all_workers in
    let inside : number < workers = omega (arith, c.loop-number-test.true, c.loop-number.auto._number-end, c.len-count.ensures, all) in
    hub.row ∙ in_replicate workers number empty_log inside

pub new-requires-clause-version : goal.new-requires-clause-version
new-requires-clause-version g c κs within =
    let workers = drop_first c.args.workers.items _ _ _ (sym c.loop-number.invariant.workers ∙ c.in-Some.ensures.items) in
    let new = c.requires.parts.new_workers c.loop-number._number c.in-Some.worker workers.0 in
    omega (arith, new.version)

pub loop-number-preserved : goal.loop-number-preserved
loop-number-preserved g c =
    let workers = drop_first c.args.workers.items _ _ _ (sym c.loop-number.invariant.workers ∙ c.in-Some.ensures.items) in
    let posts = drop_first c.args.posts.items _ _ _ (sym c.loop-number.invariant.posts ∙ c.in-Some-pop_front.ensures.items) in
    let hubs = drop_first c.args.hubs.items _ _ _ (sym c.loop-number.invariant.hubs ∙ c.in-Some-pop_front-2.ensures.items) in
    let i = c.loop-number.invariant in
    let members = c.loop-number.members.items in
    let member = c.new.result in
    let is = c.new.ensures.worker in
    let new = c.requires.parts.new_workers c.loop-number._number c.in-Some.worker workers.0 in
    let pushed = c.push_reserved.ensures in
    record {
      room = omega (arith, i.room, pushed.capacity);
      many = omega (arith, ap length pushed.items, length-append members (member ∷ []), i.many);
      numbers = one_more_at (λ k (m : MemberState). m.worker.number ≡ k) _ members member c.loop-number._number pushed.items i.many i.numbers (ap (λ (s : WorkerState). s.number) is ∙ new.number);
      new = all_more HasDoneNothing _ members member pushed.items i.new (ap (λ (s : WorkerState). s.log) is ∙ new.log, ap (λ (s : WorkerState). s.posted) is ∙ new.posted, ap (λ (s : WorkerState). s.seen.version) is ∙ new.version);
      workers = sym workers.1;
      hubs = sym hubs.1;
      posts = sym posts.1;
      seats_are = read_on (λ (m : MemberState). m.hub) _ members member c.loop-number.hubs.items _ c.in-Some-pop_front-2.hub _ pushed.items c.in-Some-pop_front-2.ensures.items c.new.ensures.hub i.seats_are;
      workers_are = read_on (λ (m : MemberState). m.worker) _ members member c.loop-number.workers.items _ c.in-Some.worker _ pushed.items c.in-Some.ensures.items is i.workers_are;
      posts_are = read_on (λ (m : MemberState). m.post) _ members member c.loop-number.posts.items _ c.in-Some-pop_front.post _ pushed.items c.in-Some-pop_front.ensures.items c.new.ensures.post i.posts_are;
    }

pub returns-clause-numbers : goal.returns-clause-numbers
returns-clause-numbers g c =
    let i = c.loop-number.invariant in
    let all : length c.args.workers.items ≡ g.J.Naming.job.shape.workers = c.requires.parts.all_workers in
    record {
      all = omega (arith, i.many, c.loop-number-test.false, c.loop-number.auto._number-end, c.len-count.ensures, all);
      numbers = i.numbers;
    }

pub returns-clause-start : goal.returns-clause-start
returns-clause-start g c = c.loop-number.invariant.new

pub returns-clause-made : goal.returns-clause-made
returns-clause-made g c =
    let i = c.loop-number.invariant in
    let args = c.args in
    let parts = c.requires.parts in
    let left = c.loop-number in
    record {
      same_workers = read_all (λ (m : MemberState). m.worker) _ left.workers.items args.workers.items i.workers_are (omega (arith, i.many, c.loop-number-test.false, left.auto._number-end, c.len-count.ensures));
      same_posts = read_all (λ (m : MemberState). m.post) _ left.posts.items args.posts.items i.posts_are (omega (arith, i.many, c.loop-number-test.false, left.auto._number-end, c.len-count.ensures, parts.all_workers, parts.all_posts));
      same_seats = read_all (λ (m : MemberState). m.hub) _ left.hubs.items args.hubs.items i.seats_are (omega (arith, i.many, c.loop-number-test.false, left.auto._number-end, c.len-count.ensures, parts.all_workers, parts.all_hubs));
    }
