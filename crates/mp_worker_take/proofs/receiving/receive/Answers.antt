use Rattle.std.proofs.Common.{◌≡◌, ◌∙◌, refl}
use Rattle.mp_names.specs.declared.names.Name.{Name}
use Rattle.mp_names.specs.Names.{In}
use Rattle.mp_names.specs.Outlines.{Outline, sender}
use Rattle.mp_names.proofs.Orders.{ascending_once}
use Rattle.mp_outline.specs.JobOutline.{outline_of}
use Rattle.mp_worker_refinement.proofs.Messages.{all_receive, all_send, keeps_everywhere, messages_kept, messages_taken}
use Rattle.mp_worker_refinement.proofs.Popped.{follows_nothing, follows_taken, not_taken, stands_here}
use Rattle.mp_worker_invariant.specs.Kept.{with_all_took}
use Rattle.mp_worker_parts.proofs.Keeping.{received}
use Rattle.mp_worker_take.proofs.receiving.receive.Given as given
use Rattle.mp_worker_take.proofs.receiving.receive.Goals as goal
use Rattle.mp_model.specs.Tables.{table_of}

abbrev outline : given.Over → Outline
outline g = outline_of (table_of g.Q.Query.facts g.J.Naming.job) g.J.Naming.job

pub is_empty-requires-clause-workers : goal.is_empty-requires-clause-workers
is_empty-requires-clause-workers g c = rw (c.number-number.ensures.is, c.requires.at_post.all_workers) (c.requires.from, c.number-number.ensures.inside)

pub is_empty-requires-clause-serves : goal.is_empty-requires-clause-serves
is_empty-requires-clause-serves g c = rw c.number-number.ensures.is c.requires.at_post.served

pub pop-requires-clause-workers : goal.pop-requires-clause-workers
pop-requires-clause-workers g c =
    rw (c.is_empty.ensures.same, c.number-number.ensures.is, c.requires.at_post.all_workers) (c.requires.from, c.number-number.ensures.inside)

pub pop-requires-clause-serves : goal.pop-requires-clause-serves
pop-requires-clause-serves g c = rw (c.is_empty.ensures.same, c.number-number.ensures.is) c.requires.at_post.served

pub pop-requires-clause-denotes : goal.pop-requires-clause-denotes
pop-requires-clause-denotes g c =
    let s = c.args.parts.now.worker in
    rw (c.is_empty.ensures.same, c.number-number.ensures.is) (stands_here (outline g) s.number s.log (g.P.Post.denotes c.args.post.now) c.args.from c.requires.at_post.ends c.requires.from c.number-number.ensures.inside)

pub returns-in_err-make_room_to_take-clause-mail : goal.returns-in_err-make_room_to_take-clause-mail
returns-in_err-make_room_to_take-clause-mail g c =
    let s = c.args.parts.now.worker in
    let waits = g.P.Post.waits c.args.post.now in
    rw (c.make_room_to_take.ensures.same, c.is_empty.ensures.same)
    (record {
      follows = λ a b pushed popped in_a in_b stood. stood;
      messages = messages_kept (outline g) s.number s.log s.log waits waits refl refl (λ a b messages wait. wait);
      keeps = record { same_workers = refl; same_depth = refl; same_ends = λ w serves. serves };
    })

pub returns-in_default : goal.returns-in_default
returns-in_default g c =
    let s = c.args.parts.now.worker in
    let none = c.in_default.ensures in
    rw (c.make_room_to_take.ensures.same, ← c.number-number.ensures.is, ← c.is_empty.ensures.same)
    (record {
      steps = ((λ x can. none.empty), refl);
      mail = record {
        follows = follows_nothing (outline g) c.number-number.result s.log (g.P.Post.denotes c.is_empty.new.self) (g.P.Post.denotes c.pop.new.self) c.args.from none.none none.others;
        messages = messages_kept (outline g) c.number-number.result s.log s.log _ _ refl refl
            (keeps_everywhere (g.P.Post.waits c.is_empty.new.self) (g.P.Post.waits c.pop.new.self) c.args.from c.number-number.result none.waiting none.others_wait);
        keeps = none.keeps;
      };
    })

pub take-requires-clause-new : goal.take-requires-clause-new
take-requires-clause-new g c κs within =
    let s = c.args.parts.now.worker in
    let here = c.number-number.ensures in
    let came = c.in-Some.ensures in
    let names = c.names-names.ensures in
    rw c.make_room_to_take.ensures.same (
      ascending_once c.in-Some.message names.message.ordered,
      (λ x i. (
        (names.owed x i, all_receive (outline g) c.in-Some.message names.message x i ∙ came.edge.1 ∙ here.is),
        not_taken (outline g) s.number s.log c.args.from c.in-Some.message (λ y k. all_send (outline g) c.in-Some.message names.sender y k ∙ came.edge.0)
            (g.P.Post.denotes c.args.post.now) c.requires.at_post.ends (rw (c.is_empty.ensures.same, here.is) at came.once) c.requires.from here.inside x i,
      )),
    )

pub returns : goal.returns
returns g c =
    let s = c.args.parts.now.worker in
    let xs = c.in-Some.message in
    let came = c.in-Some.ensures in
    let names = c.names-names.ensures in
    let sends : (y : Name) → In y xs → sender (outline g) y ≡ c.args.from = λ y k. all_send (outline g) xs names.sender y k ∙ came.edge.0 in
    rw (c.take.ensures, c.make_room_to_take.ensures.same, ← c.is_empty.ensures.same)
    (record {
      steps = received (outline g) s c.args.from c.number-number.ensures.steps c.requires.from xs c.names-names.result (record { first = names.first; count = names.count }) _ _ _ sends;
      mail = rw (← c.number-number.ensures.is)
          (record {
            follows = follows_taken (outline g) c.number-number.result s.log c.args.from xs sends (g.P.Post.denotes c.is_empty.new.self) (g.P.Post.denotes c.pop.new.self) came.some came.others;
            messages = messages_taken (outline g) c.number-number.result s.log (with_all_took s.log xs) _ _ xs c.args.from names.message.some sends refl refl came.first came.others_wait;
            keeps = came.keeps;
          });
    })
