use Rattle.std.proofs.Common.{◌∙◌, Some, ap}
use Rattle.mp_outline.specs.JobOutline.{outline_of}
use Rattle.mp_model.specs.Tables.{table_of}
use Rattle.mp_turns.specs.Keeping.{steps_after}
use Rattle.mp_worker.specs.Keeping.{with_steps}
use Rattle.mp_worker.proofs.Lifted.{hub_with, post_with, sink_with}
use Rattle.mp_worker.proofs.Telling.{still_tell}
use Rattle.mp_worker.proofs.step.step_and_keep.Goals as goal

pub returns-clause-tell : goal.returns-clause-tell
returns-clause-tell g c =
    still_tell (g.P.Post.had_room c.args.post.now) (g.P.Post.was_full c.args.post.now) (g.P.Post.was_empty c.args.post.now) (outline_of (table_of g.Q.Query.facts g.J.Naming.job) g.J.Naming.job) c.log_is_known.ensures.sound c.args.kind (with_steps (Some c.args.kept.now.items) c.args.parts.now.worker) (with_steps (Some c.keep.new.kept.items) c.step_alone-answer.new.parts.worker) c.step_alone-answer.result
    (post_with g.P.Post.workers g.P.Post.depth g.P.Post.serves g.P.Post.denotes g.P.Post.waits g.P.Post.had_room g.P.Post.was_full g.P.Post.was_empty (outline_of (table_of g.Q.Query.facts g.J.Naming.job) g.J.Naming.job) c.args.kind c.args.parts.now.worker c.step_alone-answer.new.parts.worker (Some c.args.kept.now.items) (Some c.keep.new.kept.items) c.args.post.now c.step_alone-answer.new.post c.step_alone-answer.result (c.keep.ensures ∙ ap (λ items. steps_after (Some items) c.args.kind c.step_alone-answer.result) c.in_ok-reserve.ensures.items) c.step_alone-answer.ensures.post).answers

pub returns-clause-post : goal.returns-clause-post
returns-clause-post g c =
    post_with g.P.Post.workers g.P.Post.depth g.P.Post.serves g.P.Post.denotes g.P.Post.waits g.P.Post.had_room g.P.Post.was_full g.P.Post.was_empty (outline_of (table_of g.Q.Query.facts g.J.Naming.job) g.J.Naming.job) c.args.kind c.args.parts.now.worker c.step_alone-answer.new.parts.worker (Some c.args.kept.now.items) (Some c.keep.new.kept.items) c.args.post.now c.step_alone-answer.new.post c.step_alone-answer.result (c.keep.ensures ∙ ap (λ items. steps_after (Some items) c.args.kind c.step_alone-answer.result) c.in_ok-reserve.ensures.items) c.step_alone-answer.ensures.post

pub returns-clause-hub : goal.returns-clause-hub
returns-clause-hub g c =
    hub_with g.H.Hub.serves g.H.Hub.posted g.H.Hub.version g.H.Hub.after g.H.Hub.kept g.H.Hub.shows g.H.Hub.goes_on g.H.Hub.was_stopped g.H.Hub.was_busy c.args.kind c.args.parts.now.worker c.step_alone-answer.new.parts.worker (Some c.args.kept.now.items) (Some c.keep.new.kept.items) c.args.hub.now c.step_alone-answer.new.hub c.step_alone-answer.result (c.keep.ensures ∙ ap (λ items. steps_after (Some items) c.args.kind c.step_alone-answer.result) c.in_ok-reserve.ensures.items) c.step_alone-answer.ensures.hub

pub returns-clause-sink : goal.returns-clause-sink
returns-clause-sink g c =
    sink_with (table_of g.Q.Query.facts g.J.Naming.job) g.J.Naming.job g.S.Sink.written g.S.Sink.frame g.S.Sink.faults c.args.kind c.args.parts.now.worker (Some c.args.kept.now.items) c.args.sink.now c.step_alone-answer.new.sink c.step_alone-answer.result c.step_alone-answer.ensures.sink
