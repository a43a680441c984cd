use Rattle.std.proofs.Common.{◌≡◌, ◌↔◌, Bool, IsTrue, None, ap, option_map, sym}
use Rattle.std.proofs.lemmas.Bool.{both_ways}
use Rattle.mp_names.specs.declared.controls.Shape.{Shape}
use Rattle.mp_names.specs.declared.kinds.Kind.{Kind}
use Rattle.mp_names.specs.Outlines.{Outline}
use Rattle.mp_machine.specs.Steps.{KindFits}
use Rattle.mp_model.specs.Facts.{JobFacts, QueryFacts}
use Rattle.mp_model.specs.Tables.{table_of}
use Rattle.mp_outline.specs.JobOutline.{outline_of}
use Rattle.mp_worker.proofs.Lifted.{at_hub_with, hub_unfit, hub_with, none_after, post_unfit, post_with, sink_unfit, sink_with}
use Rattle.mp_worker.proofs.step.make_step.Goals as goal

-- the outline has the job's stages and workers
fits_outline : {Cell : Type 0} (q : QueryFacts Cell) (job : JobFacts) (shape : Shape) (kind : Kind) (fits : Bool) → shape ≡ job.shape
    → ((o : Outline) → o.stages ≡ shape.stages → o.workers ≡ shape.workers → IsTrue fits ↔ KindFits o kind)
    → IsTrue fits ↔ KindFits (outline_of q job) kind
fits_outline q job shape kind fits is tells =
    tells (outline_of q job) (sym (ap (λ (s : Shape). s.stages) is)) (sym (ap (λ (s : Shape). s.workers) is))

pub returns-then-not-fits-clause-post : goal.returns-then-not-fits-clause-post
returns-then-not-fits-clause-post g c =
    post_unfit g.P.Post.workers g.P.Post.depth g.P.Post.serves g.P.Post.denotes g.P.Post.waits g.P.Post.had_room g.P.Post.was_full g.P.Post.was_empty (outline_of (table_of g.Q.Query.facts g.J.Naming.job) g.J.Naming.job) c.args.kind (λ fits. both_ways _ c.if-not-fits.true ((fits_outline (table_of g.Q.Query.facts g.J.Naming.job) g.J.Naming.job _ c.args.kind _ c.shape.ensures c.fits.ensures).1 fits)) _ c.args.post.now

pub returns-then-not-fits-clause-hub : goal.returns-then-not-fits-clause-hub
returns-then-not-fits-clause-hub g c =
    hub_unfit g.H.Hub.serves g.H.Hub.posted g.H.Hub.version g.H.Hub.after g.H.Hub.kept g.H.Hub.shows g.H.Hub.goes_on g.H.Hub.was_stopped g.H.Hub.was_busy c.args.kind (outline_of (table_of g.Q.Query.facts g.J.Naming.job) g.J.Naming.job) (λ fits. both_ways _ c.if-not-fits.true ((fits_outline (table_of g.Q.Query.facts g.J.Naming.job) g.J.Naming.job _ c.args.kind _ c.shape.ensures c.fits.ensures).1 fits)) _ c.args.hub.now (at_hub_with g.H.Hub.serves g.H.Hub.posted g.H.Hub.version g.H.Hub.after g.H.Hub.kept g.H.Hub.shows g.H.Hub.goes_on g.H.Hub.was_stopped g.H.Hub.was_busy c.args.kind c.args.parts.now.worker (option_map (λ old. old.items) c.args.kept.now) c.args.hub.now c.requires.at_hub)

pub returns-then-not-fits-clause-sink : goal.returns-then-not-fits-clause-sink
returns-then-not-fits-clause-sink g c =
    sink_unfit (table_of g.Q.Query.facts g.J.Naming.job) g.J.Naming.job g.S.Sink.written g.S.Sink.frame g.S.Sink.faults c.args.kind (outline_of (table_of g.Q.Query.facts g.J.Naming.job) g.J.Naming.job) (λ fits. both_ways _ c.if-not-fits.true ((fits_outline (table_of g.Q.Query.facts g.J.Naming.job) g.J.Naming.job _ c.args.kind _ c.shape.ensures c.fits.ensures).1 fits)) _ c.args.sink.now

pub step_and_keep-requires-clause-fits : goal.step_and_keep-requires-clause-fits
step_and_keep-requires-clause-fits g c κs within =
    (fits_outline (table_of g.Q.Query.facts g.J.Naming.job) g.J.Naming.job _ c.args.kind _ c.shape.ensures c.fits.ensures).0 c.if-not-fits.false

pub step_alone-requires-clause-fits : goal.step_alone-requires-clause-fits
step_alone-requires-clause-fits g c κs within =
    (fits_outline (table_of g.Q.Query.facts g.J.Naming.job) g.J.Naming.job _ c.args.kind _ c.shape.ensures c.fits.ensures).0 c.if-not-fits.false

pub returns-in-Some-clause-fits : goal.returns-in-Some-clause-fits
returns-in-Some-clause-fits g c =
    λ lacks. absurd (lacks ((fits_outline (table_of g.Q.Query.facts g.J.Naming.job) g.J.Naming.job _ c.args.kind _ c.shape.ensures c.fits.ensures).0 c.if-not-fits.false))

pub returns-in-None-clause-fits : goal.returns-in-None-clause-fits
returns-in-None-clause-fits g c =
    λ lacks. absurd (lacks ((fits_outline (table_of g.Q.Query.facts g.J.Naming.job) g.J.Naming.job _ c.args.kind _ c.shape.ensures c.fits.ensures).0 c.if-not-fits.false))

pub returns-in-Some-clause-keeps : goal.returns-in-Some-clause-keeps
returns-in-Some-clause-keeps g c =
    rw c.in-Some.is c.step_and_keep.ensures.keeps

pub returns-in-Some-clause-tell : goal.returns-in-Some-clause-tell
returns-in-Some-clause-tell g c =
    rw c.in-Some.is c.step_and_keep.ensures.tell

pub returns-in-Some-clause-post : goal.returns-in-Some-clause-post
returns-in-Some-clause-post g c =
    rw c.in-Some.is c.step_and_keep.ensures.post

pub returns-in-Some-clause-hub : goal.returns-in-Some-clause-hub
returns-in-Some-clause-hub g c =
    rw c.in-Some.is c.step_and_keep.ensures.hub

pub returns-in-Some-clause-sink : goal.returns-in-Some-clause-sink
returns-in-Some-clause-sink g c =
    rw c.in-Some.is c.step_and_keep.ensures.sink

pub returns-in-None-clause-keeps : goal.returns-in-None-clause-keeps
returns-in-None-clause-keeps g c =
    rw c.in-None.is (none_after c.args.kind c.step_alone.result)

pub returns-in-None-clause-tell : goal.returns-in-None-clause-tell
returns-in-None-clause-tell g c =
    rw c.in-None.is (λ _. tt)

pub returns-in-None-clause-memory : goal.returns-in-None-clause-memory
returns-in-None-clause-memory g c =
    λ is e. absurd (c.step_alone.ensures.memory is e)

pub returns-in-None-clause-post : goal.returns-in-None-clause-post
returns-in-None-clause-post g c =
    rw c.in-None.is (post_with g.P.Post.workers g.P.Post.depth g.P.Post.serves g.P.Post.denotes g.P.Post.waits g.P.Post.had_room g.P.Post.was_full g.P.Post.was_empty (outline_of (table_of g.Q.Query.facts g.J.Naming.job) g.J.Naming.job) c.args.kind c.args.parts.now.worker c.step_alone.new.parts.worker None None c.args.post.now c.step_alone.new.post c.step_alone.result (none_after c.args.kind c.step_alone.result) c.step_alone.ensures.post)

pub returns-in-None-clause-hub : goal.returns-in-None-clause-hub
returns-in-None-clause-hub g c =
    rw c.in-None.is (hub_with g.H.Hub.serves g.H.Hub.posted g.H.Hub.version g.H.Hub.after g.H.Hub.kept g.H.Hub.shows g.H.Hub.goes_on g.H.Hub.was_stopped g.H.Hub.was_busy c.args.kind c.args.parts.now.worker c.step_alone.new.parts.worker None None c.args.hub.now c.step_alone.new.hub c.step_alone.result (none_after c.args.kind c.step_alone.result) c.step_alone.ensures.hub)

pub returns-in-None-clause-sink : goal.returns-in-None-clause-sink
returns-in-None-clause-sink g c =
    rw c.in-None.is (sink_with (table_of g.Q.Query.facts g.J.Naming.job) g.J.Naming.job g.S.Sink.written g.S.Sink.frame g.S.Sink.faults c.args.kind c.args.parts.now.worker None c.args.sink.now c.step_alone.new.sink c.step_alone.result c.step_alone.ensures.sink)
