use Rattle.std.proofs.Common.{Ok}
use Rattle.mp_outline.specs.JobOutline.{outline_of}
use Rattle.mp_model.specs.Tables.{table_of}
use Rattle.mp_worker.proofs.Arms.{apart, exchange_at_hub, exchange_at_post, exchange_in_sink, mail_at_post, no_mail_at_post, others_at_hub, others_in_sink, refused_at_post, refused_in_sink, write_at_post, write_in_sink}
use Rattle.mp_worker.proofs.step.step_alone.Goals as goal

pub returns-in-Exchange-clause-post : goal.returns-in-Exchange-clause-post
returns-in-Exchange-clause-post g c =
    exchange_at_post g.P.Post.workers g.P.Post.depth g.P.Post.serves g.P.Post.denotes g.P.Post.waits g.P.Post.had_room g.P.Post.was_full g.P.Post.was_empty (outline_of (table_of g.Q.Query.facts g.J.Naming.job) g.J.Naming.job) c.args.kind c.args.parts.now.worker c.exchange.new.parts.worker g.H.Hub.after g.H.Hub.kept g.H.Hub.shows g.H.Hub.goes_on g.H.Hub.was_stopped g.H.Hub.was_busy c.args.hub.now c.exchange.new.hub c.in-Exchange.is c.args.post.now c.exchange.result c.exchange.ensures.exchanges

pub returns-in-Exchange-clause-hub : goal.returns-in-Exchange-clause-hub
returns-in-Exchange-clause-hub g c =
    exchange_at_hub g.H.Hub.serves g.H.Hub.posted g.H.Hub.version g.H.Hub.after g.H.Hub.kept g.H.Hub.shows g.H.Hub.goes_on g.H.Hub.was_stopped g.H.Hub.was_busy c.args.kind c.args.parts.now.worker c.exchange.new.parts.worker c.in-Exchange.is c.args.hub.now c.exchange.new.hub c.exchange.result c.exchange.ensures.exchanges c.exchange.ensures.at_hub c.exchange.ensures.still_serves

pub returns-in-Exchange-clause-sink : goal.returns-in-Exchange-clause-sink
returns-in-Exchange-clause-sink g c =
    exchange_in_sink (table_of g.Q.Query.facts g.J.Naming.job) g.J.Naming.job g.S.Sink.written g.S.Sink.frame g.S.Sink.faults c.args.kind c.args.parts.now.worker c.in-Exchange.is c.args.sink.now c.exchange.result

pub returns-in_ok-write-in-Write-clause-post : goal.returns-in_ok-write-in-Write-clause-post
returns-in_ok-write-in-Write-clause-post g c =
    write_at_post g.P.Post.workers g.P.Post.depth g.P.Post.serves g.P.Post.denotes g.P.Post.waits g.P.Post.had_room g.P.Post.was_full g.P.Post.was_empty (outline_of (table_of g.Q.Query.facts g.J.Naming.job) g.J.Naming.job) c.args.kind c.args.parts.now.worker c.write.new.parts.worker c.in-Write.is c.args.post.now c.in_ok-write-in-Write.field-0 c.turn_of.result (c.turn_of.ensures.did, c.turn_of.ensures.not_now) c.in_ok-write-in-Write.ensures.steps

pub returns-in_ok-write-in-Write-clause-hub : goal.returns-in_ok-write-in-Write-clause-hub
returns-in_ok-write-in-Write-clause-hub g c =
    others_at_hub g.H.Hub.serves g.H.Hub.posted g.H.Hub.version g.H.Hub.after g.H.Hub.kept g.H.Hub.shows g.H.Hub.goes_on g.H.Hub.was_stopped g.H.Hub.was_busy c.args.kind c.args.parts.now.worker c.write.new.parts.worker (outline_of (table_of g.Q.Query.facts g.J.Naming.job) g.J.Naming.job) (λ e. apart c.args.kind e c.in-Write.is) c.args.hub.now (Ok c.turn_of.result) (g.P.Post.had_room c.args.post.now) (g.P.Post.was_full c.args.post.now) (g.P.Post.was_empty c.args.post.now) c.requires.at_hub
    (write_at_post g.P.Post.workers g.P.Post.depth g.P.Post.serves g.P.Post.denotes g.P.Post.waits g.P.Post.had_room g.P.Post.was_full g.P.Post.was_empty (outline_of (table_of g.Q.Query.facts g.J.Naming.job) g.J.Naming.job) c.args.kind c.args.parts.now.worker c.write.new.parts.worker c.in-Write.is c.args.post.now c.in_ok-write-in-Write.field-0 c.turn_of.result (c.turn_of.ensures.did, c.turn_of.ensures.not_now) c.in_ok-write-in-Write.ensures.steps).answers

pub returns-in_ok-write-in-Write-clause-sink : goal.returns-in_ok-write-in-Write-clause-sink
returns-in_ok-write-in-Write-clause-sink g c =
    write_in_sink (table_of g.Q.Query.facts g.J.Naming.job) g.J.Naming.job g.S.Sink.written g.S.Sink.frame g.S.Sink.faults c.args.kind c.args.parts.now.worker c.in-Write.is c.args.sink.now c.write.new.sink c.in_ok-write-in-Write.field-0 c.turn_of.result (c.turn_of.ensures.did, c.turn_of.ensures.not_now) c.in_ok-write-in-Write.ensures.writes c.in_ok-write-in-Write.ensures.appends_only

pub returns-in_err-write-in-Write-clause-post : goal.returns-in_err-write-in-Write-clause-post
returns-in_err-write-in-Write-clause-post g c =
    refused_at_post g.P.Post.workers g.P.Post.depth g.P.Post.serves g.P.Post.denotes g.P.Post.waits g.P.Post.had_room g.P.Post.was_full g.P.Post.was_empty (outline_of (table_of g.Q.Query.facts g.J.Naming.job) g.J.Naming.job) c.args.kind c.args.parts.now.worker c.write.new.parts.worker c.in-Write.is c.args.post.now c.in_err-write-in-Write.field-0.0 c.from_residual.result c.from_residual.ensures.1 c.in_err-write-in-Write.ensures.steps

pub returns-in_err-write-in-Write-clause-hub : goal.returns-in_err-write-in-Write-clause-hub
returns-in_err-write-in-Write-clause-hub g c =
    others_at_hub g.H.Hub.serves g.H.Hub.posted g.H.Hub.version g.H.Hub.after g.H.Hub.kept g.H.Hub.shows g.H.Hub.goes_on g.H.Hub.was_stopped g.H.Hub.was_busy c.args.kind c.args.parts.now.worker c.write.new.parts.worker (outline_of (table_of g.Q.Query.facts g.J.Naming.job) g.J.Naming.job) (λ e. apart c.args.kind e c.in-Write.is) c.args.hub.now c.from_residual.result (g.P.Post.had_room c.args.post.now) (g.P.Post.was_full c.args.post.now) (g.P.Post.was_empty c.args.post.now) c.requires.at_hub
    (refused_at_post g.P.Post.workers g.P.Post.depth g.P.Post.serves g.P.Post.denotes g.P.Post.waits g.P.Post.had_room g.P.Post.was_full g.P.Post.was_empty (outline_of (table_of g.Q.Query.facts g.J.Naming.job) g.J.Naming.job) c.args.kind c.args.parts.now.worker c.write.new.parts.worker c.in-Write.is c.args.post.now c.in_err-write-in-Write.field-0.0 c.from_residual.result c.from_residual.ensures.1 c.in_err-write-in-Write.ensures.steps).answers

pub returns-in_err-write-in-Write-clause-sink : goal.returns-in_err-write-in-Write-clause-sink
returns-in_err-write-in-Write-clause-sink g c =
    refused_in_sink (table_of g.Q.Query.facts g.J.Naming.job) g.J.Naming.job g.S.Sink.written g.S.Sink.frame g.S.Sink.faults c.args.kind c.args.parts.now.worker c.in-Write.is c.args.sink.now c.write.new.sink c.in_err-write-in-Write.field-0.0 c.from_residual.result c.from_residual.ensures.1 c.in_err-write-in-Write.ensures.writes c.in_err-write-in-Write.ensures.appends_only

pub returns-in_ok-step_by_mail-in_default-clause-post : goal.returns-in_ok-step_by_mail-in_default-clause-post
returns-in_ok-step_by_mail-in_default-clause-post g c =
    mail_at_post g.P.Post.workers g.P.Post.depth g.P.Post.serves g.P.Post.denotes g.P.Post.waits g.P.Post.had_room g.P.Post.was_full g.P.Post.was_empty (outline_of (table_of g.Q.Query.facts g.J.Naming.job) g.J.Naming.job) c.args.kind c.args.parts.now.worker c.step_by_mail.new.parts.worker c.args.post.now c.step_by_mail.new.post c.in_ok-step_by_mail-in_default.field-0 c.turn_of-in_default.result (c.turn_of-in_default.ensures.did, c.turn_of-in_default.ensures.not_now) c.in_ok-step_by_mail-in_default.ensures.steps c.in_ok-step_by_mail-in_default.ensures.mail

pub returns-in_ok-step_by_mail-in_default-clause-hub : goal.returns-in_ok-step_by_mail-in_default-clause-hub
returns-in_ok-step_by_mail-in_default-clause-hub g c =
    others_at_hub g.H.Hub.serves g.H.Hub.posted g.H.Hub.version g.H.Hub.after g.H.Hub.kept g.H.Hub.shows g.H.Hub.goes_on g.H.Hub.was_stopped g.H.Hub.was_busy c.args.kind c.args.parts.now.worker c.step_by_mail.new.parts.worker (outline_of (table_of g.Q.Query.facts g.J.Naming.job) g.J.Naming.job) c.in_default.not-Exchange c.args.hub.now (Ok c.turn_of-in_default.result) (g.P.Post.had_room c.args.post.now) (g.P.Post.was_full c.args.post.now) (g.P.Post.was_empty c.args.post.now) c.requires.at_hub
    (mail_at_post g.P.Post.workers g.P.Post.depth g.P.Post.serves g.P.Post.denotes g.P.Post.waits g.P.Post.had_room g.P.Post.was_full g.P.Post.was_empty (outline_of (table_of g.Q.Query.facts g.J.Naming.job) g.J.Naming.job) c.args.kind c.args.parts.now.worker c.step_by_mail.new.parts.worker c.args.post.now c.step_by_mail.new.post c.in_ok-step_by_mail-in_default.field-0 c.turn_of-in_default.result (c.turn_of-in_default.ensures.did, c.turn_of-in_default.ensures.not_now) c.in_ok-step_by_mail-in_default.ensures.steps c.in_ok-step_by_mail-in_default.ensures.mail).answers

pub returns-in_ok-step_by_mail-in_default-clause-sink : goal.returns-in_ok-step_by_mail-in_default-clause-sink
returns-in_ok-step_by_mail-in_default-clause-sink g c =
    others_in_sink (table_of g.Q.Query.facts g.J.Naming.job) g.J.Naming.job g.S.Sink.written g.S.Sink.frame g.S.Sink.faults c.args.kind c.args.parts.now.worker c.in_default.not-Write c.args.sink.now (Ok c.turn_of-in_default.result)

pub returns-in_err-step_by_mail-in_default-clause-post : goal.returns-in_err-step_by_mail-in_default-clause-post
returns-in_err-step_by_mail-in_default-clause-post g c =
    no_mail_at_post g.P.Post.workers g.P.Post.depth g.P.Post.serves g.P.Post.denotes g.P.Post.waits g.P.Post.had_room g.P.Post.was_full g.P.Post.was_empty (outline_of (table_of g.Q.Query.facts g.J.Naming.job) g.J.Naming.job) c.args.kind c.args.parts.now.worker c.step_by_mail.new.parts.worker c.args.post.now c.step_by_mail.new.post c.from_residual-in_err-step_by_mail-in_default.result c.from_residual-in_err-step_by_mail-in_default.ensures.1 c.in_err-step_by_mail-in_default.ensures.steps c.in_err-step_by_mail-in_default.ensures.mail

pub returns-in_err-step_by_mail-in_default-clause-hub : goal.returns-in_err-step_by_mail-in_default-clause-hub
returns-in_err-step_by_mail-in_default-clause-hub g c =
    others_at_hub g.H.Hub.serves g.H.Hub.posted g.H.Hub.version g.H.Hub.after g.H.Hub.kept g.H.Hub.shows g.H.Hub.goes_on g.H.Hub.was_stopped g.H.Hub.was_busy c.args.kind c.args.parts.now.worker c.step_by_mail.new.parts.worker (outline_of (table_of g.Q.Query.facts g.J.Naming.job) g.J.Naming.job) c.in_default.not-Exchange c.args.hub.now c.from_residual-in_err-step_by_mail-in_default.result (g.P.Post.had_room c.args.post.now) (g.P.Post.was_full c.args.post.now) (g.P.Post.was_empty c.args.post.now) c.requires.at_hub
    (no_mail_at_post g.P.Post.workers g.P.Post.depth g.P.Post.serves g.P.Post.denotes g.P.Post.waits g.P.Post.had_room g.P.Post.was_full g.P.Post.was_empty (outline_of (table_of g.Q.Query.facts g.J.Naming.job) g.J.Naming.job) c.args.kind c.args.parts.now.worker c.step_by_mail.new.parts.worker c.args.post.now c.step_by_mail.new.post c.from_residual-in_err-step_by_mail-in_default.result c.from_residual-in_err-step_by_mail-in_default.ensures.1 c.in_err-step_by_mail-in_default.ensures.steps c.in_err-step_by_mail-in_default.ensures.mail).answers

pub returns-in_err-step_by_mail-in_default-clause-sink : goal.returns-in_err-step_by_mail-in_default-clause-sink
returns-in_err-step_by_mail-in_default-clause-sink g c =
    others_in_sink (table_of g.Q.Query.facts g.J.Naming.job) g.J.Naming.job g.S.Sink.written g.S.Sink.frame g.S.Sink.faults c.args.kind c.args.parts.now.worker c.in_default.not-Write c.args.sink.now c.from_residual-in_err-step_by_mail-in_default.result
