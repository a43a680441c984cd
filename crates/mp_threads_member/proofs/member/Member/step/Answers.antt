use Rattle.std.proofs.Common.{◌∙◌, ap}
use Rattle.std.specs.Prelude.{is_some}
use Rattle.mp_outline.specs.JobOutline.{outline_of}
use Rattle.mp_ruled.specs.Posts.{ReceiverWasEmpty, SenderHadRoom, SenderWasFull}
use Rattle.mp_threads_member.specs.Members.{MemberState}
use Rattle.mp_threads_member.proofs.Driven.{sees_why, step_drives}
use Rattle.mp_threads_member.proofs.Stays.{keeps_on, member_stays, number_stays}
use Rattle.mp_threads_member.proofs.Tried.{came_further, not_back, was_hindered}
use Rattle.mp_threads_member.proofs.member.Member.step.Goals as goal
use Rattle.mp_model.specs.Tables.{table_of}

pub invariant_of-self : goal.invariant_of-self
invariant_of-self g c =
    let o = outline_of (table_of g.Q.Query.facts g.J.Naming.job) g.J.Naming.job in
    let i = c.self.inside in
    let e = c.step.ensures in
    let old : MemberState = record { worker = i.worker; post = i.post; hub = i.hub } in
    let new : MemberState = record { worker = c.step.new.self; post = c.step.new.post; hub = c.step.new.hub } in
    member_stays o old new c.self.invariant (number_stays (SenderHadRoom i.post) (SenderWasFull i.post) (ReceiverWasEmpty i.post) o c.args.kind i.worker c.step.new.self c.step.result e.answers) e.mail e.at_hub

pub returns-clause-drives : goal.returns-clause-drives
returns-clause-drives g c =
    let job = g.J.Naming.job in
    let o = outline_of (table_of g.Q.Query.facts job) job in
    let i = c.self.inside in
    let e = c.step.ensures in
    let known = c.log_is_known.ensures in
    let old : MemberState = record { worker = i.worker; post = i.post; hub = i.hub } in
    let new : MemberState = record { worker = c.step.new.self; post = c.step.new.post; hub = c.step.new.hub } in
    rw (← c.self.view_is)
    (step_drives (table_of g.Q.Query.facts job) job g.S.Sink.written g.S.Sink.faults g.S.Sink.frame (SenderHadRoom i.post) (SenderWasFull i.post) (ReceiverWasEmpty i.post) c.args.kind old new c.args.sink.now c.step.new.sink e.others_write_nothing e.appends_only known.legal known.writing c.step.result e.answers e.writes (not_back o c.args.kind old new c.self.invariant c.step.result e.answers e.exchanges) (sees_why o c.args.kind old new c.step.result e.answers e.exchanges) (ap is_some e.keeps ∙ keeps_on i.worker.steps c.args.kind c.step.result))

pub returns-clause-made : goal.returns-clause-made
returns-clause-made g c =
    let o = outline_of (table_of g.Q.Query.facts g.J.Naming.job) g.J.Naming.job in
    let i = c.self.inside in
    let e = c.step.ensures in
    let old : MemberState = record { worker = i.worker; post = i.post; hub = i.hub } in
    let new : MemberState = record { worker = c.step.new.self; post = c.step.new.post; hub = c.step.new.hub } in
    rw (← c.self.view_is) (came_further o c.args.kind old new c.self.invariant c.step.result e.answers e.exchanges)

pub returns-clause-hindered : goal.returns-clause-hindered
returns-clause-hindered g c =
    let o = outline_of (table_of g.Q.Query.facts g.J.Naming.job) g.J.Naming.job in
    let i = c.self.inside in
    let e = c.step.ensures in
    let old : MemberState = record { worker = i.worker; post = i.post; hub = i.hub } in
    let new : MemberState = record { worker = c.step.new.self; post = c.step.new.post; hub = c.step.new.hub } in
    rw (← c.self.view_is) (was_hindered o c.args.kind old new c.self.invariant e.others_post_nothing c.step.result e.answers e.exchanges)

pub returns-clause-answers : goal.returns-clause-answers
returns-clause-answers g c = rw (← c.self.view_is) c.step.ensures.answers

pub returns-clause-mail : goal.returns-clause-mail
returns-clause-mail g c = rw (← c.self.view_is) c.step.ensures.mail

pub returns-clause-exchanges : goal.returns-clause-exchanges
returns-clause-exchanges g c = rw (← c.self.view_is) c.step.ensures.exchanges

pub returns-clause-writes : goal.returns-clause-writes
returns-clause-writes g c = rw (← c.self.view_is) c.step.ensures.writes
