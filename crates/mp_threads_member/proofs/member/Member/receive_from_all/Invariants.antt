-- Where nothing was received, it was tried from the workers so far.
use Rattle.std.proofs.Common.{◌≡◌, true, false}
use Rattle.mp_model.specs.Tables.{table_of}
use Rattle.mp_outline.specs.JobOutline.{outline_of}
use Rattle.mp_threads_member.specs.Driving.{GoesOn}
use Rattle.mp_threads_member.specs.Rounds.{HasComeFurther}
use Rattle.mp_threads_member.proofs.Tried.{HasTried, ReceiveBelow}
use Rattle.mp_threads_member.proofs.member.Member.receive_from_all.Given as goal

abbrev pub invariant-loop-from : goal.invariant-loop-from
invariant-loop-from g l = record {
  on : GoesOn (table_of g.Q.Query.facts g.J.Naming.job) g.J.Naming.job g.S.Sink.written g.S.Sink.faults g.S.Sink.frame l.fn.self l.self l.fn.sink l.sink;
  further : l.made ≡ true → HasComeFurther l.fn.self l.self;
  tried : l.made ≡ false → let o = outline_of (table_of g.Q.Query.facts g.J.Naming.job) g.J.Naming.job in HasTried o (ReceiveBelow o l.from) l.fn.self l.self;
  hub : l.made ≡ false → l.self.hub ≡ l.fn.self.hub;
}
