-- Where no step was made, those of the kinds so far were tried.
use Rattle.std.proofs.Common.{◌≡◌, true, false}
use Rattle.mp_model.specs.Tables.{table_of}
use Rattle.mp_outline.specs.JobOutline.{outline_of}
use Rattle.mp_threads_member.specs.Driving.{GoesOn}
use Rattle.mp_threads_member.specs.Rounds.{HasComeFurther}
use Rattle.mp_threads_member.proofs.Tried.{HasTried, KindBelow}
use Rattle.mp_threads_member.proofs.member.Member.try_all.Given as goal

abbrev pub invariant-loop-number : goal.invariant-loop-number
invariant-loop-number g l = record {
  on : GoesOn (table_of g.Q.Query.facts g.J.Naming.job) g.J.Naming.job g.S.Sink.written g.S.Sink.faults g.S.Sink.frame l.fn.self l.self l.fn.sink l.sink;
  further : l.made ≡ true → HasComeFurther l.fn.self l.self;
  tried : l.made ≡ false → let o = outline_of (table_of g.Q.Query.facts g.J.Naming.job) g.J.Naming.job in HasTried o (KindBelow o l.number) l.fn.self l.self;
}
