use Rattle.std.proofs.Common.{refl}
use Rattle.mp_outside.proofs.FileLemmas.{there_after, file_at-with_more, without-with_more}
use Rattle.mp_outside.proofs.depot_sink.DepotSinkSink.write.Goals as goal

pub invariant_of-self : goal.invariant_of-self
invariant_of-self g c = record {
  there = there_after c.append.result _ _ _ c.args.piece.now c.args.self.now.there c.append.ensures.appended c.append.ensures.unchanged;
}

pub returns-clause-grew : goal.returns-clause-grew
returns-clause-grew g c = rw c.in_ok-taken.ensures.appended (file_at-with_more _ _ _)

pub returns-clause-appends_only : goal.returns-clause-appends_only
returns-clause-appends_only g c = record {
  same_frame = rw (c.in_ok-taken.ensures.appended, without-with_more, c.in_ok-taken.ensures.writes_only.same_reads) refl;
  faults_grow = c.in_ok-taken.ensures.writes_only.writes_grow;
}
