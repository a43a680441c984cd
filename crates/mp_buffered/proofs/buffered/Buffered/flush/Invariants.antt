-- The bytes so far are handed on, and the others wait.
use Rattle.std.proofs.Common.{◌≡◌, ◌≤◌, ◌-◌, take, vec_len}
use Rattle.mp_outside.specs.Sink.{grown}
use Rattle.mp_buffered.specs.Waiting.{waiting}
use Rattle.mp_buffered.proofs.buffered.Buffered.flush.Given as goal

abbrev pub invariant-loop-self : goal.invariant-loop-self
invariant-loop-self g l = record {
  from : l.initial.self.handed ≤ l.self.handed;
  bytes : l.self.gathered.now ≡ l.initial.self.gathered.now;
  gave : g.S.Sink.written l.self.sink.now ≡ grown (g.S.Sink.written l.initial.self.sink.now) (take (l.self.handed - l.initial.self.handed) (waiting l.initial.self));
  same_reference : l.self.sink.ghost_name ≡ l.initial.self.sink.ghost_name;
  frame : g.S.Sink.frame l.self.sink.now ≡ g.S.Sink.frame l.initial.self.sink.now;
  no_fault : g.S.Sink.faults l.self.sink.now ≡ g.S.Sink.faults l.initial.self.sink.now;
}

abbrev pub decreases-loop-self : goal.decreases-loop-self
decreases-loop-self g l = vec_len l.self.gathered.now - l.self.handed
