-- The cells so far are kept, but for those that are fresh.
use Rattle.mp_host_states.specs.Openings.{AreKept}
use Rattle.mp_host_states.proofs.opening.kept_of.Given as goal

abbrev pub invariant-loop-key : goal.invariant-loop-key
invariant-loop-key g l = AreKept ((g.Q.Query.facts (g.Q.Query.values l.query)).fresh l.stage) l.yielded l.kept
