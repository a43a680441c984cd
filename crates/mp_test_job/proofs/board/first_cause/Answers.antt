use Rattle.std.proofs.Common.{refl}
use Rattle.mp_names.proofs.Keeps.{empty_is_legal}
use Rattle.mp_outline.specs.JobOutline.{outline_of}
use Rattle.mp_samples.specs.Bids.{waking_in}
use Rattle.mp_test_job.proofs.board.first_cause.Goals as goal

pub exchange-requires-clause-legal : goal.exchange-requires-clause-legal
exchange-requires-clause-legal g c = rw c.open-log.ensures.log (empty_is_legal (outline_of (waking_in g.J.Naming.job) g.J.Naming.job) 1)

pub exchange-requires-clause-posted : goal.exchange-requires-clause-posted
exchange-requires-clause-posted g c = rw (c.stop-2.ensures.logs, c.stop.ensures.logs, c.in_ok-board.ensures.logs, ← c.requires.job, c.requires.shape, c.open-log.ensures.posted) refl
