use Rattle.std.proofs.Common.{refl}
use Rattle.mp_names.proofs.Keeps.{empty_is_legal}
use Rattle.mp_outline.specs.JobOutline.{outline_of}
use Rattle.mp_samples.specs.Bids.{waking_in}
use Rattle.mp_test_job.proofs.board.empty_log_again.Goals as goal

pub exchange-seen-requires-clause-legal : goal.exchange-seen-requires-clause-legal
exchange-seen-requires-clause-legal g c = rw c.open-log.ensures.log (empty_is_legal (outline_of (waking_in g.J.Naming.job) g.J.Naming.job) 1)

pub exchange-seen-requires-clause-posted : goal.exchange-seen-requires-clause-posted
exchange-seen-requires-clause-posted g c = rw (c.in_ok-board.ensures.logs, ← c.requires.job, c.requires.shape, c.open-log.ensures.posted) refl
