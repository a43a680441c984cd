use Rattle.mp_samples.specs.Bids.{waking_in}
use Rattle.mp_outline.specs.JobOutline.{outline_of}
use Rattle.mp_rows.proofs.RowTaken.{row_taken}
use Rattle.mp_test_job.proofs.rows.take_row.Goals as goal

pub push-requires : goal.push-requires
push-requires g c = record { changes = rw c.change.ensures (row_taken (outline_of (waking_in g.J.Naming.job) g.J.Naming.job) c.args.log.now.worker c.args.log.now.log c.args.time (record { 0 = 7; 1 = 0 })) }
