use Rattle.mp_samples.specs.Bids.{waking_in}
use Rattle.mp_job.proofs.Sharing.{record_of_place}
use Rattle.mp_test_job.proofs.job.recs_of.Goals as goal

pub rec_at-requires-after_bounds : goal.rec_at-requires-after_bounds
rec_at-requires-after_bounds c =
    λ κs. record_of_place (waking_in c.args.job.now) c.args.job.now.events c.args.job.now.shape.workers c.args.worker c.share-index-items.result.now c.loop-index.index-index 0 c.share-index-items.ensures c.loop-index-test.true
