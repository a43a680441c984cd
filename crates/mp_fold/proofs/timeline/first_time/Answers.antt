-- The first of the records and of the posted times tell it.
use Rattle.std.proofs.Common.{sym}
use Rattle.mp_fold.proofs.FirstTimes.{first_of_both, first_of_records}
use Rattle.mp_fold.proofs.timeline.first_time.Goals as goal

pub returns-in-Some-Some : goal.returns-in-Some-Some
returns-in-Some-Some c =
    first_of_both c.args.recs.now c.args.posted.now c.requires.recs c.in-Some-Some.rec.now (sym c.in-Some-Some.ensures.value) c.requires.posted c.in-Some-Some.post.now (sym c.in-Some-Some.ensures'.value) c.min.result c.min.ensures

pub returns-in-Some-None : goal.returns-in-Some-None
returns-in-Some-None c =
    first_of_records c.args.recs.now c.args.posted.now c.requires.recs c.in-Some-None.rec.now (sym c.in-Some-None.ensures.value) (sym c.in-Some-None.ensures'.value)
