use Rattle.mp_threads_place.proofs.Marks.{same_mark, told_sees}
use Rattle.mp_threads_place.proofs.place.drive_alone.Goals as goal

pub returns-in-Ok : goal.returns-in-Ok
returns-in-Ok g c = let d = c.in-Ok.ensures.drives in (same_mark c.drive.new.self.worker c.args.member.worker d.number d.keeps, c.in-Ok.ensures.finished)

pub returns-in-Err : goal.returns-in-Err
returns-in-Err g c = let d = c.in-Err.ensures.drives in (same_mark c.drive.new.self.worker c.args.member.worker d.number d.keeps, told_sees _ _ c.in-Err.ensures.told)
