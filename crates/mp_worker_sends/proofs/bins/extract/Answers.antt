use Rattle.std.proofs.Common.{refl}
use Rattle.mp_worker_refinement.proofs.Alone.{post_same}
use Rattle.mp_worker_sends.proofs.bins.extract.Goals as goal

pub returns-in_default-clause-steps : goal.returns-in_default-clause-steps
returns-in_default-clause-steps g c = ((λ x can. absurd (c.in_default.ensures.none x can)), refl)

pub send_bin-requires-clause-at_post : goal.send_bin-requires-clause-at_post
send_bin-requires-clause-at_post g c κs within = rw (c.make_room_to_extract.ensures.same, c.sort_wakes.ensures) c.requires.at_post

pub returns : goal.returns
returns g c = rw (← c.sort_wakes.ensures, ← c.make_room_to_extract.ensures.same) c.send_bin.ensures

pub returns-in_default-clause-mail : goal.returns-in_default-clause-mail
returns-in_default-clause-mail g c = post_same _ _ _ _ _ _ _ _ _ _ refl refl

pub returns-in_err-sort_wakes-clause-mail : goal.returns-in_err-sort_wakes-clause-mail
returns-in_err-sort_wakes-clause-mail g c = rw c.sort_wakes.ensures (post_same _ _ _ _ _ _ _ _ _ _ refl refl)

pub returns-in_err-changes-clause-mail : goal.returns-in_err-changes-clause-mail
returns-in_err-changes-clause-mail g c = rw (c.make_room_to_extract.ensures.same, c.sort_wakes.ensures) (post_same _ _ _ _ _ _ _ _ _ _ refl refl)
