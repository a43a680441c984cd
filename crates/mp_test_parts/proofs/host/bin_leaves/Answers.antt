use Rattle.mp_test_parts.proofs.host.bin_leaves.Goals as goal

pub put_back-requires-clause-fits : goal.put_back-requires-clause-fits
put_back-requires-clause-fits g c κs within = rw c.in-Some.ensures.taken.stage c.in-Some.ensures.fits
