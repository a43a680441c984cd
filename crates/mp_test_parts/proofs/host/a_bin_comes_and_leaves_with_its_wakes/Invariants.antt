-- The name that is picked is that of the job.
use Rattle.mp_test_parts.proofs.host.a_bin_comes_and_leaves_with_its_wakes.Given as goal

abbrev pub ghosts-bin_comes_and_leaves : goal.ghosts-bin_comes_and_leaves
ghosts-bin_comes_and_leaves g a = record { job = a.job.now }
