-- What the crates above take of those below through this one.
pub use Rattle.mp_job.proofs.Ascents.{IsStrictlyIncreasing-ascending}
pub use Rattle.mp_job.proofs.Gathering.{times_have}
pub use Rattle.mp_job.proofs.Members.{map-Contains}
pub use Rattle.mp_job.proofs.Runs.{run_is_legal, run_shape}
pub use Rattle.mp_job.specs.Laws.{HasTime}
pub use Rattle.mp_job.specs.Legal.{JobIsLegal}
pub use Rattle.mp_job.specs.Records.{share_of}
pub use Rattle.mp_job.specs.Runs.{IsRunOf}
pub use Rattle.mp_job.specs.Times.{control_times, times_of, wake_times}
pub use Rattle.mp_outline.proofs.Found.{found_there}
pub use Rattle.mp_outline.proofs.Soundness.{outline_is_sound}
pub use Rattle.mp_outline.proofs.Stages.{post_named, record_named}
pub use Rattle.mp_outline.proofs.Waking.{wake_named, wakes_are_first}
pub use Rattle.mp_outline.specs.JobOutline.{opening_names, outline_of, record_names}
