-- Workers that the job hasn't.
use Rattle.std.proofs.Common.{◌≡◌, ℕ, ◌<◌, ◌≤◌, refl, sym, subst, arith}
use Rattle.mp_names.specs.Outlines.{Outline}
use Rattle.mp_machine.specs.Worlds.{Worker, World, put}
use Rattle.mp_machine.specs.Steps.{having_seen, logged, names_of}
use Rattle.mp_machine.proofs.Puts.{put_other}
use Rattle.mp_machine.proofs.Worlds.{run_keeps}
use Rattle.mp_standing.specs.Advancing.{IsReached}

abbrev IsPosted : ℕ → World → Type 0
IsPosted v world = (world.worker v).log ≡ (world.worker v).posted

still : (o : Outline) (v : ℕ) → o.workers ≤ v → (world : World) (w : ℕ) (new : Worker) → w < o.workers → IsPosted v world → (put w new world.worker v).log ≡ (put w new world.worker v).posted
still o v past world w new low same = subst (λ (k : Worker). k.log ≡ k.posted) (sym (put_other w v new world.worker (λ e. absurd (omega arith)))) same

-- they do nothing, so their logs are what they posted
pub idle_posted : (o : Outline) (depth : ℕ) (world : World) → IsReached o depth world → (v : ℕ) → o.workers ≤ v → (world.worker v).log ≡ (world.worker v).posted
idle_posted o depth world reached v past =
    subst (IsPosted v) (sym reached.run)
    (run_keeps o reached.sound depth (IsPosted v) refl
    (λ wd w kind x right same can. still o v past wd w (record (wd.worker w) { log = logged kind (wd.worker w).log (names_of o wd w kind x) }) can.0.0 same)
    (λ wd w right same low. still o v past wd w (having_seen o wd w) low same)
    reached.steps)
