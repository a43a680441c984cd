-- A job may go on from a checkpoint that a file may say.
use Rattle.std.proofs.Common.{ℕ, List}
use Rattle.std.proofs.lemmas.List.Elements.{All-weaker}
use Rattle.mp_model.specs.Facts.{QueryFacts}
use Rattle.mp_opening.specs.Openings.{CellMayOpen, MayOpen, WakeMayOpen}
use Rattle.mp_opening.specs.Checkpoints.{CheckpointOf}
use Rattle.mp_checkpoint_laws.specs.Files.{CellStands, CheckpointFits, WakeStands, format_of}

module _ {Cell : Type 0} (number : ℕ) (values : List ℕ) (q : QueryFacts Cell) (text : ℕ → Cell → List ℕ) where
  pub may_open : (c : CheckpointOf Cell) → CheckpointFits (format_of number values q text) c → MayOpen q c
  may_open c fits = record {
    time = fits.time;
    cells = All-weaker (CellStands (format_of number values q text) c.time) (CellMayOpen q c.time) (λ s stands. record { stage = stands.0; key = stands.1; allowed = stands.2 }) c.cells fits.cells;
    cells_ascend = fits.cells_ascend;
    wakes = All-weaker (WakeStands (format_of number values q text) c.time) (WakeMayOpen c.time) (λ w stands. record { first = stands.1; key = stands.2; late = stands.3; in_time = stands.4 }) c.wakes fits.wakes;
    wakes_ascend = fits.wakes_ascend;
  }
