-- A small host to compute with.
use Rattle.std.specs.Prelude.{◌≡◌, ℕ, None, Some, [], ◌∷◌}
use Rattle.mp_model.specs.declared.record.Rec.{Rec}
use Rattle.mp_model.specs.declared.value.Value.TheVariants.{Bid}
use Rattle.mp_samples.specs.Bids.{waking_bids}
use Rattle.mp_host_laws.specs.Hosted.{Hosted, first_group, keys_at}
use Rattle.mp_host_laws.specs.Applying.{posts_here, woken_by}
use Rattle.mp_host_laws.specs.Moving.{not_waiting}

-- the record of a bid on an auction at a time, by the index of its event
abbrev pub bid_at : ℕ → ℕ → ℕ → Rec
bid_at t auction i = record { time = t; key = auction; tag = record { 0 = 0; 1 = i }; value = Bid auction 1 1 }

-- at 5 a bid on auction 2, two on auction 7, and a wake of auction 9; at 15 a wake of auction 2
abbrev pub busy_host : Hosted ℕ
busy_host =
    record {
      stage = 0;
      worker = 0;
      records = bid_at 5 2 2 ∷ bid_at 5 7 0 ∷ bid_at 5 7 1 ∷ [];
      held = record { bin = 0; since = None; state = record { cells = []; wakes = (15, 2) ∷ [] } } ∷ record { bin = 1; since = Some 3; state = record { cells = []; wakes = (5, 9) ∷ [] } } ∷ [];
      room = 0;
      room_for_bins = 0;
    }

-- the least group is first; a key waits once, however many records it has; a bid wakes its auction ten later, which isn't told where the auction waits then already. Of two wakes that come at 5 only that of a key that doesn't wait then already makes a group wait
pub record BusyHostWaits : Type 0 where
  pub first : first_group busy_host ≡ Some (5, 2)
  pub keys : keys_at busy_host 5 ≡ 2 ∷ 7 ∷ 9 ∷ []
  pub posts : posts_here waking_bids busy_host 5 7 ≡ 15 ∷ 15 ∷ []
  pub woken : woken_by waking_bids busy_host 5 7 ≡ 15 ∷ []
  pub not_woken : woken_by waking_bids busy_host 5 2 ≡ []
  pub coming : not_waiting busy_host (record { cells = []; wakes = (5, 7) ∷ (5, 8) ∷ [] }) ≡ (5, 8) ∷ []
