-- What the groups of a small job give, and the order in which control records are sent to two workers.
use Rattle.std.specs.Prelude.{◌≡◌, ◌&&◌, ◌||◌, true, false, [], ◌∷◌}
use Rattle.mp_controller.specs.Cursors.{cursor, is_before, place_after}
use Rattle.mp_model.specs.declared.value.Value.TheVariants.{Row}
use Rattle.mp_samples.specs.Bids.{answering_bids, fields_of}
use Rattle.mp_samples.specs.Jobs.{one_bid}
use Rattle.mp_worker_invariant.specs.Given.{outputs_given}

-- the job's bid is at 5 on auction 7, and its group gives a row of that key. The group that it wakes at 15 has no records and gives none, and neither has any other key
pub record OneBidGivesARow : Type 0 where
  pub bid : outputs_given answering_bids one_bid 0 5 7 ≡ record { time = 5; tag = record { 0 = 7; 1 = 0 }; value = Row (fields_of 7) } ∷ []
  pub wake : outputs_given answering_bids one_bid 0 15 7 ≡ []
  pub other : outputs_given answering_bids one_bid 0 5 8 ≡ []

-- the control record of index 0 is sent to worker 0 and to worker 1, and then that of index 1 to worker 0: before this one are the first two, and no other
pub record ControlsGoInTurn : Type 0 where
  pub next_receiver : place_after 2 (cursor 0 0) ≡ cursor 0 1
  pub next_index : place_after 2 (cursor 0 1) ≡ cursor 1 0
  pub before : (is_before (cursor 1 0) 0 0 && is_before (cursor 1 0) 0 1) ≡ true
  pub not_before : (is_before (cursor 1 0) 1 0 || is_before (cursor 1 0) 1 1) ≡ false
