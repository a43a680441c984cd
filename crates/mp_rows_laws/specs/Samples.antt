-- One step of a small job to compute with.
use Rattle.std.specs.Prelude.{[], ◌∷◌}
use Rattle.mp_names.specs.declared.locations.Loc.TheVariants.{Host}
use Rattle.mp_names.specs.declared.names.Name.TheVariants.{Rec, Group}
use Rattle.mp_names.specs.Keeping.{IsWaiting}
use Rattle.mp_names.specs.Logs.{Log, LogIsLegal, empty_log, with_applied}
use Rattle.mp_names.specs.Samples.{tag, two_moves}
use Rattle.mp_rows.specs.Entries.{AreChanges}
use Rattle.mp_rows_laws.specs.Changes.{one_less, one_more}

-- worker 0 has taken the record of auction 1 at 0, which is to be closed at 100
abbrev pub auction_taken : Log
auction_taken = record empty_log { took = Rec 0 0 1 (tag 0 0) ∷ [] }

-- its group waits in a legal log; once it is applied one group less waits at 0, and one more at 100
pub record AuctionIsApplied : Type 0 where
  pub legal : LogIsLegal two_moves 0 auction_taken
  pub waits : IsWaiting two_moves 0 auction_taken 0 (Group 0 0 1)
  pub changes : AreChanges two_moves 0 auction_taken (with_applied auction_taken (Group 0 0 1)) (one_less (Host 0) 0 ∷ one_more (Host 0) 100 ∷ [])
