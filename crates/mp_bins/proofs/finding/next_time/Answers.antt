use Rattle.mp_bins.specs.Notes.{rank_of_note}
use Rattle.mp_bins.proofs.Searching.{upto_stand_first}
use Rattle.mp_bins.proofs.finding.next_time.Goals as goal

pub first_behind-requires : goal.first_behind-requires
first_behind-requires c = upto_stand_first c.args.notes.now.items (rank_of_note c.args.note) c.requires
