use Rattle.std.proofs.Common.{[], ◌∷◌}
use Rattle.mp_bins.proofs.Searching.{before_stand_first}
use Rattle.mp_bins.proofs.finding.last_below.Goals as goal

pub last_in_front_hinted-requires : goal.last_in_front_hinted-requires
last_in_front_hinted-requires c = before_stand_first c.args.notes.now.items (c.args.cut.now.of.stage ∷ c.args.cut.now.of.bin ∷ c.args.cut.now.limit ∷ []) c.requires

pub last_in_front-requires : goal.last_in_front-requires
last_in_front-requires c = before_stand_first c.args.notes.now.items (c.args.cut.now.of.stage ∷ c.args.cut.now.of.bin ∷ c.args.cut.now.limit ∷ []) c.requires
