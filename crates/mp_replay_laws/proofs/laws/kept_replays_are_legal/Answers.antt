use Rattle.mp_replay_laws.proofs.Merged.{legal_merge}
use Rattle.mp_replay_laws.proofs.laws.kept_replays_are_legal.Goals as goal

pub returns : goal.returns
returns c = λ o depth seed journals ok by. legal_merge o ok depth seed journals by
