use Rattle.mp_names.proofs.Whole.{whole}
use Rattle.mp_names.proofs.laws.least_group_is_whole.Goals as goal

pub returns : goal.returns
returns c = λ o w log ok good j t k least mail state. whole o ok w log good j t k least mail state
