use Rattle.mp_shares.proofs.Sharing.{shares_hold}
use Rattle.mp_shares.proofs.laws.shares_hold_each_record_once.Goals as goal

pub returns : goal.returns
returns g c = shares_hold
