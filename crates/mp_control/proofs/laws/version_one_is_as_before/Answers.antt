use Rattle.mp_control.proofs.FirstVersion.{first_version}
use Rattle.mp_control.proofs.laws.version_one_is_as_before.Goals as goal

pub returns : goal.returns
returns c = λ text shape rules e. first_version shape rules text e
