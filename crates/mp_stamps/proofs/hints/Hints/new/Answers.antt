use Rattle.std.proofs.Common.{◌≡◌, refl}
use Rattle.std.proofs.lemmas.List.Elements.{All-replicate}
use Rattle.mp_stamps.proofs.hints.Hints.new.Goals as goal

pub returns : goal.returns
returns c = All-replicate (λ index. index ≡ 0) 2048 0 refl
