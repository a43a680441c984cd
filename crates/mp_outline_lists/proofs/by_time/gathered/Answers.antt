-- One more name is gathered.
use Rattle.std.proofs.Common.{get_or}
use Rattle.std.proofs.lemmas.List.Elements.{Contains-get_or}
use Rattle.mp_outline_lists.proofs.by_time.gathered.Goals as goal

pub name_at-requires : goal.name_at-requires
name_at-requires c =
    let numbers = c.args.numbers.now in
    let i = c.loop-number.number-index in
    c.requires (get_or numbers i 0) (Contains-get_or numbers i 0 c.loop-number-test.true)
