-- The number has these parts.
use Rattle.std.proofs.Common.{◌≡◌, ◌+◌, ◌*◌, ◌<◌, rules}
use Rattle.mp_outline_lists.proofs.Packing.{quotient, remainder}
use Rattle.mp_outline_lists.proofs.packed.packed.Goals as goal

pub returns-clause-first : goal.returns-clause-first
returns-clause-first c =
    let is : c.in_ok-number.number ≡ c.args.first * c.args.width + c.args.second = search rules in
    let below : c.args.second < c.args.width = search rules in
    quotient c.in_ok-number.number c.args.first c.args.width c.args.second is below

pub returns-clause-second : goal.returns-clause-second
returns-clause-second c =
    let is : c.in_ok-number.number ≡ c.args.first * c.args.width + c.args.second = search rules in
    let below : c.args.second < c.args.width = search rules in
    remainder c.in_ok-number.number c.args.first c.args.width c.args.second is below
