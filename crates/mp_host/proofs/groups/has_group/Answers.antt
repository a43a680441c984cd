use Rattle.std.proofs.Common.{◌∙◌, sym}
use Rattle.mp_host.proofs.Present.{found_tells, none_found}
use Rattle.mp_host.proofs.groups.has_group.Goals as goal

pub returns-in-Some : goal.returns-in-Some
returns-in-Some c = c.is_in.ensures ∙ found_tells c.args.time c.args.key c.before_group.result c.before_group.ensures c.args.records.now.items c.in-Some.rec.now c.first_from.ensures.in_order c.in-Some.ensures.some

pub returns : goal.returns
returns c = sym (none_found c.args.time c.args.key c.before_group.result c.before_group.ensures c.args.records.now.items c.in-None.ensures.none)
