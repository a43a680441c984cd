use Rattle.std.proofs.Common.{rules, IfSome}
use Rattle.mp_names.specs.declared.locations.Loc.TheVariants.{OutMail}
use Rattle.mp_stamps.specs.Seen.{seen_at}
use Rattle.mp_output.specs.Unwritten.{IsDue}
use Rattle.mp_output.proofs.Writing.{due_is_first}
use Rattle.mp_output.proofs.rows.Rows.due.Goals as goal

pub returns-clause-least : goal.returns-clause-least
returns-clause-least g c =
    let due : IfSome c.then_some.result (IsDue (seen_at c.args.seen.now OutMail) c.args.self.now.rows) = search rules in
    rw (← c.self.view_is) (due_is_first (seen_at c.args.seen.now OutMail) c.self.inside.rows.items c.then_some.result c.first.ensures.in_order (rw (← c.self.view_is) at due))
