-- The records of the group's moment.
use Rattle.std.proofs.Common.{length, sym}
use Rattle.std.proofs.lemmas.Bool.{ltb-false, ltb-true}
use Rattle.mp_names.specs.Logs.{owned_groups}
use Rattle.mp_group_lists.proofs.Held.{found_given, not_past}
use Rattle.mp_group_lists.proofs.lists.GroupLists.given.Goals as goal

pub returns-in-Some : goal.returns-in-Some
returns-in-Some c = λ o x sound are worker at.
    let es = c.groups.result.now in
    let place = c.args.place in
    let lookup = c.in-Some.ensures.lookup in
    found_given o sound c.args.worker c.args.stage place es c.records_after.result.now c.entries_at.result.now c.in-Some.group.now c.moment_of.result x (c.groups.ensures o sound are worker) (ltb-true place (length es) (sym lookup.0)) lookup.1 at c.moment_of.ensures (c.records_after.ensures o sound are) c.entries_at.ensures

pub returns-in-None : goal.returns-in-None
returns-in-None c = λ o x sound are worker at.
    let es = c.groups.result.now in
    absurd (not_past o (owned_groups o c.args.worker c.args.stage) es c.args.place x (c.groups.ensures o sound are worker) (ltb-false c.args.place (length es) (sym c.in-None.ensures.lookup.0)) at)
