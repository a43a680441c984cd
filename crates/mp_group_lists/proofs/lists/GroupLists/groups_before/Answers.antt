-- The groups up to the row's moment.
use Rattle.std.proofs.Common.{length, sym}
use Rattle.std.proofs.lemmas.Bool.{ltb-false, ltb-true}
use Rattle.mp_player_laws.specs.Decisions.{rows_to_send}
use Rattle.mp_group_lists.proofs.Held.{found_before, not_past}
use Rattle.mp_group_lists.proofs.lists.GroupLists.groups_before.Goals as goal

pub returns-in-Some : goal.returns-in-Some
returns-in-Some c = λ o x sound are worker at n.
    let es = c.rows.result.now in
    let place = c.args.place in
    let lookup = c.in-Some.ensures.lookup in
    found_before o sound c.args.worker place c.count_upto.result es c.last_groups.result.now c.in-Some.row.now c.moment_of.result x (c.rows.ensures o are worker) (ltb-true place (length es) (sym lookup.0)) lookup.1 at c.moment_of.ensures (c.last_groups.ensures o sound are worker) c.count_upto.ensures.bound c.count_upto.ensures.point n

pub returns-in-None : goal.returns-in-None
returns-in-None c = λ o x sound are worker at n.
    let es = c.rows.result.now in
    absurd (not_past o (rows_to_send o c.args.worker) es c.args.place x (c.rows.ensures o are worker) (ltb-false c.args.place (length es) (sym c.in-None.ensures.lookup.0)) at)
