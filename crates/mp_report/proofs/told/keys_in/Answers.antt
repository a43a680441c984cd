use Rattle.std.proofs.Common.{◌∙◌, arith, length, of_calls, rules, sym}
use Rattle.std.proofs.lemmas.Bool.{ltb-false, ltb-true}
use Rattle.std.proofs.lemmas.Fn.{always_returns_same}
use Rattle.mp_report.proofs.Searched.{comes_before, only_there, parted, past_all}
use Rattle.mp_report.proofs.told.keys_in.Goals as goal

pub returns-in-Some : goal.returns-in-Some
returns-in-Some c =
    let m = c.args.change in
    let xs = c.args.packets.now in
    let at = c.partition_point-at.result in
    let point = c.partition_point-at.ensures.partitioned (comes_before m) (always_returns_same _ _ _ (λ a r f k. search (rules, of_calls))) (parted m xs c.requires) in
    c.keys_of.ensures ∙ only_there m xs at c.requires (omega (arith, c.partition_point-at.ensures.bound)) point c.in-Some.packet.now (ltb-true at (length xs) (sym c.in-Some.ensures.lookup.0)) c.in-Some.ensures.lookup.1

pub returns-in-None : goal.returns-in-None
returns-in-None c =
    let m = c.args.change in
    let xs = c.args.packets.now in
    let at = c.partition_point-at.result in
    let point = c.partition_point-at.ensures.partitioned (comes_before m) (always_returns_same _ _ _ (λ a r f k. search (rules, of_calls))) (parted m xs c.requires) in
    sym (past_all m xs at c.requires (omega (arith, c.partition_point-at.ensures.bound)) point (ltb-false at (length xs) (sym c.in-None.ensures.lookup.0)))
