use Rattle.std.proofs.Common.{◌++◌, IsPermutation, map, subst}
use Rattle.std.specs.Prelude.{OnOk}
use Rattle.mp_msg.specs.States.{BinContent}
use Rattle.mp_collect.specs.Gathered.{as_cell, as_wake}
use Rattle.mp_collect.proofs.Entries.{on_ok}
use Rattle.mp_collect.proofs.gathered.add_state.Goals as goal

pub returns-clause-cells : goal.returns-clause-cells
returns-clause-cells g c =
    let P = λ (s : BinContent g.row.C.Denot). IsPermutation (c.args.cells.now.items ++ map (as_cell c.args.stage) s.cells) c.add_cells.new.cells.items in
    on_ok c.add_wakes.result (P c.args.state) (subst P c.state.view_is c.in_ok-add_cells.ensures)

pub returns-clause-wakes : goal.returns-clause-wakes
returns-clause-wakes g c =
    let P = λ (s : BinContent g.row.C.Denot). OnOk c.add_wakes.result (IsPermutation (c.args.wakes.now.items ++ map (as_wake c.args.stage) s.wakes) c.add_wakes.new.wakes.items) in
    subst P c.state.view_is c.add_wakes.ensures
