use Rattle.std.proofs.Common.{◌==◌, arith}
use Rattle.std.proofs.lemmas.List.Sums.{prefix_len-le-length}
use Rattle.mp_model.specs.declared.record.Output.{Output}
use Rattle.mp_output.proofs.Times.{first_parted, front_of}
use Rattle.mp_output.proofs.rows.Rows.count_at.Goals as goal

pub count_in_front-requires : goal.count_in_front-requires
count_in_front-requires g c = first_parted c.args.time c.self.inside.rows.items c.first.ensures.in_order (rw (← c.self.view_is) at c.requires)

pub returns-clause-rows : goal.returns-clause-rows
returns-clause-rows g c =
    let items = c.self.inside.rows.items in
    let front = front_of c.args.time items c.first.ensures.in_order (rw (← c.self.view_is) at c.requires) in
    rw (← c.self.view_is) (rw c.count_in_front.ensures front.0)

pub returns-clause-count : goal.returns-clause-count
returns-clause-count g c =
    let items = c.self.inside.rows.items in
    let few = prefix_len-le-length (λ (row : Output). row.time == c.args.time) items in
    rw (← c.self.view_is) (omega (arith, c.count_in_front.ensures, few))

pub returns-clause-rest : goal.returns-clause-rest
returns-clause-rest g c =
    let items = c.self.inside.rows.items in
    let front = front_of c.args.time items c.first.ensures.in_order (rw (← c.self.view_is) at c.requires) in
    rw (← c.self.view_is) (rw c.count_in_front.ensures front.1)
