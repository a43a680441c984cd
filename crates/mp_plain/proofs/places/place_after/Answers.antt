use Rattle.std.proofs.Common.{arith}
use Rattle.mp_plain.specs.Places.{kind_count}
use Rattle.mp_plain.proofs.Numbered.{first_again, kinds_counted, next_kind, next_worker}
use Rattle.mp_plain.proofs.places.place_after.Goals as goal

pub returns-then-kind-count_of_kinds-clause-place : goal.returns-then-kind-count_of_kinds-clause-place
returns-then-kind-count_of_kinds-clause-place c =
    let kinds = kinds_counted c.args.shape c.count_of_kinds.result c.count_of_kinds.ensures in
    record { worker = c.requires.worker; kind = omega (arith, kinds, c.if-kind-count_of_kinds.true) }

pub returns-then-kind-count_of_kinds-clause-number : goal.returns-then-kind-count_of_kinds-clause-number
returns-then-kind-count_of_kinds-clause-number c =
    let kinds = kinds_counted c.args.shape c.count_of_kinds.result c.count_of_kinds.ensures in
    next_kind c.args.place.worker c.args.shape.workers c.args.place.kind (kind_count c.args.shape) c.requires.worker (omega (arith, kinds, c.if-kind-count_of_kinds.true))

pub returns-then-worker-shape-clause-number : goal.returns-then-worker-shape-clause-number
returns-then-worker-shape-clause-number c =
    let kinds = kinds_counted c.args.shape c.count_of_kinds.result c.count_of_kinds.ensures in
    next_worker c.args.place.worker c.args.shape.workers c.args.place.kind (kind_count c.args.shape) c.if-worker-shape.true c.requires.kind (omega (arith, kinds, c.if-kind-count_of_kinds.false))

pub returns-else-worker-shape-clause-number : goal.returns-else-worker-shape-clause-number
returns-else-worker-shape-clause-number c =
    let kinds = kinds_counted c.args.shape c.count_of_kinds.result c.count_of_kinds.ensures in
    first_again c.args.place.worker c.args.shape.workers c.args.place.kind (kind_count c.args.shape) c.requires.worker c.if-worker-shape.false c.requires.kind (omega (arith, kinds, c.if-kind-count_of_kinds.false))
