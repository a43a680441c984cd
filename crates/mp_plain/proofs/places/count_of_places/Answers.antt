use Rattle.std.proofs.Common.{◌+◌, ◌^◌, sym, ◌∙◌, arith}
use Rattle.std.proofs.lemmas.Nat.{mul-le}
use Rattle.mp_plain.specs.Places.{kind_count}
use Rattle.mp_plain.proofs.Numbered.{as_many, kinds_counted, same_product}
use Rattle.mp_plain.proofs.places.count_of_places.Goals as goal

pub overflow_mul-result : goal.overflow_mul-result
overflow_mul-result c =
    let kinds = kinds_counted c.args.shape c.count_of_kinds.result c.count_of_kinds.ensures in
    let few = mul-le c.from.result c.count_of_kinds.result 64 (2 ^ 35) (omega arith) (omega arith) in
    omega arith

pub returns-clause-product : goal.returns-clause-product
returns-clause-product c =
    let kinds = kinds_counted c.args.shape c.count_of_kinds.result c.count_of_kinds.ensures in
    same_product c.from.result c.args.shape.workers c.count_of_kinds.result (kind_count c.args.shape) (omega arith) kinds

pub returns-clause-count : goal.returns-clause-count
returns-clause-count c = λ o workers stages. returns-clause-product c ∙ sym (as_many o c.args.shape workers stages)

pub returns-clause-few : goal.returns-clause-few
returns-clause-few c =
    let kinds = kinds_counted c.args.shape c.count_of_kinds.result c.count_of_kinds.ensures in
    let few = mul-le c.from.result c.count_of_kinds.result 64 (2 ^ 34 + 2 ^ 33) (omega arith) (omega arith) in
    omega arith
