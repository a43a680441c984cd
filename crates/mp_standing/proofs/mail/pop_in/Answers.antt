use Rattle.std.proofs.Common.{[], ◌∙◌, arith}
use Rattle.std.proofs.Common.{Global}
use Rattle.std.specs.declared.collections.VecDeque.{VecDeque}
use Rattle.mp_machine.specs.Steps.{rest_of}
use Rattle.mp_standing.specs.declared.message.Message.{Message}
use Rattle.mp_chart.proofs.Changed.{changed_in, without_first}
use Rattle.mp_standing.proofs.mail.pop_in.Goals as goal

pub returns-then-to-len : goal.returns-then-to-len
returns-then-to-len c =
    let old = c.index_mut.result.now in
    changed_in (λ (b : VecDeque Message Global). b.items) rest_of c.args.row.now.items c.args.to old c.pop_front.new.self [] (omega arith) c.index_mut.ensures.value (c.pop_front.ensures.rest ∙ without_first old.items)
