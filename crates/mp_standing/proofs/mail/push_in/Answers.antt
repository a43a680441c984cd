use Rattle.std.proofs.Common.{[], List, ◌∷◌, ◌++◌, Global, arith}
use Rattle.std.specs.declared.collections.VecDeque.{VecDeque}
use Rattle.mp_standing.specs.declared.message.Message.{Message}
use Rattle.mp_chart.proofs.Changed.{changed_in}
use Rattle.mp_standing.proofs.mail.push_in.Goals as goal

pub returns : goal.returns
returns c =
    let old = c.index_mut.result.now in
    changed_in (λ (b : VecDeque Message Global). b.items) (λ (ms : List Message). ms ++ c.args.message ∷ []) c.args.row.now.items c.args.to old c.push_back.new.self [] (omega arith) c.index_mut.ensures.value c.in_ok-push_back.ensures.items
