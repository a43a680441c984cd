use Rattle.std.proofs.Common.{[], List, map, get_or, set, ap, ◌∙◌, Global, arith}
use Rattle.std.specs.declared.collections.VecDeque.{VecDeque}
use Rattle.std.specs.declared.vec.Vec.{Vec}
use Rattle.mp_machine.specs.Steps.{rest_of}
use Rattle.mp_standing.specs.Boxes.{box_of, with_box}
use Rattle.mp_standing.specs.declared.message.Message.{Message}
use Rattle.mp_chart.proofs.Changed.{changed_in}
use Rattle.mp_standing.proofs.mail.Mail.pop.Goals as goal

pub returns-then-from-len : goal.returns-then-from-len
returns-then-from-len c =
    let from = c.args.from in
    let to = c.args.to in
    let old = c.index_mut.result.now in
    changed_in (λ (row : Vec (VecDeque Message Global) Global). map (λ (b : VecDeque Message Global). b.items) row.items) (λ (row : List (List Message)). set row to (rest_of (get_or row to []))) c.self.inside.boxes.items from old c.pop_in.new.row [] (omega arith) c.index_mut.ensures.value c.pop_in.ensures
    ∙ ap (λ (mail : List (List (List Message))). with_box mail from to (rest_of (box_of mail from to))) c.self.view_is
