use Rattle.std.proofs.Common.{[], ◌∷◌, ◌++◌, List, map, get_or, set, ap, ◌∙◌, Global, arith}
use Rattle.std.specs.declared.collections.VecDeque.{VecDeque}
use Rattle.std.specs.declared.vec.Vec.{Vec}
use Rattle.mp_standing.specs.Boxes.{box_of, with_box}
use Rattle.mp_standing.specs.declared.message.Message.{Message}
use Rattle.mp_chart.proofs.Changed.{changed_in}
use Rattle.mp_standing.proofs.mail.Mail.push.Goals as goal

pub returns : goal.returns
returns c =
    let from = c.args.from in
    let to = c.args.to in
    let old = c.index_mut.result.now in
    changed_in (λ (row : Vec (VecDeque Message Global) Global). map (λ (b : VecDeque Message Global). b.items) row.items) (λ (row : List (List Message)). set row to (get_or row to [] ++ c.args.message ∷ [])) c.self.inside.boxes.items from old c.push_in.new.row [] (omega arith) c.index_mut.ensures.value c.in_ok-push_in.ensures
    ∙ ap (λ (mail : List (List (List Message))). with_box mail from to (box_of mail from to ++ c.args.message ∷ [])) c.self.view_is
