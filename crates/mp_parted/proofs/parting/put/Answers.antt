use Rattle.std.proofs.Common.{[], ◌∷◌, ◌++◌, List, Global}
use Rattle.std.specs.declared.vec.Vec.{Vec}
use Rattle.mp_chart.specs.declared.entry.Entry.{Entry}
use Rattle.mp_chart.proofs.Changed.{changed_in}
use Rattle.mp_parted.proofs.parting.put.Goals as goal

pub returns : goal.returns
returns c =
    changed_in (λ (part : Vec Entry Global). part.items) (λ (es : List Entry). es ++ c.args.entry ∷ []) c.args.parts.now.items c.args.worker c.index_mut.result.now c.push.new.self [] c.requires c.index_mut.ensures.value c.in_ok-push.ensures.items
