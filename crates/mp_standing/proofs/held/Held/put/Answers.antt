use Rattle.std.proofs.Common.{[], List, ap, ◌∙◌, arith}
use Rattle.mp_ordered.specs.InOrder.{InOrder, put_in_order}
use Rattle.mp_chart.specs.declared.entry.Entry.{Entry}
use Rattle.mp_chart.proofs.Changed.{changed_in}
use Rattle.mp_standing.specs.Held.{rank_of_entry, with_entry}
use Rattle.mp_standing.proofs.held.Held.put.Goals as goal

pub returns : goal.returns
returns c =
    let e = c.args.entry in
    let old = c.index_mut.result.now in
    changed_in (λ (o : InOrder Entry). o.items) (put_in_order rank_of_entry e) c.self.inside.lists.items e.receiver old c.insert.new.self [] (omega arith) c.index_mut.ensures.value c.in_ok-insert.ensures.put
    ∙ ap (λ (held : List (List Entry)). with_entry held e) c.self.view_is
