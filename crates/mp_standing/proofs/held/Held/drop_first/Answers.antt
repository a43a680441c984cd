use Rattle.std.proofs.Common.{ℕ, [], List, min, drop, get_or, set, ap, ◌∙◌, arith}
use Rattle.mp_ordered.specs.InOrder.{InOrder}
use Rattle.mp_chart.specs.declared.entry.Entry.{Entry}
use Rattle.mp_chart.proofs.Changed.{changed_in, drop_most}
use Rattle.mp_standing.proofs.held.Held.drop_first.Goals as goal

pub returns-then-receiver-len : goal.returns-then-receiver-len
returns-then-receiver-len c =
    let v = c.args.receiver in
    let n = c.args.count in
    let old = c.index_mut-list.result.now in
    let dropped = c.drop_first.ensures.items ∙ ap (λ (k : ℕ). drop k old.items) (c.min-count.ensures ∙ ap (λ (k : ℕ). min k n) c.len-then-receiver-len.ensures) ∙ drop_most old.items n in
    changed_in (λ (o : InOrder Entry). o.items) (drop n) c.self.inside.lists.items v old c.drop_first.new.self [] (omega arith) c.index_mut-list.ensures.value dropped
    ∙ ap (λ (held : List (List Entry)). set held v (drop n (get_or held v []))) c.self.view_is
