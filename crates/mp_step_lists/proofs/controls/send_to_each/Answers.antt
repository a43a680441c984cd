use Rattle.std.proofs.Common.{◌∙◌, ◌++◌, ◌∷◌, [], List, ap, sym, append-nil, append_assoc}
use Rattle.mp_chart.specs.declared.entry.Entry.{Entry}
use Rattle.mp_step_lists.specs.Controls.{sent_to, sent_to_each}
use Rattle.mp_step_lists.proofs.Adding.{one_receiver}
use Rattle.mp_step_lists.proofs.controls.send_to_each.Goals as goal

pub loop-to-init : goal.loop-to-init
loop-to-init c = sym (append-nil c.args.entries.now.items)

pub loop-to-preserved : goal.loop-to-preserved
loop-to-preserved c =
    let i = c.args.index in
    let t = c.args.time in
    let to = c.loop-to.to in
    let before = c.args.entries.now.items in
    c.in_ok-push.ensures.items
    ∙ ap (λ (es : List Entry). es ++ sent_to i t to ∷ []) c.loop-to.invariant
    ∙ append_assoc before (sent_to_each i t to) (sent_to i t to ∷ [])
    ∙ ap (λ (es : List Entry). before ++ es) (sym (one_receiver i t to))
