use Rattle.std.proofs.Common.{◌∷◌, [], ◌++◌, ap, sym, ◌∙◌, subst, suc}
use Rattle.mp_mailbox.specs.Names.{Distinct}
use Rattle.mp_mailbox.proofs.NameLists.{names_of-push}
use Rattle.mp_thread_examples.specs.declared.numbers.Number.{Number}
use Rattle.mp_thread_examples.proofs.Below.{distinct_below}
use Rattle.mp_thread_examples.proofs.lines.send_through.Goals as goal

pub push-requires-clause-fresh : goal.push-requires-clause-fresh
push-requires-clause-fresh g c =
    let sent = c.loop.invariant.sent in
    subst (λ l. Distinct l) (ap (λ l. l ++ c.loop.next ∷ []) (sym sent) ∙ sym (names_of-push (λ (m : Number). m.value ∷ []) c.loop.sender.sent record { value = c.loop.next })) (distinct_below (suc c.loop.next))
