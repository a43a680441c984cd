use Rattle.std.proofs.Common.{List, get_or, sym, ap, ◌∙◌}
use Rattle.mp_names.specs.declared.names.Name.TheVariants.{Ctrl}
use Rattle.mp_chart.specs.declared.entry.Entry.{Entry}
use Rattle.mp_standing.specs.Held.{with_entry}
use Rattle.mp_standing.proofs.Putting.{with_more}
use Rattle.mp_standing.proofs.held.Held.put_all.Goals as goal

pub loop-entry-preserved : goal.loop-entry-preserved
loop-entry-preserved c =
    let none : Entry = record { name = Ctrl 0 0; time = 0; receiver = 0 } in
    c.in_ok-put.ensures ∙ ap (λ (held : List (List Entry)). with_entry held (get_or c.args.entries.now c.loop-entry.entry-index none)) c.loop-entry.invariant ∙ sym (with_more c.args.self.now c.args.entries.now c.loop-entry.entry-index none c.loop-entry-test.true)
