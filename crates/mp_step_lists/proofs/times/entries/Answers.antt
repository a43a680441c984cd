use Rattle.std.proofs.Common.{◌∙◌, ap, get_or, sym, take}
use Rattle.std.proofs.lemmas.List.{take_more}
use Rattle.mp_names.specs.declared.names.Name.TheVariants.{Ctrl}
use Rattle.mp_chart.specs.Entries.{entries_of}
use Rattle.mp_step_lists.proofs.Adding.{entry_pushed}
use Rattle.mp_step_lists.proofs.times.entries.Goals as goal

pub loop-name-preserved : goal.loop-name-preserved
loop-name-preserved g c =
    let o = g.L.OutlineLists.outline c.args.lists.now in
    let names = c.args.names.now in
    let k = c.loop-name.name-index in
    entry_pushed o (take k names) (get_or names k (Ctrl 0 0)) c.loop-name.entries.items c.push.new.self.items c.entry_of.result c.in_ok-push.ensures.items c.loop-name.invariant c.entry_of.ensures
    ∙ ap (entries_of o) (sym (take_more names k (Ctrl 0 0) c.loop-name-test.true))
