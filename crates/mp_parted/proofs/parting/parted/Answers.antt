use Rattle.std.proofs.Common.{◌∙◌, [], ℕ, List, Global, ap, get_or, length, replicate, sym, take, arith}
use Rattle.std.specs.declared.vec.Vec.{Vec}
use Rattle.std.proofs.lemmas.List.{length-map, take_more}
use Rattle.mp_names.specs.declared.names.Name.{Name}
use Rattle.mp_names.specs.declared.names.Name.TheVariants.{Ctrl}
use Rattle.mp_chart.specs.declared.entry.Entry.{Entry}
use Rattle.mp_parted.specs.Parted.{parted_by, with_entry}
use Rattle.mp_parted.proofs.Adding.{as_many, none_parted, one_more}
use Rattle.mp_parted.proofs.parting.parted.Goals as goal

pub loop-name-init : goal.loop-name-init
loop-name-init g c =
    let none : List Entry = [] in
    c.in_ok-parts.ensures.lists ∙ ap (λ (n : ℕ). replicate n none) c.workers.ensures.workers ∙ none_parted (g.L.OutlineLists.outline c.args.lists.now) c.args.by

pub put-requires : goal.put-requires
put-requires g c =
    let o = g.L.OutlineLists.outline c.args.lists.now in
    let long = length-map c.loop-name.parts.items (λ (part : Vec Entry Global). part.items) in
    let many = ap length c.loop-name.invariant ∙ as_many o c.args.by (take c.loop-name.name-index c.args.names.now) in
    omega (arith, long, many, c.worker_by-worker.ensures.worker)

pub loop-name-preserved : goal.loop-name-preserved
loop-name-preserved g c =
    let o = g.L.OutlineLists.outline c.args.lists.now in
    let by = c.args.by in
    let names = c.args.names.now in
    let k = c.loop-name.name-index in
    let w = c.worker_by-worker.result in
    let x = get_or names k (Ctrl 0 0) in
    c.in_ok-put.ensures
    ∙ ap (λ (parts : List (List Entry)). with_entry parts w c.entry_of.result) c.loop-name.invariant
    ∙ ap (λ (e : Entry). with_entry (parted_by o by (take k names)) w e) c.entry_of.ensures
    ∙ one_more o by (take k names) x w c.worker_by-worker.ensures.worker c.worker_by-worker.ensures.by
    ∙ ap (λ (xs : List Name). parted_by o by xs) (sym (take_more names k (Ctrl 0 0) c.loop-name-test.true))
