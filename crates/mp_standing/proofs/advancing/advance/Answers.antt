use Rattle.std.proofs.Common.{ℕ, List, ap, ◌∙◌, subst}
use Rattle.std.proofs.Common.{Global}
use Rattle.std.specs.declared.vec.Vec.{Vec}
use Rattle.mp_names.specs.Outlines.{time_of}
use Rattle.mp_chart.specs.declared.work.Work.{Work}
use Rattle.mp_standing.specs.declared.held.Held.{Held}
use Rattle.mp_standing.specs.declared.done.Done.{Done}
use Rattle.mp_chart.specs.declared.entry.Entry.{Entry}
use Rattle.mp_chart.specs.Entries.{entry_of}
use Rattle.mp_standing.specs.Numbers.{done_at}
use Rattle.mp_standing.specs.Standings.{HasGiven, IsWorkDone}
use Rattle.mp_standing.proofs.Advanced.{HasChanged, advanced, as_many}
use Rattle.mp_standing.proofs.advancing.advance.Goals as goal

pub returns : goal.returns
returns g c = λ x at entry depth world reached can stands.
    let o = g.C.Chart.outline c.args.chart.now in
    let w = c.args.worker in
    let kind = c.args.kind in
    let old = c.args.standing.now in
    let new = c.give.new.standing in
    let work = c.work_done.result in
    let noted = c.in_ok-note.ensures in
    let gave = c.in_ok-give.ensures in
    let is : IsWorkDone kind x (time_of o x) 1 work = subst (λ (e : Entry). IsWorkDone kind e.name e.time 1 work) entry c.work_done.ensures in
    let change : HasChanged o w kind x work old new =
    record {
      more = λ k. ap (λ (d : Done). done_at d kind) gave.done ∙ noted.more k;
      others = λ k n. ap (λ (d : Done). done_at d k) gave.done ∙ noted.others k n;
      since = ap (λ (v : Vec Work Global). v.items) gave.work ∙ noted.work;
      changed = gave.changed ∙ noted.changed;
      seen = gave.seen ∙ noted.seen;
    }
    in
    let given : HasGiven o w kind (done_at old.done kind) (entry_of o x) old.held.items new.held.items =
    subst (λ (l : List (List (List Entry))). HasGiven o w kind (done_at old.done kind) (entry_of o x) l new.held.items) (ap (λ (v : Vec Held Global). v.items) noted.held)
    (subst (λ (e : Entry). HasGiven o w kind (done_at old.done kind) e c.note.new.self.held.items new.held.items) entry
    (subst (λ (n : ℕ). HasGiven o w kind n c.args.entry c.note.new.self.held.items new.held.items) c.count-place.ensures gave.held))
    in
    advanced o depth world reached w kind x can old new work c.requires.along at change is given (as_many o w kind (done_at old.done kind) x old.held.items new.held.items at given) stands
