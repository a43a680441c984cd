use Rattle.std.proofs.Common.{◌∙◌, ◌++◌, ◌∷◌, All, ap, arith, drop, length, map, refl, subst, sym, take}
use Rattle.mp_names.specs.Logs.{LogIsLegal}
use Rattle.mp_outline.specs.JobOutline.{outline_of}
use Rattle.mp_worker_refinement.specs.State.{WorkerState}
use Rattle.mp_threads_member.specs.Members.{HasDoneNothing, MemberState}
use Rattle.mp_threads_member.specs.Driving.{IsFinished}
use Rattle.mp_threads_place.specs.Places.{mark_at, mark_of}
use Rattle.mp_threads.proofs.Coming.{all_come_back_if, first_begins, marked_as}
use Rattle.mp_answer_laws.proofs.Runs.{nothing_begun}
use Rattle.mp_threads.proofs.Leaves.{is_driven, run_leaves}
use Rattle.mp_threads.proofs.Lists.{all_tail, as_many, lent_back}
use Rattle.mp_threads.proofs.run.run_in.Goals as goal
use Rattle.mp_model.specs.Tables.{table_of}

pub returns-in_default : goal.returns-in_default
returns-in_default g c = record { run = record { finished = tt; marks = tt; leaves = nothing_begun (table_of g.Q.Query.facts g.J.Naming.job) g.J.Naming.job g.S.Sink.written g.S.Sink.faults g.S.Sink.frame _ _ refl } }

pub returns-in_default-with_capacity : goal.returns-in_default-with_capacity
returns-in_default-with_capacity g c = record { run = record { finished = tt; marks = tt; leaves = nothing_begun (table_of g.Q.Query.facts g.J.Naming.job) g.J.Naming.job g.S.Sink.written g.S.Sink.faults g.S.Sink.frame _ _ refl } }

pub finish_all-requires-clause-first : goal.finish_all-requires-clause-first
finish_all-requires-clause-first g c κs within =
    let o = outline_of (table_of g.Q.Query.facts g.J.Naming.job) g.J.Naming.job in
    let d = c.drive_here-driven in
    λ over. subst (IsFinished o) (sym c.into_worker-first.ensures) (d.ensures.driven.finished over)

pub settle_all-places-requires-clause-start : goal.settle_all-places-requires-clause-start
settle_all-places-requires-clause-start g c κs within =
    let crew = sym c.into_iter-members.ensures.rest ∙ c.in-Some.ensures.items in
    all_tail HasDoneNothing _ _ _ crew (subst (All HasDoneNothing) (sym c.into_members-members.ensures.members) c.requires.start)

pub returns : goal.returns
returns g c =
    let job = g.J.Naming.job in
    let q = table_of g.Q.Query.facts job in
    let o = outline_of q job in
    let s = g.S.Sink in
    let crew = sym c.into_iter-members.ensures.rest ∙ c.in-Some.ensures.items in
    let b = first_begins _ _ _ _ crew c.into_members-members.ensures.numbers (subst (All HasDoneNothing) (sym c.into_members-members.ensures.members) c.requires.start) in
    let d = c.drive_here-driven in
    let driven = d.ensures.driven in
    let f = c.finish_all.ensures in
    let legal = subst (λ (w : WorkerState). LogIsLegal o w.number w.log) c.into_worker-first.ensures c.log_is_known.ensures.legal in
    let l = is_driven q job s.written s.faults s.frame _ _ _ _ b.zeroth b.empty d.result driven.drives legal in
    let now = d.new.places in
    let were = c.settle_all-places.result.items in
    let room = c.settle_all-places.result.len in
    let back = lent_back room now were (as_many mark_at mark_at _ _ d.ensures.marks ∙ ap length c.as_mut_slice.ensures.value) c.settle_all-places.result.ok.0 in
    let of_member = λ (m : MemberState). mark_of m.worker in
    let given = take room (now ++ drop (length now) were) in
    let first = ap mark_of c.into_worker-first.ensures ∙ l.mark in
    let others =
    ap (map mark_at) back
    ∙ d.ensures.marks
    ∙ ap (map mark_at) c.as_mut_slice.ensures.value
    ∙ c.settle_all-places.ensures in
    let marks =
    ap (λ n. n ∷ map mark_at given) first
    ∙ ap (λ l. mark_of c.in-Some.first.worker ∷ l) others
    ∙ sym (ap (map of_member) crew) in
    record {
      run = record {
        finished = all_come_back_if c.finish_all.result (λ v. v.items) o _ c.into_members-members.result.items c.into_members-members.ensures.numbers marks f.back;
        marks = marked_as c.finish_all.result (λ v. v.items) o _ _ (marks ∙ ap (map of_member) c.into_members-members.ensures.members) f.back;
        leaves = run_leaves q job s.written s.faults s.frame _ _ _ _ b.zeroth b.empty d.result c.finish_all.result l driven.drives driven.finished f.ends.over f.ends.write.0 f.ends.write.1;
      };
    }

pub finish_all-requires-clause-room : goal.finish_all-requires-clause-room
finish_all-requires-clause-room g c κs within =
    let d = c.drive_here-driven in
    let now = d.new.places in
    let were = c.settle_all-places.result.items in
    let lent = as_many mark_at mark_at _ _ d.ensures.marks ∙ ap length c.as_mut_slice.ensures.value in
    let back = ap length (lent_back c.settle_all-places.result.len now were lent c.settle_all-places.result.ok.0) in
    let settled = as_many mark_at (λ (m : MemberState). mark_of m.worker) _ _ c.settle_all-places.ensures in
    let crew = ap length (sym c.into_iter-members.ensures.rest ∙ c.in-Some.ensures.items) in
    omega (arith, back, lent, settled, crew, c.in-Ok-with_capacity.ensures.capacity, c.len-2.ensures, c.into_members-members.result.ok.0)
