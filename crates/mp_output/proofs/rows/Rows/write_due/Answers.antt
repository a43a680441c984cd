use Rattle.std.proofs.Common.{◌∙◌, Contains, sym, arith}
use Rattle.std.proofs.lemmas.List.Elements.{All-drop}
use Rattle.mp_names.specs.declared.locations.Loc.TheVariants.{OutMail}
use Rattle.mp_stamps.specs.Seen.{seen_at}
use Rattle.mp_model.specs.Stages.{answer_rows}
use Rattle.mp_model.specs.Tables.{table_of}
use Rattle.mp_outside.proofs.SinkLemmas.{grown-nothing}
use Rattle.mp_output.proofs.Held.{written_held}
use Rattle.mp_output.proofs.Whole.{time_is_whole}
use Rattle.mp_output.proofs.Writing.{due_is_least, none_is_passed, on_err}
use Rattle.mp_output.proofs.rows.Rows.write_due.Goals as goal

pub returns-in_default-clause-none_passed : goal.returns-in_default-clause-none_passed
returns-in_default-clause-none_passed g c = λ log t h l p. none_is_passed log (seen_at c.args.seen.now OutMail) c.args.self.now.rows t c.due.ensures.in_order c.in_default.ensures.none h l p

pub returns-in_err-put_first-clause-part : goal.returns-in_err-put_first-clause-part
returns-in_err-put_first-clause-part g c = on_err c.from_residual.result (c.in-Some.time, 0, c.in-Some.ensures.some, omega arith, sym (grown-nothing (g.S.Sink.written c.args.sink.now)))

pub returns-in_err-put_first-clause-part_of_answer : goal.returns-in_err-put_first-clause-part_of_answer
returns-in_err-put_first-clause-part_of_answer g c =
    let q = table_of g.Q.Query.facts g.J.Naming.job in
    let seen = seen_at c.args.seen.now OutMail in
    let rows = c.self.inside.rows.items in
    let order = rw (← c.self.view_is) at c.due.ensures.in_order in
    on_err c.from_residual.result
    (rw (← c.self.view_is) (λ log t h due. (due_is_least log seen rows t order due h, λ closed. time_is_whole q g.J.Naming.job log seen rows t order c.self.invariant due h closed)))

pub returns-in_err-write_piece-clause-part_of_answer : goal.returns-in_err-write_piece-clause-part_of_answer
returns-in_err-write_piece-clause-part_of_answer g c =
    let q = table_of g.Q.Query.facts g.J.Naming.job in
    let seen = seen_at c.args.seen.now OutMail in
    let rows = c.self.inside.rows.items in
    let order = rw (← c.self.view_is) at c.due.ensures.in_order in
    on_err c.from_residual-in_err-write_piece.result
    (rw (← c.self.view_is) (λ log t h due. (due_is_least log seen rows t order due h, λ closed. time_is_whole q g.J.Naming.job log seen rows t order c.self.invariant due h closed)))

pub invariant_of-self-2 : goal.invariant_of-self-2
invariant_of-self-2 g c = rw c.drop_first.ensures.items (All-drop (Contains (answer_rows (table_of g.Q.Query.facts g.J.Naming.job) g.J.Naming.job.events)) c.count_at-count.result c.self.inside.rows.items c.self.invariant)

pub returns-clause-next : goal.returns-clause-next
returns-clause-next g c =
    let rest = c.drop_first.ensures.items ∙ (rw (← c.self.view_is) at c.count_at-count.ensures.rest) in
    let seen = seen_at c.args.seen.now OutMail in
    λ log h. record {
      least = due_is_least log seen c.args.self.now.rows c.in-Some.time c.due.ensures.in_order c.in-Some.ensures.some h;
      held = written_held log c.in-Some.time c.self.inside.rows.items c.drop_first.new.self.items rest (rw (← c.self.view_is) at h);
    }

pub returns-clause-answer : goal.returns-clause-answer
returns-clause-answer g c =
    let q = table_of g.Q.Query.facts g.J.Naming.job in
    rw (← c.self.view_is) (λ log h closed. time_is_whole q g.J.Naming.job log (seen_at c.args.seen.now OutMail) c.self.inside.rows.items c.in-Some.time (rw (← c.self.view_is) at c.due.ensures.in_order) c.self.invariant (rw (← c.self.view_is) at c.in-Some.ensures.some) h closed)
