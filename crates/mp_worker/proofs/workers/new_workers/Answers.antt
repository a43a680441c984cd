use Rattle.std.proofs.Common.{◌≡◌, [], ◌∷◌, length, ap, arith, length-append}
use Rattle.std.proofs.lemmas.List.Elements.{All-push}
use Rattle.mp_outline.specs.JobOutline.{outline_of}
use Rattle.mp_worker_refinement.specs.State.{WorkerState}
use Rattle.mp_turns.specs.Keeping.{no_steps}
use Rattle.mp_worker.proofs.New.{is_new, one_more_new}
use Rattle.mp_worker.proofs.workers.new_workers.Goals as goal
use Rattle.mp_model.specs.Tables.{table_of}

pub loop-number-preserved : goal.loop-number-preserved
loop-number-preserved g c =
    let o = outline_of (table_of g.Q.Query.facts g.J.Naming.job) g.J.Naming.job in
    let i = c.loop-number.invariant in
    let number = c.loop-number.number in
    let workers = c.loop-number.workers.items in
    let worker = c.in_ok-begin.field-0 in
    let made = c.in_ok-begin.ensures in
    let pushed = c.push_reserved.ensures in
    let is = is_new o number worker c.args.seen made.number made.log made.posted made.seen c.requires.version c.requires.opening in
    let KeepsSo = λ (s : WorkerState). s.steps ≡ no_steps c.args.plan.keeps in
    record {
      room = omega (arith, i.room, pushed.capacity);
      many = omega (arith, ap length pushed.items, length-append workers (worker ∷ []), i.many);
      new = one_more_new o number workers c.push_reserved.new.self.items worker i.new i.many is pushed.items;
      keeps = rw pushed.items (All-push KeepsSo workers worker i.keeps made.steps);
    }
