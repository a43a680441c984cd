use Rattle.std.proofs.Common.{◌<◌, ℕ, sym, ◌∙◌, arith}
use Rattle.mp_machine.specs.Steps.{CanStep}
use Rattle.mp_machine.specs.Worlds.{World}
use Rattle.mp_names.specs.declared.names.Name.{Name}
use Rattle.mp_names.specs.declared.kinds.Kind.TheVariants.{Receive}
use Rattle.mp_player.specs.Shows.{IsNextMessage, Shows}
use Rattle.mp_player.proofs.Taking.{if_some, if_none, next_waits, nothing_waits}
use Rattle.mp_player.proofs.receiving.next_message.Goals as goal

pub returns-clause-next : goal.returns-clause-next
returns-clause-next g c =
    let o = g.C.Chart.outline c.args.chart.now in
    let l : c.args.worker < o.workers = omega (arith, c.workers-workers.ensures, c.if-worker-workers.false) in
    let k : c.args.from < o.workers = omega (arith, c.workers-workers.ensures, c.if-from-workers.false) in
    if_some (λ m. (depth : ℕ) (world : World) → Shows o depth c.args.state.now world → IsNextMessage o depth c.args.worker c.args.from world m) c.first.result (λ m e depth world shows. next_waits o depth world c.args.state.now shows c.args.worker c.args.from l k m (sym c.first.ensures ∙ e))

pub returns-clause-none : goal.returns-clause-none
returns-clause-none g c =
    let o = g.C.Chart.outline c.args.chart.now in
    if_none ((depth : ℕ) (world : World) → Shows o depth c.args.state.now world → (x : Name) → CanStep o depth world c.args.worker (Receive c.args.from) x → ⊥) c.first.result (λ e depth world shows. nothing_waits o depth world c.args.state.now shows c.args.worker c.args.from (sym c.first.ensures ∙ e))
