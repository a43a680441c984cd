use Rattle.std.proofs.Common.{◌≡◌, ◌≤◌, arith, length, sym}
use Rattle.mp_control.specs.Drains.{records_by_drain}
use Rattle.mp_control.proofs.DrainSteps.{drain_late, drain_passes, drain_refused, fails_alone}
use Rattle.mp_names.specs.Limits.{greatest_time}
use Rattle.mp_plans.proofs.Drained.{bins_told}
use Rattle.mp_plans.specs.Drains.{last_turn}
use Rattle.mp_control.proofs.drains.DrainLine.append.Goals as goal
use Rattle.mp_control.proofs.drains.DrainLine.append.Goals.{then-shape-lt2-via-then-shape-lt2, then-shape-lt2-via-else-shape-lt2+then-last_time-from}

pub returns-then-shape-lt2-clause-answer : goal.returns-then-shape-lt2-clause-answer
returns-then-shape-lt2-clause-answer c =
    let a = c.args in
    let its = c.in_ok-bins.bins.items in
    let told = bins_told a.list.now.items a.owners.now c.requires.notes c.requires.noted a.self.stage a.self.time a.shape.bins a.self.worker its c.in_ok-bins.ensures in
    elim c.then-shape-lt2.branch [
      | then-shape-lt2-via-then-shape-lt2 w ↦ fails_alone a.shape (length a.list.now.items) (records_by_drain a.owners.now.layout a.list.now.items a.self) w.if-shape-lt2.true
      | then-shape-lt2-via-else-shape-lt2+then-last_time-from w ↦
          let count : w.len.result ≡ length its = omega (arith, w.len.ensures) in
          let last : last_turn a.self.time a.self.gap (length its) ≡ w.last_time.result = rw (← count) (sym w.last_time.ensures) in
          drain_late a.owners.now.layout a.shape a.list.now.items a.self its c.requires.shape told c.requires.fits.in_time (omega (arith, last, w.from.ensures, w.if-last_time-from.true))
    ]

pub drain-requires-clause-last : goal.drain-requires-clause-last
drain-requires-clause-last c =
    let a = c.args in
    let its = c.in_ok-bins.bins.items in
    let told = bins_told a.list.now.items a.owners.now c.requires.notes c.requires.noted a.self.stage a.self.time a.shape.bins a.self.worker its c.in_ok-bins.ensures in
    let count : c.len.result ≡ length its = omega (arith, c.len.ensures) in
    let last : last_turn a.self.time a.self.gap (length its) ≡ c.last_time.result = rw (← count) (sym c.last_time.ensures) in
    rw (← told) (omega (arith, last, c.from.ensures, c.if-last_time-from.false))

pub returns-in-Ok-clause-answer : goal.returns-in-Ok-clause-answer
returns-in-Ok-clause-answer c =
    let a = c.args in
    let its = c.in_ok-bins.bins.items in
    let told = bins_told a.list.now.items a.owners.now c.requires.notes c.requires.noted a.self.stage a.self.time a.shape.bins a.self.worker its c.in_ok-bins.ensures in
    let count : c.len.result ≡ length its = omega (arith, c.len.ensures) in
    let last : last_turn a.self.time a.self.gap (length its) ≡ c.last_time.result = rw (← count) (sym c.last_time.ensures) in
    let timely : last_turn a.self.time a.self.gap (length its) ≤ greatest_time = omega (arith, last, c.from.ensures, c.if-last_time-from.false) in
    drain_passes a.owners.now.layout a.shape a.list.now.items a.self its c.requires.shape told c.if-shape-lt2.false timely c.drain.new.list.items c.in-Ok.ensures.appended c.in-Ok.ensures.few

pub returns-clause-answer : goal.returns-clause-answer
returns-clause-answer c =
    let a = c.args in
    let its = c.in_ok-bins.bins.items in
    let told = bins_told a.list.now.items a.owners.now c.requires.notes c.requires.noted a.self.stage a.self.time a.shape.bins a.self.worker its c.in_ok-bins.ensures in
    let count : c.len.result ≡ length its = omega (arith, c.len.ensures) in
    let last : last_turn a.self.time a.self.gap (length its) ≡ c.last_time.result = rw (← count) (sym c.last_time.ensures) in
    let timely : last_turn a.self.time a.self.gap (length its) ≤ greatest_time = omega (arith, last, c.from.ensures, c.if-last_time-from.false) in
    rw c.refusal_of.ensures
    (drain_refused a.owners.now.layout a.shape a.list.now.items a.self its c.requires.shape told c.if-shape-lt2.false timely c.in-Err.refused c.in-Err.ensures.too_many)
