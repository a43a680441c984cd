use Rattle.std.proofs.Common.{◌≡◌, length}
use Rattle.std.specs.Prelude.{All}
use Rattle.mp_audit_player.specs.Starting.{IsAtStart}
use Rattle.mp_audit_player.proofs.starting.first_standings.Given as goal

abbrev pub invariant-loop : goal.invariant-loop
invariant-loop l =
    record {
      workers : length l.standings.items ≡ l.counter;
      each : All (IsAtStart l.workers l.stages l.seen) l.standings.items;
    }
