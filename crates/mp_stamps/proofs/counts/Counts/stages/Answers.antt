use Rattle.std.proofs.Common.{ℕ, ap, subst, sym}
use Rattle.mp_names.specs.Locations.{IsLocation}
use Rattle.mp_stamps.specs.Counts.{CountTable, IsTable}
use Rattle.mp_stamps.proofs.Tables.{no_count}
use Rattle.mp_stamps.proofs.counts.Counts.stages.Goals as goal

pub returns-clause-none_elsewhere : goal.returns-clause-none_elsewhere
returns-clause-none_elsewhere c =
    let h : IsTable c.args.self.now = subst IsTable c.self.view_is c.self.invariant.0 in
    λ at t n. no_count c.args.self.now at t h (λ k. n (subst (λ (s : ℕ). IsLocation s at) (sym (ap (λ (t : CountTable). t.stages) c.self.view_is)) k.0))
