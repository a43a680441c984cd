use Rattle.std.proofs.Common.{ℕ, List, sym, subst}
use Rattle.mp_chart.specs.Left.{IsWorkOf}
use Rattle.std.specs.Prelude.{All}
use Rattle.mp_chart.proofs.left.LeftCounts.of.Goals as goal

pub put_all-requires-clause-there : goal.put_all-requires-clause-there
put_all-requires-clause-there c =
    subst (λ (n : ℕ). All (IsWorkOf n c.in_ok-counts.counts.times) c.args.all.now) (sym c.in_ok-counts.ensures.stages)
    (subst (λ (ts : List ℕ). All (IsWorkOf c.args.stages ts) c.args.all.now) (sym c.in_ok-counts.ensures.times) c.requires.there)
