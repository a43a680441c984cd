-- Before the frontier no count is other than 0.
use Rattle.std.proofs.Common.{◌≡◌, ◌<◌, ℕ, ℤ, pos, subst}
use Rattle.mp_names.specs.declared.locations.Frontier.{Frontier}
use Rattle.mp_names.specs.declared.locations.Frontier.TheVariants.{At, Done}
use Rattle.mp_names.specs.declared.locations.Loc.{Loc}
use Rattle.mp_names.specs.declared.locations.Loc.TheVariants.{Mail}
use Rattle.mp_names.specs.Frontiers.{IsFrontierOf}
use Rattle.mp_names.specs.Locations.{stays}
use Rattle.mp_stamps.specs.Counts.{count_in}
use Rattle.mp_test_values.proofs.stamps.give_back.Goals as goal

zero_before : (counts : Loc → ℕ → ℤ) (at : Loc) (f : Frontier) (t : ℕ) → IsFrontierOf counts at f → f ≡ At t → (u : ℕ) → u < t → counts at u ≡ pos 0
zero_before counts at f t h e u l = (subst (IsFrontierOf counts at) e h).1 u l at stays

zero_everywhere : (counts : Loc → ℕ → ℤ) (at : Loc) (f : Frontier) → IsFrontierOf counts at f → f ≡ Done → (u : ℕ) → counts at u ≡ pos 0
zero_everywhere counts at f h e u = subst (IsFrontierOf counts at) e h u at stays

pub drop_below-requires : goal.drop_below-requires
drop_below-requires c = record { none = λ t l. zero_before (count_in c.args.counts.now) (Mail 0) c.frontier.result c.in-At.time c.frontier.ensures c.in-At.is t l }

pub drop_below-requires-in-Done : goal.drop_below-requires-in-Done
drop_below-requires-in-Done c = record { none = λ t l. zero_everywhere (count_in c.args.counts.now) (Mail 0) c.frontier.result c.frontier.ensures c.in-Done.is t }
