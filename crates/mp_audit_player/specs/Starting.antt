-- Where a worker stands before it has done anything.
use Rattle.std.specs.Prelude.{◌≡◌, ℕ, false, [], replicate}
use Rattle.mp_names.specs.declared.kinds.Kind.{Kind}
use Rattle.mp_stamps.specs.declared.seen.Seen.{Seen}
use Rattle.mp_standing.specs.declared.standing.Standing.{Standing}
use Rattle.mp_standing.specs.Numbers.{done_at}

-- Nothing is done and nothing is held, of so many stages and for so many workers; this was seen, and the log is the posted one
pub record IsAtStart (workers stages : ℕ) (seen : Seen) (standing : Standing) : Type 0 where
  pub done : (kind : Kind) → done_at standing.done kind ≡ 0
  pub held : standing.held.items ≡ replicate stages (replicate workers [])
  pub seen_is : standing.seen ≡ seen
  pub since : standing.since.items ≡ []
  pub changed : standing.changed ≡ false
