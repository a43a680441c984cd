-- A whole job begins with no wakes.
use Rattle.std.proofs.Common.{◌≡◌, ◌∙◌, ℕ, Bool, true, false, cond, nat_lt, List, [], map, refl, ap}
use Rattle.mp_names.specs.declared.names.Name.{Name}
use Rattle.mp_model.specs.Facts.{JobFacts, QueryFacts}
use Rattle.mp_job.specs.Legal.{JobIsLegal}
use Rattle.mp_job.proofs.Legality.{begins_unwoken}
use Rattle.mp_outline.specs.JobOutline.{name_of_wake, opening_names}
use Rattle.mp_job_lists.specs.Listed.{IsWhole}

either_way : (b : Bool) (names : List Name) → cond b names names ≡ names
either_way true names = refl
either_way false names = refl

module _ {Cell : Type 0} (q : QueryFacts Cell) (job : JobFacts) (legal : JobIsLegal q job) (whole : IsWhole job) where
  pub no_opening_names : (j : ℕ) → opening_names q job j ≡ []
  no_opening_names j =
      ap (λ (ws : List (ℕ × ℕ)). cond (nat_lt j job.shape.stages) (map (name_of_wake j) ws) []) (begins_unwoken q job legal.table whole.from j) ∙ either_way (nat_lt j job.shape.stages) []
