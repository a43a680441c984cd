-- Which list tells what a worker does with its steps of a kind.
use Rattle.std.proofs.Common.{◌≡◌, ℕ, true, refl}
use Rattle.mp_names.specs.declared.kinds.Kind.{Kind}
use Rattle.mp_names.specs.declared.kinds.Kind.TheVariants.{Ingest, SendControl, Route, Receive, Extract, Settle, Apply, SendRow, Write, Exchange}
use Rattle.mp_step_lists.specs.Tables.{is_told}

-- all kinds but two
pub told_but : (kind : Kind) → ((j : ℕ) → kind ≡ Apply j → ⊥) → (kind ≡ SendRow → ⊥) → is_told kind ≡ true
told_but Ingest other none = refl
told_but SendControl other none = refl
told_but (Route j) other none = refl
told_but (Receive v) other none = refl
told_but (Extract j) other none = refl
told_but (Settle j) other none = refl
told_but (Apply j) other none = absurd (other j refl)
told_but SendRow other none = absurd (none refl)
told_but Write other none = refl
told_but Exchange other none = refl
