-- Rows of which the first is given up.
use Rattle.std.proofs.Common.{◌≡◌, List, ◌∷◌, All, Option, sym, ◌∙◌, subst}
use Rattle.std.specs.Prelude.{IfSome, IfNone, Some, None}
use Rattle.std.proofs.lemmas.List.Elements.{All-tail}
use Rattle.mp_model.specs.declared.record.Output.{Output}
use Rattle.mp_ordered.specs.InOrder.{GoesBack, InOrder, IsInOrder, put_in_order}
use Rattle.mp_output.specs.Unwritten.{place_rank}

-- what holds of all rows holds of those that are left
pub all_left : (P : Output → Type 0) (old new : InOrder Output) (result : Option Output) → All P old.items → IfSome result (λ x. old.items ≡ x ∷ new.items) → IfNone result (new ≡ old) → All P new.items
all_left P old new (Some x) h some none = All-tail P x new.items (subst (All P) some h)
all_left P old new None h some none = subst (λ (rows : InOrder Output). All P rows.items) (sym none) h

-- the first row goes back to its place
pub back_in_front : (x : Output) (old new : List Output) → GoesBack place_rank → IsInOrder place_rank old → old ≡ x ∷ new → put_in_order place_rank x new ≡ old
back_in_front x old new back order first = back x new (subst (IsInOrder place_rank) first order) ∙ sym first
