-- The steps that finished workers kept.
use Rattle.std.proofs.Common.{◌≡◌, ℕ, zero, suc, Bool, true, false, List, [], ◌∷◌, Option, Some, None, Ok, Err, refl, sym, ap, subst}
use Rattle.std.specs.Prelude.{IfOk, is_some, map, slice_get}
use Rattle.std.specs.declared.result.Result.{Result}
use Rattle.std.specs.Option.{unwrap_or}
use Rattle.mp_names.specs.Outlines.{Outline}
use Rattle.mp_names.specs.declared.kinds.Kept.{Kept}
use Rattle.mp_journal_laws.specs.Telling.{KeptTellFullLog}
use Rattle.mp_threads_crew.specs.Journals.{AreKept, TellFullLogs}

-- the steps of a worker that keeps them
pub steps_told : (o : Outline) (w : ℕ) (steps : Option (List Kept)) → ((kept : List Kept) → steps ≡ Some kept → KeptTellFullLog o w kept) → is_some steps ≡ true → KeptTellFullLog o w (unwrap_or steps [])
steps_told o w (Some kept) told some = told kept refl
steps_told o w None told some = absurd cc

-- what holds of each of a list at its place holds of what each is read as
pub each_of_map : {A B : Type 0} (P : ℕ → B → Type 0) (f : A → B) (xs : List A) → ((k : ℕ) (x : A) → slice_get xs k ≡ Some x → P k (f x)) → (k : ℕ) (y : B) → slice_get (map f xs) k ≡ Some y → P k y
each_of_map P f [] each k y at = absurd cc
each_of_map P f (x ∷ xs) each zero y at = let same : f x ≡ y = cc in subst (P 0) same (each 0 x refl)
each_of_map P f (x ∷ xs) each (suc k) y at = each_of_map (λ j. P (suc j)) f xs (λ j z e. each (suc j) z e) k y at

-- the steps that are kept, where they are asked for
pub kept_as_asked : {V E : Type 0} (r : Result V E) (lists : V → List (List Kept)) (o : Outline) (keeps : Bool) → keeps ≡ true → IfOk r (λ v. TellFullLogs o (lists v)) → IfOk r (λ v. AreKept o keeps (lists v))
kept_as_asked (Ok v) lists o keeps is told = subst (λ (b : Bool). AreKept o b (lists v)) (sym is) told
kept_as_asked (Err e) lists o keeps is told = tt

-- nothing is kept, where none are asked for
pub none_as_asked : {A : Type 0} (o : Outline) (f : A → List Kept) (keeps : Bool) (lists : List A) → keeps ≡ false → lists ≡ [] → AreKept o keeps (map f lists)
none_as_asked {A} o f keeps lists is none = subst (λ (b : Bool). AreKept o b (map f lists)) (sym is) (ap (map f) none)
