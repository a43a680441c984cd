-- Whether a number stands in a list, as a test.
use Rattle.std.proofs.Common.{◌≡◌, ℕ, true, ◌==◌, List, [], ◌∷◌, Contains, subst, ⊎_elim}
use Rattle.std.specs.List.{list_any}
use Rattle.std.proofs.lemmas.Bool.{false≢true, eq-eqb, eqb-true, or_cases, or_left, or_right}
use Rattle.mp_job.proofs.Members.{nothing_in_nil, Contains-here, Contains-later, Contains-cases}

pub any_Contains : (xs : List ℕ) (u : ℕ) → list_any (λ v. v == u) xs ≡ true → Contains xs u
any_Contains [] u h = absurd (false≢true h)
any_Contains (v ∷ vs) u h =
    ⊎_elim
    (λ (e : (v == u) ≡ true). subst (λ (w : ℕ). Contains (v ∷ vs) w) (eqb-true v u e) (Contains-here v vs))
    (λ (e : list_any (λ v. v == u) vs ≡ true). Contains-later v u vs (any_Contains vs u e))
    (or_cases (v == u) (list_any (λ v. v == u) vs) h)

pub Contains_any : (xs : List ℕ) (u : ℕ) → Contains xs u → list_any (λ v. v == u) xs ≡ true
Contains_any [] u h = absurd (nothing_in_nil u h)
Contains_any (v ∷ vs) u h =
    ⊎_elim
    (λ (e : v ≡ u). or_left (v == u) (list_any (λ v. v == u) vs) (eq-eqb v u e))
    (λ (i : Contains vs u). or_right (v == u) (list_any (λ v. v == u) vs) (Contains_any vs u i))
    (Contains-cases v u vs h)
