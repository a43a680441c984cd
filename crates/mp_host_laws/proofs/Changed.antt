-- A list of which one item is changed.
use Rattle.std.proofs.Common.{◌≡◌, List, [], ◌∷◌, ◌++◌, All, Any, Contains, subst, ⊎_elim}
use Rattle.std.proofs.lemmas.List.Elements.{All-append, All-cons, Contains-append_cases, Contains-append_left, Contains-append_right}
use Rattle.mp_job.proofs.Members.{Any-cases, Any-here, Any-later, Contains-cases, Contains-here, Contains-later, nothing_in_nil}
use Rattle.mp_outline.proofs.Pairs.{Pairs}
use Rattle.mp_host_laws.proofs.Lists.{All-each}

module _ {X : Type 0} where
  module _ (front : List X) (x y : X) (rest : List X) where
    -- what holds of the others and of what the one became holds of all
    pub All-changed : (P : X → Type 0) → ((z : X) → Contains front z → P z) → P y → ((z : X) → Contains rest z → P z) → All P (front ++ y ∷ rest)
    All-changed P before here after = All-append P front (y ∷ rest) (All-each P front before) (All-cons P y rest here (All-each P rest after))

    pub Contains-front : (z : X) → Contains front z → Contains (front ++ x ∷ rest) z
    Contains-front z i = Contains-append_left front (x ∷ rest) z i

    pub Contains-one : Contains (front ++ x ∷ rest) x
    Contains-one = Contains-append_right front (x ∷ rest) x (Contains-here x rest)

    pub Contains-rest : (z : X) → Contains rest z → Contains (front ++ x ∷ rest) z
    Contains-rest z i = Contains-append_right front (x ∷ rest) z (Contains-later x z rest i)

  -- what holds of some element still does
  pub Any-changed : (P : X → Type 0) (front : List X) (x y : X) (rest : List X) → (P x → P y) → Any P (front ++ x ∷ rest) → Any P (front ++ y ∷ rest)
  Any-changed P [] x y rest keep h = ⊎_elim (λ (p : P x). Any-here P y rest (keep p)) (λ (a : Any P rest). Any-later P y rest a) (Any-cases P x rest h)
  Any-changed P (z ∷ front) x y rest keep h =
      ⊎_elim
      (λ (p : P z). Any-here P z (front ++ y ∷ rest) p)
      (λ (a : Any P (front ++ x ∷ rest)). Any-later P z (front ++ y ∷ rest) (Any-changed P front x y rest keep a))
      (Any-cases P z (front ++ x ∷ rest) h)

  -- what holds between elements still does
  pub Pairs-changed : (R : X → X → Type 0) (front : List X) (x y : X) (rest : List X) → ((z : X) → R z x → R z y) → ((z : X) → R x z → R y z) → Pairs R (front ++ x ∷ rest) → Pairs R (front ++ y ∷ rest)
  Pairs-changed R [] x y rest into from h = ((λ z i. from z (h.0 z i)), h.1)
  Pairs-changed R (w ∷ front) x y rest into from h = (
    (λ z i.
        ⊎_elim
        (λ (k : Contains front z). h.0 z (Contains-front front x y rest z k))
        (λ (k : Contains (y ∷ rest) z).
        ⊎_elim
        (λ (e : y ≡ z). subst (R w) e (into w (h.0 x (Contains-one front x y rest))))
        (λ (l : Contains rest z). h.0 z (Contains-rest front x y rest z l))
        (Contains-cases y z rest k))
        (Contains-append_cases front (y ∷ rest) z i)),
    Pairs-changed R front x y rest into from h.1,
  )

  -- what holds between all elements holds between the one and each other
  pub Pairs-front : (R : X → X → Type 0) (front : List X) (x : X) (rest : List X) → Pairs R (front ++ x ∷ rest) → (z : X) → Contains front z → R z x
  Pairs-front R [] x rest h z i = absurd (nothing_in_nil z i)
  Pairs-front R (w ∷ front) x rest h z i =
      ⊎_elim
      (λ (e : w ≡ z). subst (λ (u : X). R u x) e (h.0 x (Contains-append_right front (x ∷ rest) x (Contains-here x rest))))
      (λ (k : Contains front z). Pairs-front R front x rest h.1 z k)
      (Contains-cases w z front i)

  pub Pairs-rest : (R : X → X → Type 0) (front : List X) (x : X) (rest : List X) → Pairs R (front ++ x ∷ rest) → (z : X) → Contains rest z → R x z
  Pairs-rest R [] x rest h z i = h.0 z i
  Pairs-rest R (w ∷ front) x rest h z i = Pairs-rest R front x rest h.1 z i
