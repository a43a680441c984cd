-- A function with another value at one place, and mailboxes with one message more or less.
use Rattle.std.proofs.Common.{◌≡◌, ℕ, ◌==◌, List, [], ◌∷◌, ◌++◌, refl, sym, ap, ◌∙◌, subst, ⊎_elim}
use Rattle.std.proofs.lemmas.Bool.{eq-eqb, ne_eqb, cond-true, cond-false, cases_eq}
use Rattle.mp_names.specs.declared.names.Name.{Name}
use Rattle.mp_machine.specs.Worlds.{put}
use Rattle.mp_machine.specs.Steps.{rest_of, pushed, popped}

pub put_here : {X : Type 0} (w v : ℕ) (x : X) (f : ℕ → X) → v ≡ w → put w x f v ≡ x
put_here w v x f e = cond-true (v == w) x (f v) (eq-eqb v w e)

pub put_other : {X : Type 0} (w v : ℕ) (x : X) (f : ℕ → X) → (v ≡ w → ⊥) → put w x f v ≡ f v
put_other w v x f e = cond-false (v == w) x (f v) (ne_eqb v w e)

-- what holds of the new value at its place, and of each old one at another, holds everywhere
pub put_all : {X : Type 0} (P : ℕ → X → Type 0) (w : ℕ) (x : X) (f : ℕ → X) → P w x → ((v : ℕ) → (v ≡ w → ⊥) → P v (f v)) → (v : ℕ) → P v (put w x f v)
put_all {X} P w x f h k v =
    ⊎_elim
    (λ (e : v ≡ w). subst (λ (y : X). P v y) (sym (put_here w v x f e)) (subst (λ (u : ℕ). P u x) (sym e) h))
    (λ (e : v ≡ w → ⊥). subst (λ (y : X). P v y) (sym (put_other w v x f e)) (k v e))
    (cases_eq v w)

-- mailboxes

pub pushed_at : (v w : ℕ) (xs : List Name) (mailbox : ℕ → ℕ → List (List Name)) → pushed v w xs mailbox v w ≡ mailbox v w ++ xs ∷ []
pushed_at v w xs mailbox =
    ap (λ (q : ℕ → List (List Name)). q w) (put_here v v (put w (mailbox v w ++ xs ∷ []) (mailbox v)) mailbox refl) ∙ put_here w w (mailbox v w ++ xs ∷ []) (mailbox v) refl

pub pushed_elsewhere : (v w : ℕ) (xs : List Name) (mailbox : ℕ → ℕ → List (List Name)) (a b : ℕ) → (a ≡ v → b ≡ w → ⊥) → pushed v w xs mailbox a b ≡ mailbox a b
pushed_elsewhere v w xs mailbox a b n =
    put_all (λ a (q : ℕ → List (List Name)). (a ≡ v → b ≡ w → ⊥) → q b ≡ mailbox a b) v (put w (mailbox v w ++ xs ∷ []) (mailbox v)) mailbox
    (λ n. put_other w b (mailbox v w ++ xs ∷ []) (mailbox v) (n refl))
    (λ u e n. refl)
    a n

pub popped_at : (v w : ℕ) (mailbox : ℕ → ℕ → List (List Name)) → popped v w mailbox v w ≡ rest_of (mailbox v w)
popped_at v w mailbox = ap (λ (q : ℕ → List (List Name)). q w) (put_here v v (put w (rest_of (mailbox v w)) (mailbox v)) mailbox refl) ∙ put_here w w (rest_of (mailbox v w)) (mailbox v) refl

pub popped_elsewhere : (v w : ℕ) (mailbox : ℕ → ℕ → List (List Name)) (a b : ℕ) → (a ≡ v → b ≡ w → ⊥) → popped v w mailbox a b ≡ mailbox a b
popped_elsewhere v w mailbox a b n =
    put_all (λ a (q : ℕ → List (List Name)). (a ≡ v → b ≡ w → ⊥) → q b ≡ mailbox a b) v (put w (rest_of (mailbox v w)) (mailbox v)) mailbox
    (λ n. put_other w b (rest_of (mailbox v w)) (mailbox v) (n refl))
    (λ u e n. refl)
    a n
