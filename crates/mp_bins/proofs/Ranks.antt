-- Which of two ranks comes first.
use Rattle.std.proofs.Common.{◌≡◌, ◌≤◌, ◌<◌, ◌⊎◌, ℕ, true, false, List, ◌∷◌, sym, subst, inl, inr, ⊎_elim, arith}
use Rattle.std.proofs.lemmas.Bool.{both_ways, cases_lt, false_from_ne_true}
use Rattle.mp_names.specs.Names.{IsBefore, is_before}
use Rattle.mp_names.proofs.Orders.{before_is, is_before-from, before_irreflexive, before_trans, before_connected}

pub not_before_itself : (x : List ℕ) → is_before x x ≡ false
not_before_itself x = false_from_ne_true (is_before x x) (λ e. before_irreflexive x (before_is x x e))

pub not_back : (x y : List ℕ) → is_before x y ≡ true → is_before y x ≡ false
not_back x y h = false_from_ne_true (is_before y x) (λ e. before_irreflexive x (before_trans x y x (before_is x y h) (before_is y x e)))

pub before_both : (x y z : List ℕ) → is_before x y ≡ true → is_before y z ≡ true → is_before x z ≡ true
before_both x y z h k = is_before-from x z (before_trans x y z (before_is x y h) (before_is y z k))

-- two that differ come one before the other
pub one_before : (x y : List ℕ) → (x ≡ y → ⊥) → is_before y x ≡ false → is_before x y ≡ true
one_before x y ne h =
    ⊎_elim
    (λ (e : x ≡ y). absurd (ne e))
    (λ (e : IsBefore x y ⊎ IsBefore y x). ⊎_elim (λ (f : IsBefore x y). is_before-from x y f) (λ (f : IsBefore y x). absurd (both_ways (is_before y x) h (is_before-from y x f))) e)
    (before_connected x y)

-- what doesn't come after something before z is before z
pub upto_before : (x y z : List ℕ) → is_before y x ≡ false → is_before y z ≡ true → is_before x z ≡ true
upto_before x y z h k =
    ⊎_elim
    (λ (e : x ≡ y). subst (λ (r : List ℕ). is_before r z ≡ true) (sym e) k)
    (λ (e : IsBefore x y ⊎ IsBefore y x). ⊎_elim (λ (f : IsBefore x y). before_both x y z (is_before-from x y f) k) (λ (f : IsBefore y x). absurd (both_ways (is_before y x) h (is_before-from y x f))) e)
    (before_connected x y)

pub upto_both : (x y z : List ℕ) → is_before y x ≡ false → is_before z y ≡ false → is_before z x ≡ false
upto_both x y z h k = false_from_ne_true (is_before z x) (λ e. both_ways (is_before z y) k (before_upto e))
  where
    before_upto : is_before z x ≡ true → is_before z y ≡ true
    before_upto e =
        ⊎_elim
        (λ (f : x ≡ y). subst (λ (r : List ℕ). is_before z r ≡ true) f e)
        (λ (f : IsBefore x y ⊎ IsBefore y x). ⊎_elim (λ (g : IsBefore x y). before_both z x y e (is_before-from x y g)) (λ (g : IsBefore y x). absurd (both_ways (is_before y x) h (is_before-from y x g))) f)
        (before_connected x y)

-- part by part

pub head_upto : (a x : ℕ) (ts xs : List ℕ) → is_before (x ∷ xs) (a ∷ ts) ≡ false → a ≤ x
head_upto a x ts xs h = ⊎_elim (λ (l : x < a). absurd (both_ways (is_before (x ∷ xs) (a ∷ ts)) h (is_before-from (x ∷ xs) (a ∷ ts) (inl l)))) (λ (l : a ≤ x). l) (cases_lt x a)

pub tail_upto : (a x : ℕ) (ts xs : List ℕ) → is_before (x ∷ xs) (a ∷ ts) ≡ false → x ≡ a → is_before xs ts ≡ false
tail_upto a x ts xs h e = false_from_ne_true (is_before xs ts) (λ f. both_ways (is_before (x ∷ xs) (a ∷ ts)) h (is_before-from (x ∷ xs) (a ∷ ts) (inr (e, before_is xs ts f))))

pub tail_before : (a x : ℕ) (ts xs : List ℕ) → is_before (x ∷ xs) (a ∷ ts) ≡ true → x ≡ a → is_before xs ts ≡ true
tail_before a x ts xs h e =
    ⊎_elim
    (λ (l : x < a). absurd (omega arith))
    (λ (l : (x ≡ a) × IsBefore xs ts). is_before-from xs ts l.1)
    (before_is (x ∷ xs) (a ∷ ts) h)

-- what it says of stages, bins and times that the first doesn't come after the second
pub record AreUpTo (a b c x y z : ℕ) : Type 0 where
  pub stages : a ≤ x
  pub bins : x ≤ a → b ≤ y
  pub times : x ≤ a → y ≤ b → c ≤ z

same : (m n : ℕ) → m ≤ n → n ≤ m → m ≡ n
same m n k l = omega arith

pub parts : (a b c x y z : ℕ) (ts xs : List ℕ) → is_before (x ∷ y ∷ z ∷ xs) (a ∷ b ∷ c ∷ ts) ≡ false → AreUpTo a b c x y z
parts a b c x y z ts xs h = record { stages = stages; bins = bins; times = λ e f. head_upto c z ts xs (tail_upto b y (c ∷ ts) (z ∷ xs) (rest e) (same y b f (bins e))) }
  where
    stages : a ≤ x
    stages = head_upto a x (b ∷ c ∷ ts) (y ∷ z ∷ xs) h

    rest : x ≤ a → is_before (y ∷ z ∷ xs) (b ∷ c ∷ ts) ≡ false
    rest e = tail_upto a x (b ∷ c ∷ ts) (y ∷ z ∷ xs) h (same x a e stages)

    bins : x ≤ a → b ≤ y
    bins e = head_upto b y (c ∷ ts) (z ∷ xs) (rest e)
