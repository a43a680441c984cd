-- Of two wakes the earlier one: in which order they are asked doesn't matter.
use Rattle.std.proofs.Common.{◌≡◌, ◌<◌, ◌≤◌, ◌⊎◌, ◌==◌, ◌&&◌, ◌||◌, ℕ, nat_lt, Option, None, Some, refl, inl, inr, arith}
use Rattle.std.proofs.lemmas.Bool.{cond_both}
use Rattle.std.proofs.lemmas.Bool.Decides.{nat_tests}
use Rattle.mp_postdated.specs.Wakes.{ComesNoLater}
use Rattle.mp_tournament.specs.Firsts.{earlier_of}

pub earlier-none : (a : Option (ℕ × ℕ)) → earlier_of a None ≡ a
earlier-none None = refl
earlier-none (Some f) = refl

turned : (a b c d : ℕ) → earlier_of (Some (a, b)) (Some (c, d)) ≡ earlier_of (Some (c, d)) (Some (a, b))
turned a b c d = grind (arith, nat_tests)

pub earlier_comm : (a b : Option (ℕ × ℕ)) → earlier_of a b ≡ earlier_of b a
earlier_comm None None = refl
earlier_comm None (Some g) = refl
earlier_comm (Some f) None = refl
earlier_comm (Some f) (Some g) = turned f.0 f.1 g.0 g.1

of_three : (a b c d e f : ℕ) → earlier_of (earlier_of (Some (a, b)) (Some (c, d))) (Some (e, f)) ≡ earlier_of (Some (a, b)) (earlier_of (Some (c, d)) (Some (e, f)))
of_three a b c d e f = grind (arith, nat_tests)

pub earlier_assoc : (a b c : Option (ℕ × ℕ)) → earlier_of (earlier_of a b) c ≡ earlier_of a (earlier_of b c)
earlier_assoc None b c = refl
earlier_assoc (Some f) None c = refl
earlier_assoc (Some f) (Some g) None = earlier-none (earlier_of (Some f) (Some g))
earlier_assoc (Some f) (Some g) (Some h) = of_three f.0 f.1 g.0 g.1 h.0 h.1

-- it is one of the two
pub earlier-cases : (a b : Option (ℕ × ℕ)) → (earlier_of a b ≡ a) ⊎ (earlier_of a b ≡ b)
earlier-cases None b = inr refl
earlier-cases (Some f) None = inl refl
earlier-cases (Some f) (Some g) = cond_both (nat_lt g.0 f.0 || g.0 == f.0 && nat_lt g.1 f.1) (Some g) (Some f) (λ w. (w ≡ Some f) ⊎ (w ≡ Some g)) (λ e. inr refl) (λ e. inl refl)

no_later : (a b c d : ℕ) → earlier_of (Some (a, b)) (Some (c, d)) ≡ Some (a, b) → (a < c) ⊎ ((a ≡ c) × (b ≤ d))
no_later a b c d e = grind (arith, nat_tests)

-- one beside which another changes nothing comes no later
pub comes_first : (a : Option (ℕ × ℕ)) (w : ℕ × ℕ) → earlier_of a (Some w) ≡ a → (v : ℕ × ℕ) × (a ≡ Some v) × ComesNoLater v w
comes_first None w e = absurd cc
comes_first (Some v) w e = (v, refl, no_later v.0 v.1 w.0 w.1 e)
