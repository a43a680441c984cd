-- Which pointstamp is of which location and time.
use Rattle.std.proofs.Common.{◌≡◌, ℕ, true, false, Bool, ◌&&◌, ◌==◌, refl, sym, ap, ◌∙◌}
use Rattle.std.proofs.lemmas.Bool.{false≢true, eqb-true, eq-eqb}
use Rattle.mp_names.specs.declared.locations.Loc.{Loc}
use Rattle.mp_names.specs.declared.locations.Loc.TheVariants.{Ctl, CtlMail, Source, Route, Mail, Move, State, Host, OutRoute, OutMail}
use Rattle.mp_names.specs.declared.pointstamps.Pointstamp.{Pointstamp}
use Rattle.mp_stamps.specs.Counts.{same_loc, is_stamp}

pub same_loc-true : (a b : Loc) → same_loc a b ≡ true → a ≡ b
same_loc-true Ctl Ctl h = refl
same_loc-true CtlMail CtlMail h = refl
same_loc-true Source Source h = refl
same_loc-true (Route i) (Route j) h = ap (λ (k : ℕ). Route k) (eqb-true i j h)
same_loc-true (Mail i) (Mail j) h = ap (λ (k : ℕ). Mail k) (eqb-true i j h)
same_loc-true (Move i) (Move j) h = ap (λ (k : ℕ). Move k) (eqb-true i j h)
same_loc-true (State i) (State j) h = ap (λ (k : ℕ). State k) (eqb-true i j h)
same_loc-true (Host i) (Host j) h = ap (λ (k : ℕ). Host k) (eqb-true i j h)
same_loc-true OutRoute OutRoute h = refl
same_loc-true OutMail OutMail h = refl
same_loc-true _ _ h = absurd (false≢true h)

pub same_loc-self : (a : Loc) → same_loc a a ≡ true
same_loc-self Ctl = refl
same_loc-self CtlMail = refl
same_loc-self Source = refl
same_loc-self (Route i) = eq-eqb i i refl
same_loc-self (Mail i) = eq-eqb i i refl
same_loc-self (Move i) = eq-eqb i i refl
same_loc-self (State i) = eq-eqb i i refl
same_loc-self (Host i) = eq-eqb i i refl
same_loc-self OutRoute = refl
same_loc-self OutMail = refl

both : (p q : Bool) → (p && q) ≡ true → (p ≡ true) × (q ≡ true)
both true true h = (refl, refl)
both true false h = absurd (false≢true h)
both false q h = absurd (false≢true h)

-- the test says that location and time are the pointstamp's
pub is_stamp-true : (a : Loc) (t : ℕ) (p : Pointstamp) → is_stamp a t p ≡ true → (p.loc ≡ a) × (p.time ≡ t)
is_stamp-true a t p h = let k = both (same_loc p.loc a) (p.time == t) h in (same_loc-true p.loc a k.0, eqb-true p.time t k.1)

pub is_stamp-self : (a : Loc) (t : ℕ) (p : Pointstamp) → p.loc ≡ a → p.time ≡ t → is_stamp a t p ≡ true
is_stamp-self a t p e f = rw (e, f, same_loc-self a) (eq-eqb t t refl)

not_true : (b : Bool) → (b ≡ true → ⊥) → b ≡ false
not_true true h = absurd (h refl)
not_true false h = refl

pub is_stamp-other : (a : Loc) (t : ℕ) (p : Pointstamp) → ((p.loc ≡ a) × (p.time ≡ t) → ⊥) → is_stamp a t p ≡ false
is_stamp-other a t p h = not_true (is_stamp a t p) (λ e. h (is_stamp-true a t p e))

-- one of the two isn't the other: so the other isn't the one
pub is_stamp-turned : (p q : Pointstamp) → is_stamp p.loc p.time q ≡ false → is_stamp q.loc q.time p ≡ false
is_stamp-turned p q h = is_stamp-other q.loc q.time p (λ e. false≢true (sym h ∙ is_stamp-self p.loc p.time q (sym e.0) (sym e.1)))
