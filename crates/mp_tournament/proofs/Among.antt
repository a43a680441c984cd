-- The first among some wakes: of a longer list, and as the one wake that comes no later than each.
use Rattle.std.proofs.Common.{◌≡◌, ◌++◌, ◌∷◌, [], ℕ, List, Option, None, Some, Contains, refl, sym, ◌∙◌, ap, subst, ⊎_elim}
use Rattle.mp_postdated.specs.Wakes.{ComesNoLater}
use Rattle.mp_postdated.proofs.Queued.{neither_later}
use Rattle.mp_job.proofs.Members.{Contains-cases, Contains-here, Contains-later, nothing_in_nil}
use Rattle.mp_tournament.specs.Firsts.{IsFirstAmong, earlier_of, first_among}
use Rattle.mp_tournament.proofs.Earlier.{comes_first, earlier-cases, earlier-none, earlier_assoc, earlier_comm}

abbrev pub Wakes : Type 0
Wakes = List (Option (ℕ × ℕ))

-- with one more wake
pub first_push : (ws : Wakes) (w : Option (ℕ × ℕ)) → first_among (ws ++ w ∷ []) ≡ earlier_of (first_among ws) w
first_push [] w = earlier-none w
first_push (v ∷ ws) w = ap (earlier_of v) (first_push ws w) ∙ sym (earlier_assoc v (first_among ws) w)

-- where there is a first wake, it is one of them
first_there : (ws : Wakes) (w : ℕ × ℕ) → first_among ws ≡ Some w → Contains ws (Some w)
first_there [] w e = absurd (cc)
first_there (v ∷ ws) w e =
    ⊎_elim
    (λ (d : earlier_of v (first_among ws) ≡ v). subst (Contains (v ∷ ws)) (sym d ∙ e) (Contains-here v ws))
    (λ (d : earlier_of v (first_among ws) ≡ first_among ws). Contains-later v (Some w) ws (first_there ws w (sym d ∙ e)))
    (earlier-cases v (first_among ws))

-- a wake beside itself
with_itself : (v first : Option (ℕ × ℕ)) → earlier_of (earlier_of v first) v ≡ earlier_of v first
with_itself v first =
    ap (λ a. earlier_of a v) (earlier_comm v first) ∙ earlier_assoc first v v ∙ ap (earlier_of first) (⊎_elim (λ (e : earlier_of v v ≡ v). e) (λ (e : earlier_of v v ≡ v). e) (earlier-cases v v)) ∙ earlier_comm first v

-- one of the wakes changes nothing beside the first
first_stays : (ws : Wakes) (w : ℕ × ℕ) → Contains ws (Some w) → earlier_of (first_among ws) (Some w) ≡ first_among ws
first_stays [] w h = absurd (nothing_in_nil (Some w) h)
first_stays (v ∷ ws) w h =
    ⊎_elim
    (λ (e : v ≡ Some w). subst (λ (x : Option (ℕ × ℕ)). earlier_of (earlier_of v (first_among ws)) x ≡ earlier_of v (first_among ws)) e (with_itself v (first_among ws)))
    (λ (i : Contains ws (Some w)). earlier_assoc v (first_among ws) (Some w) ∙ ap (earlier_of v) (first_stays ws w i))
    (Contains-cases v (Some w) ws h)

-- the first among some wakes is one of them and comes no later than each
pub first_is_among : (ws : Wakes) → IsFirstAmong ws (first_among ws)
first_is_among ws = record { there = first_there ws; least = λ w h. comes_first (first_among ws) w (first_stays ws w h) }

-- nothing else is
pub only_first : (ws : Wakes) (f g : Option (ℕ × ℕ)) → IsFirstAmong ws f → IsFirstAmong ws g → f ≡ g
only_first ws None None a b = refl
only_first ws None (Some w) a b = let l = a.least w (b.there w refl) in absurd (let e : None ≡ Some l.0 = l.1 in cc)
only_first ws (Some v) None a b = let l = b.least v (a.there v refl) in absurd (let e : None ≡ Some l.0 = l.1 in cc)
only_first ws (Some v) (Some w) a b =
    let l = a.least w (b.there w refl) in
    let m = b.least v (a.there v refl) in
    let x : l.0 ≡ v = let e : Some v ≡ Some l.0 = l.1 in cc in
    let y : m.0 ≡ w = let e : Some w ≡ Some m.0 = m.1 in cc in
    ap Some (neither_later v w (subst (λ (z : ℕ × ℕ). ComesNoLater z w) x l.2) (subst (λ (z : ℕ × ℕ). ComesNoLater z v) y m.2))

-- lists of the same wakes have the same first
pub same_first : (vs ws : Wakes) → ((w : ℕ × ℕ) → Contains vs (Some w) → Contains ws (Some w)) → ((w : ℕ × ℕ) → Contains ws (Some w) → Contains vs (Some w)) → first_among vs ≡ first_among ws
same_first vs ws to from =
    let is = first_is_among vs in
    only_first ws (first_among vs) (first_among ws) (record { there = λ w e. to w (is.there w e); least = λ w h. is.least w (from w h) }) (first_is_among ws)
