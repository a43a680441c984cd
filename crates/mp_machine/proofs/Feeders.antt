-- What feeds a location: the last edge of a path.
use Rattle.std.proofs.Common.{◌≡◌, ℕ, suc, ◌≤◌, ◌<◌, ◌⊎◌, refl, sym, subst, inl, inr, ⊎_elim}
use Rattle.mp_names.specs.declared.locations.Loc.{Loc}
use Rattle.mp_names.specs.declared.locations.Loc.TheVariants.{Ctl, CtlMail, Source, Route, Mail, Move, State, Host, OutRoute, OutMail}
use Rattle.mp_names.specs.Outlines.{Outline}
use Rattle.mp_names.specs.Logs.{Log}
use Rattle.mp_names.specs.Locations.{Feeds, Reaches, stays, goes}
use Rattle.mp_names.specs.Frontiers.{IsDoneBy, IsClosed}
use Rattle.mp_names.proofs.Reach.{path_from_table}

-- a path is nothing, or it has a last edge
last_edge : (a b : Loc) → Reaches a b → (a ≡ b) ⊎ ((c : Loc) × Reaches a c × Feeds c b)
last_edge a b stays = inl refl
last_edge a b (goes {b = d} f g) =
    ⊎_elim
    (λ (e : d ≡ b). inr (a, stays, subst (λ (x : Loc). Feeds a x) e f))
    (λ (r : (c : Loc) × Reaches d c × Feeds c b). inr (r.0, goes {b = d} f r.1, r.2))
    (last_edge d b g)

-- a location is closed where all is done there and each that feeds it is closed
pub closed_from_feeders : (o : Outline) (logs : ℕ → Log) (b : Loc) (t : ℕ) → ((u : ℕ) → u ≤ t → (w : ℕ) → w < o.workers → IsDoneBy o w (logs w) b u) → ((c : Loc) → Feeds c b → IsClosed o logs c t) → IsClosed o logs b t
closed_from_feeders o logs b t own feeders w l a u r h =
    ⊎_elim
    (λ (e : a ≡ b). subst (λ (c : Loc). IsDoneBy o w (logs w) c u) (sym e) (own u h w l))
    (λ (q : (c : Loc) × Reaches a c × Feeds c b). feeders q.0 q.2 w l a u q.1 h)
    (last_edge a b r)

module _ (P : Loc → Type 0) where
  pub into_ctl : (c : Loc) → Feeds c Ctl → P c
  into_ctl CtlMail f = let e = f.1 in absurd (cc)
  into_ctl (Host i) f = ⊎_elim (λ (e : Ctl ≡ Route (suc i)). absurd (cc)) (λ (e : Ctl ≡ OutRoute). absurd (cc)) f
  into_ctl OutMail f = absurd f
  into_ctl _ f = absurd (cc)

  pub into_source : (c : Loc) → Feeds c Source → P c
  into_source CtlMail f = let e = f.1 in absurd (cc)
  into_source (Host i) f = ⊎_elim (λ (e : Source ≡ Route (suc i)). absurd (cc)) (λ (e : Source ≡ OutRoute). absurd (cc)) f
  into_source OutMail f = absurd f
  into_source _ f = absurd (cc)

  pub into_ctl_mail : P Ctl → (c : Loc) → Feeds c CtlMail → P c
  into_ctl_mail p Ctl f = p
  into_ctl_mail p CtlMail f = let e = f.1 in absurd (cc)
  into_ctl_mail p (Host i) f = ⊎_elim (λ (e : CtlMail ≡ Route (suc i)). absurd (cc)) (λ (e : CtlMail ≡ OutRoute). absurd (cc)) f
  into_ctl_mail p OutMail f = absurd f
  into_ctl_mail p _ f = absurd (cc)

  pub into_route_zero : P Source → (c : Loc) → Feeds c (Route 0) → P c
  into_route_zero p Source f = p
  into_route_zero p CtlMail f = let e = f.1 in absurd (cc)
  into_route_zero p (Host i) f = ⊎_elim (λ (e : Route 0 ≡ Route (suc i)). absurd (cc)) (λ (e : Route 0 ≡ OutRoute). absurd (cc)) f
  into_route_zero p OutMail f = absurd f
  into_route_zero p _ f = absurd (cc)

  pub into_route_later : (j : ℕ) → P (Host j) → (c : Loc) → Feeds c (Route (suc j)) → P c
  into_route_later j p Source f = absurd (cc)
  into_route_later j p CtlMail f = let e = f.1 in absurd (cc)
  into_route_later j p (Host i) f = ⊎_elim (λ (e : Route (suc j) ≡ Route (suc i)). let d : j ≡ i = cc in subst (λ (n : ℕ). P (Host n)) d p) (λ (e : Route (suc j) ≡ OutRoute). absurd (cc)) f
  into_route_later j p OutMail f = absurd f
  into_route_later j p _ f = absurd (cc)

  pub into_mail : (j : ℕ) → P (Route j) → (c : Loc) → Feeds c (Mail j) → P c
  into_mail j p (Route i) f = let d : j ≡ i = cc in subst (λ (n : ℕ). P (Route n)) d p
  into_mail j p CtlMail f = let e = f.1 in absurd (cc)
  into_mail j p (Host i) f = ⊎_elim (λ (e : Mail j ≡ Route (suc i)). absurd (cc)) (λ (e : Mail j ≡ OutRoute). absurd (cc)) f
  into_mail j p OutMail f = absurd f
  into_mail j p _ f = absurd (cc)

  pub into_move : (j : ℕ) → P CtlMail → (c : Loc) → Feeds c (Move j) → P c
  into_move j p CtlMail f = p
  into_move j p (Host i) f = ⊎_elim (λ (e : Move j ≡ Route (suc i)). absurd (cc)) (λ (e : Move j ≡ OutRoute). absurd (cc)) f
  into_move j p OutMail f = absurd f
  into_move j p _ f = absurd (cc)

  pub into_state : (j : ℕ) → P (Move j) → (c : Loc) → Feeds c (State j) → P c
  into_state j p (Move i) f = let d : j ≡ i = cc in subst (λ (n : ℕ). P (Move n)) d p
  into_state j p CtlMail f = let e = f.1 in absurd (cc)
  into_state j p (Host i) f = ⊎_elim (λ (e : State j ≡ Route (suc i)). absurd (cc)) (λ (e : State j ≡ OutRoute). absurd (cc)) f
  into_state j p OutMail f = absurd f
  into_state j p _ f = absurd (cc)

  pub into_host : (j : ℕ) → P (Mail j) → P (State j) → (c : Loc) → Feeds c (Host j) → P c
  into_host j p q (Mail i) f = let d : j ≡ i = cc in subst (λ (n : ℕ). P (Mail n)) d p
  into_host j p q (State i) f = let d : j ≡ i = cc in subst (λ (n : ℕ). P (State n)) d q
  into_host j p q CtlMail f = let e = f.1 in absurd (cc)
  into_host j p q (Host i) f = ⊎_elim (λ (e : Host j ≡ Route (suc i)). absurd (cc)) (λ (e : Host j ≡ OutRoute). absurd (cc)) f
  into_host j p q OutMail f = absurd f
  into_host j p q _ f = absurd (cc)

  pub into_out_route : ((j : ℕ) → P (Host j)) → (c : Loc) → Feeds c OutRoute → P c
  into_out_route p (Host i) f = p i
  into_out_route p CtlMail f = let e = f.1 in absurd (cc)
  into_out_route p OutMail f = absurd f
  into_out_route p _ f = absurd (cc)

  pub into_out_mail : P OutRoute → (c : Loc) → Feeds c OutMail → P c
  into_out_mail p OutRoute f = p
  into_out_mail p CtlMail f = let e = f.1 in absurd (cc)
  into_out_mail p (Host i) f = ⊎_elim (λ (e : OutMail ≡ Route (suc i)). absurd (cc)) (λ (e : OutMail ≡ OutRoute). absurd (cc)) f
  into_out_mail p OutMail f = absurd f
  into_out_mail p _ f = absurd (cc)

-- every location reaches the end
pub to_the_end : (a : Loc) → Reaches a OutMail
to_the_end Ctl = path_from_table Ctl OutMail refl
to_the_end CtlMail = path_from_table CtlMail OutMail refl
to_the_end Source = path_from_table Source OutMail refl
to_the_end (Route j) = path_from_table (Route j) OutMail refl
to_the_end (Mail j) = path_from_table (Mail j) OutMail refl
to_the_end (Move j) = path_from_table (Move j) OutMail refl
to_the_end (State j) = path_from_table (State j) OutMail refl
to_the_end (Host j) = path_from_table (Host j) OutMail refl
to_the_end OutRoute = path_from_table OutRoute OutMail refl
to_the_end OutMail = path_from_table OutMail OutMail refl
