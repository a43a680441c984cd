-- The frontier of a location from those of what comes right before it.
use Rattle.std.proofs.Common.{◌≡◌, ◌⊎◌, ℕ, zero, suc, ◌<◌, ◌≤◌, min, ℤ, pos, refl, sym, subst, inl, inr, ⊎_elim, arith}
use Rattle.std.proofs.lemmas.Bool.{cases_lt, false≢true, le-leb}
use Rattle.mp_names.specs.declared.locations.Frontier.{Frontier}
use Rattle.mp_names.specs.declared.locations.Frontier.TheVariants.{At, Done}
use Rattle.mp_names.specs.declared.locations.Loc.{Loc}
use Rattle.mp_names.specs.declared.locations.Loc.TheVariants.{Ctl, CtlMail, Source, Route, Mail, Move, State, Host, OutRoute, OutMail}
use Rattle.mp_names.specs.Frontiers.{IsFrontierOf, IsQuiet}
use Rattle.mp_names.specs.Locations.{Feeds, IsLocation, Reaches, goes, stays}
use Rattle.mp_names.proofs.Reach.{path_from_table, reach_on, table_from_path}
use Rattle.mp_stamps.specs.Counts.{CountTable, count_in}
use Rattle.mp_stamps.specs.Flow.{IsFirstTime, earlier_of, origin_of}
use Rattle.mp_stamps.specs.Places.{place_of, places_of}
use Rattle.mp_stamps.proofs.Tables.{location_placed, place_inside}

-- Least times

-- it stands at the least time that hasn't the property, if there is one
abbrev pub IsLeastNot : (ℕ → Type 0) → Frontier → Type 0
IsLeastNot P (At t) = (P t → ⊥) × ((u : ℕ) → u < t → P u)
IsLeastNot P Done = (u : ℕ) → P u

module _ (P Q R : ℕ → Type 0) (both : (t : ℕ) → P t → Q t → R t) (one : (t : ℕ) → R t → P t) (other : (t : ℕ) → R t → Q t) where
  pub least_of_both : (f g : Frontier) → IsLeastNot P f → IsLeastNot Q g → IsLeastNot R (earlier_of f g)
  least_of_both Done Done p q = λ u. both u (p u) (q u)
  least_of_both Done (At u) p q = ((λ r. q.0 (other u r)), (λ v l. both v (p v) (q.1 v l)))
  least_of_both (At t) Done p q = ((λ r. p.0 (one t r)), (λ v l. both v (p.1 v l) (q v)))
  least_of_both (At t) (At u) p q =
      ⊎_elim
      (λ (l : t < u).
      let e : min t u ≡ t = omega arith in
      subst (λ (n : ℕ). IsLeastNot R (At n)) (sym e) ((λ r. p.0 (one t r)), (λ v m. both v (p.1 v m) (q.1 v (omega arith)))))
      (λ (l : u ≤ t).
      let e : min t u ≡ u = omega arith in
      subst (λ (n : ℕ). IsLeastNot R (At n)) (sym e) ((λ r. q.0 (other u r)), (λ v m. both v (p.1 v (omega arith)) (q.1 v m))))
      (cases_lt t u)

pub from_frontier : (counts : Loc → ℕ → ℤ) (a : Loc) (f : Frontier) → IsFrontierOf counts a f → IsLeastNot (IsQuiet counts a) f
from_frontier counts a (At t) h = h
from_frontier counts a Done h = h

pub to_frontier : (counts : Loc → ℕ → ℤ) (a : Loc) (f : Frontier) → IsLeastNot (IsQuiet counts a) f → IsFrontierOf counts a f
to_frontier counts a (At t) h = h
to_frontier counts a Done h = h

pub from_first : (counts : ℕ → ℤ) (f : Frontier) → IsFirstTime counts f → IsLeastNot (λ t. counts t ≡ pos 0) f
from_first counts (At t) h = h
from_first counts Done h = h

pub least_of_same : (P R : ℕ → Type 0) (f : Frontier) → ((t : ℕ) → P t → R t) → ((t : ℕ) → R t → P t) → IsLeastNot P f → IsLeastNot R f
least_of_same P R (At t) to from h = ((λ r. h.0 (from t r)), (λ u l. to u (h.1 u l)))
least_of_same P R Done to from h = λ u. to u (h u)

-- Last edges

-- a path stays where it is, or has a last edge
last_edge : (a b : Loc) → Reaches a b → (a ≡ b) ⊎ ((c : Loc) × Reaches a c × Feeds c b)
last_edge a b stays = inl refl
last_edge a b (goes {b = d} f g) =
    ⊎_elim
    (λ (e : d ≡ b). inr (a, stays, subst (λ (x : Loc). Feeds a x) e f))
    (λ (p : (c : Loc) × Reaches d c × Feeds c b). inr (p.0, goes {b = d} f p.1, p.2))
    (last_edge d b g)

module _ (counts : Loc → ℕ → ℤ) where
  -- what comes right before is quiet, and so is the location itself
  quiet_from : (b : Loc) (t : ℕ) → ((c : Loc) → Feeds c b → IsQuiet counts c t) → counts b t ≡ pos 0 → IsQuiet counts b t
  quiet_from b t before own a r =
      ⊎_elim
      (λ (e : a ≡ b). subst (λ (x : Loc). counts x t ≡ pos 0) (sym e) own)
      (λ (p : (c : Loc) × Reaches a c × Feeds c b). before p.0 p.2 a p.1)
      (last_edge a b r)

  quiet_before : (a b : Loc) (t : ℕ) → Reaches a b → IsQuiet counts b t → IsQuiet counts a t
  quiet_before a b t r q c s = q c (reach_on c a b s r)

  pub after_none : (b : Loc) (own : Frontier) → ((c : Loc) → Feeds c b → ⊥) → IsFirstTime (counts b) own → IsFrontierOf counts b own
  after_none b own none h =
      to_frontier counts b own (least_of_same (λ t. counts b t ≡ pos 0) (IsQuiet counts b) own (λ t z. quiet_from b t (λ c f. absurd (none c f)) z) (λ t q. q b stays) (from_first (counts b) own h))

  pub after_one : (a b : Loc) (before own : Frontier) → Feeds a b → ((c : Loc) → Feeds c b → c ≡ a) → IsFrontierOf counts a before → IsFirstTime (counts b) own → IsFrontierOf counts b (earlier_of before own)
  after_one a b before own edge only h k =
      to_frontier counts b (earlier_of before own)
      (least_of_both (IsQuiet counts a) (λ t. counts b t ≡ pos 0) (IsQuiet counts b)
      (λ t q z. quiet_from b t (λ c f. subst (λ (x : Loc). IsQuiet counts x t) (sym (only c f)) q) z)
      (λ t q. quiet_before a b t (goes {b = b} edge stays) q)
      (λ t q. q b stays)
      before own (from_frontier counts a before h) (from_first (counts b) own k))

-- What comes right before each location

none_to_ctl : (c : Loc) → Feeds c Ctl → ⊥
none_to_ctl _ f = grind arith

none_to_source : (c : Loc) → Feeds c Source → ⊥
none_to_source _ f = grind arith

to_ctl_mail : (c : Loc) → Feeds c CtlMail → c ≡ Ctl
to_ctl_mail Ctl f = refl
to_ctl_mail _ f = grind arith

to_first_route : (c : Loc) → Feeds c (Route 0) → c ≡ Source
to_first_route Source f = refl
to_first_route _ f = grind arith

to_later_route : (j : ℕ) (c : Loc) → Feeds c (Route (suc j)) → c ≡ Host j
to_later_route j _ f = grind arith

to_mail : (j : ℕ) (c : Loc) → Feeds c (Mail j) → c ≡ Route j
to_mail j _ f = grind arith

to_move : (j : ℕ) (c : Loc) → Feeds c (Move j) → c ≡ CtlMail
to_move j CtlMail f = refl
to_move j _ f = grind arith

to_state : (j : ℕ) (c : Loc) → Feeds c (State j) → c ≡ Move j
to_state j _ f = grind arith

to_host : (j : ℕ) (c : Loc) → Feeds c (Host j) → (c ≡ Mail j) ⊎ (c ≡ State j)
to_host j (Mail i) f = inl (grind arith)
to_host j (State i) f = inr (grind arith)
to_host j _ f = grind arith

to_out_mail : (c : Loc) → Feeds c OutMail → c ≡ OutRoute
to_out_mail OutRoute f = refl
to_out_mail _ f = grind arith

-- Each frontier

module _ (counts : Loc → ℕ → ℤ) where
  pub at_ctl : (own : Frontier) → IsFirstTime (counts Ctl) own → IsFrontierOf counts Ctl own
  at_ctl own h = after_none counts Ctl own none_to_ctl h

  pub at_source : (own : Frontier) → IsFirstTime (counts Source) own → IsFrontierOf counts Source own
  at_source own h = after_none counts Source own none_to_source h

  after_edge : (a b : Loc) (before own f : Frontier) → Feeds a b → ((c : Loc) → Feeds c b → c ≡ a) → IsFrontierOf counts a before → IsFirstTime (counts b) own → f ≡ earlier_of before own → IsFrontierOf counts b f
  after_edge a b before own f edge only h k e = subst (λ (g : Frontier). IsFrontierOf counts b g) (sym e) (after_one counts a b before own edge only h k)

  pub at_ctl_mail : (before own f : Frontier) → IsFrontierOf counts Ctl before → IsFirstTime (counts CtlMail) own → f ≡ earlier_of before own → IsFrontierOf counts CtlMail f
  at_ctl_mail before own f h k e = after_edge Ctl CtlMail before own f refl to_ctl_mail h k e

  pub at_route : (j : ℕ) (before own f : Frontier) → IsFrontierOf counts (origin_of j) before → IsFirstTime (counts (Route j)) own → f ≡ earlier_of before own → IsFrontierOf counts (Route j) f
  at_route zero before own f h k e = after_edge Source (Route 0) before own f refl to_first_route h k e
  at_route (suc j) before own f h k e = after_edge (Host j) (Route (suc j)) before own f (inl refl) (to_later_route j) h k e

  pub at_mail : (j : ℕ) (before own f : Frontier) → IsFrontierOf counts (Route j) before → IsFirstTime (counts (Mail j)) own → f ≡ earlier_of before own → IsFrontierOf counts (Mail j) f
  at_mail j before own f h k e = after_edge (Route j) (Mail j) before own f refl (to_mail j) h k e

  pub at_move : (j : ℕ) (before own f : Frontier) → IsFrontierOf counts CtlMail before → IsFirstTime (counts (Move j)) own → f ≡ earlier_of before own → IsFrontierOf counts (Move j) f
  at_move j before own f h k e = after_edge CtlMail (Move j) before own f (j, refl) (to_move j) h k e

  pub at_state : (j : ℕ) (before own f : Frontier) → IsFrontierOf counts (Move j) before → IsFirstTime (counts (State j)) own → f ≡ earlier_of before own → IsFrontierOf counts (State j) f
  at_state j before own f h k e = after_edge (Move j) (State j) before own f refl (to_state j) h k e

  pub at_out_mail : (before own f : Frontier) → IsFrontierOf counts OutRoute before → IsFirstTime (counts OutMail) own → f ≡ earlier_of before own → IsFrontierOf counts OutMail f
  at_out_mail before own f h k e = after_edge OutRoute OutMail before own f refl to_out_mail h k e

  -- two inputs

  Inputs : Loc → Loc → ℕ → Type 0
  Inputs a b t = IsQuiet counts a t × IsQuiet counts b t

  two_inputs : (a b c : Loc) (first second own both f : Frontier) → Reaches a c → Reaches b c → ((t : ℕ) → IsQuiet counts a t → IsQuiet counts b t → counts c t ≡ pos 0 → IsQuiet counts c t) → IsFrontierOf counts a first → IsFrontierOf counts b second → IsFirstTime (counts c) own → both ≡ earlier_of first second → f ≡ earlier_of both own → IsFrontierOf counts c f
  unfolding Inputs
  two_inputs a b c first second own both f r s all h k m d e =
      let inputs : IsLeastNot (Inputs a b) (earlier_of first second) =
      least_of_both (IsQuiet counts a) (IsQuiet counts b) (Inputs a b) (λ t p q. (p, q)) (λ t q. q.0) (λ t q. q.1) first second (from_frontier counts a first h) (from_frontier counts b second k)
      in
      subst (λ (g : Frontier). IsFrontierOf counts c g) (sym e)
      (to_frontier counts c (earlier_of both own)
      (least_of_both (Inputs a b) (λ t. counts c t ≡ pos 0) (IsQuiet counts c)
      (λ t q z. all t q.0 q.1 z)
      (λ t q. (quiet_before counts a c t r q, quiet_before counts b c t s q))
      (λ t q. q c stays)
      both own
      (subst (λ (g : Frontier). IsLeastNot (Inputs a b) g) (sym d) inputs)
      (from_first (counts c) own m)))

  pub at_host : (j : ℕ) (mail state own both f : Frontier) → IsFrontierOf counts (Mail j) mail → IsFrontierOf counts (State j) state → IsFirstTime (counts (Host j)) own → both ≡ earlier_of mail state → f ≡ earlier_of both own → IsFrontierOf counts (Host j) f
  at_host j mail state own both f =
      two_inputs (Mail j) (State j) (Host j) mail state own both f (goes {b = Host j} refl stays) (goes {b = Host j} refl stays)
      (λ t p q z. quiet_from counts (Host j) t (λ c g. ⊎_elim (λ (e : c ≡ Mail j). subst (λ (x : Loc). IsQuiet counts x t) (sym e) p) (λ (e : c ≡ State j). subst (λ (x : Loc). IsQuiet counts x t) (sym e) q) (to_host j c g)) z)

-- The rows of the answer come from the hosts of every stage: where nothing is counted of later stages, from what reaches the last

near_out : (n : ℕ) (a : Loc) → Reaches a OutRoute → IsLocation n a → Reaches a CtlMail ⊎ (Reaches a (origin_of n) ⊎ (a ≡ OutRoute))
near_out n Ctl r l = inl (path_from_table Ctl CtlMail refl)
near_out n CtlMail r l = inl stays
near_out zero Source r l = inr (inl stays)
near_out (suc m) Source r l = inr (inl (path_from_table Source (Host m) (le-leb 0 m (omega arith))))
near_out zero (Route j) r l = absurd (omega arith)
near_out (suc m) (Route j) r l = inr (inl (path_from_table (Route j) (Host m) (le-leb j m (omega arith))))
near_out zero (Mail j) r l = absurd (omega arith)
near_out (suc m) (Mail j) r l = inr (inl (path_from_table (Mail j) (Host m) (le-leb j m (omega arith))))
near_out zero (Move j) r l = absurd (omega arith)
near_out (suc m) (Move j) r l = inr (inl (path_from_table (Move j) (Host m) (le-leb j m (omega arith))))
near_out zero (State j) r l = absurd (omega arith)
near_out (suc m) (State j) r l = inr (inl (path_from_table (State j) (Host m) (le-leb j m (omega arith))))
near_out zero (Host j) r l = absurd (omega arith)
near_out (suc m) (Host j) r l = inr (inl (path_from_table (Host j) (Host m) (le-leb j m (omega arith))))
near_out n OutRoute r l = inr (inr refl)
near_out n OutMail r l = absurd (false≢true (table_from_path OutMail OutRoute r))

origin_to_out : (n : ℕ) → Reaches (origin_of n) OutRoute
origin_to_out zero = path_from_table Source OutRoute refl
origin_to_out (suc j) = path_from_table (Host j) OutRoute refl

pub at_out_route :
    (table : CountTable) (kept n : ℕ) (ctl_mail origin own both f : Frontier)
    → kept ≤ n
    → ((a : Loc) (t : ℕ) → (IsLocation kept a → ⊥) → count_in table a t ≡ pos 0)
    → IsFrontierOf (count_in table) CtlMail ctl_mail
    → IsFrontierOf (count_in table) (origin_of n) origin
    → IsFirstTime (count_in table OutRoute) own
    → both ≡ earlier_of ctl_mail origin
    → f ≡ earlier_of both own
    → IsFrontierOf (count_in table) OutRoute f
at_out_route table kept n ctl_mail origin own both f few none =
    two_inputs (count_in table) CtlMail (origin_of n) OutRoute ctl_mail origin own both f (path_from_table CtlMail OutRoute refl) (origin_to_out n)
    (λ t p q z a r.
    ⊎_elim
    (λ (l : place_of a < places_of n).
    ⊎_elim
    (λ (s : Reaches a CtlMail). p a s)
    (λ (s : Reaches a (origin_of n) ⊎ (a ≡ OutRoute)).
    ⊎_elim
    (λ (s : Reaches a (origin_of n)). q a s)
    (λ (e : a ≡ OutRoute). subst (λ (x : Loc). count_in table x t ≡ pos 0) (sym e) z)
    s)
    (near_out n a r (location_placed n a l)))
    (λ (l : places_of n ≤ place_of a). none a t (λ i. let p = place_inside kept a i in absurd (omega arith)))
    (cases_lt (place_of a) (places_of n)))
