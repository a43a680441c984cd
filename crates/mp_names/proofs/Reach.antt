-- What reaches what: paths of edges, and the table of them.
use Rattle.std.proofs.Common.{◌≡◌, ℕ, zero, suc, ◌+◌, ◌<◌, ◌≤◌, ◌⊎◌, true, refl, sym, subst, inl, inr, ⊎_elim, arith}
use Rattle.std.proofs.lemmas.Bool.{false≢true, eqb-true, eq-eqb, ltb-true, lt-ltb, leb-true, le-leb}
use Rattle.mp_names.specs.declared.locations.Loc.{Loc}
use Rattle.mp_names.specs.declared.locations.Loc.TheVariants.{Ctl, CtlMail, Source, Route, Mail, Move, State, Host, OutRoute, OutMail}
use Rattle.mp_names.specs.Locations.{Feeds, Reaches, stays, goes, reaches, from_host, from_mail, from_route, from_state, from_move, from_ctl_mail}

-- a path and a path are a path
pub reach_on : (a b c : Loc) → Reaches a b → Reaches b c → Reaches a c
reach_on a b c stays h = h
reach_on a b c (goes {b = d} f g) h = goes f (reach_on d b c g h)

-- edges and short paths

pub ctl-ctl_mail : Reaches Ctl CtlMail
ctl-ctl_mail = goes {b = CtlMail} refl stays

pub ctl_mail-move : (j : ℕ) → Reaches CtlMail (Move j)
ctl_mail-move j = goes {b = Move j} (j, refl) stays

pub source-route : Reaches Source (Route 0)
source-route = goes {b = Route 0} refl stays

pub route-mail : (j : ℕ) → Reaches (Route j) (Mail j)
route-mail j = goes {b = Mail j} refl stays

pub mail-host : (j : ℕ) → Reaches (Mail j) (Host j)
mail-host j = goes {b = Host j} refl stays

pub move-state : (j : ℕ) → Reaches (Move j) (State j)
move-state j = goes {b = State j} refl stays

pub state-host : (j : ℕ) → Reaches (State j) (Host j)
state-host j = goes {b = Host j} refl stays

pub move-host : (j : ℕ) → Reaches (Move j) (Host j)
move-host j = goes {b = State j} refl (state-host j)

pub ctl_mail-host : (j : ℕ) → Reaches CtlMail (Host j)
ctl_mail-host j = goes {b = Move j} (j, refl) (move-host j)

pub host-route : (j : ℕ) → Reaches (Host j) (Route (suc j))
host-route j = goes {b = Route (suc j)} (inl refl) stays

pub host-out_route : (j : ℕ) → Reaches (Host j) OutRoute
host-out_route j = goes {b = OutRoute} (inr refl) stays

pub out_route-out_mail : Reaches OutRoute OutMail
out_route-out_mail = goes {b = OutMail} refl stays

-- an edge before what the table says is what the table says

more_host : (i j : ℕ) (c : Loc) → i < j → from_route j c ≡ true → from_host i c ≡ true
more_host i j (Route k) l h = lt-ltb i k (let m = leb-true j k h in omega arith)
more_host i j (Mail k) l h = lt-ltb i k (let m = leb-true j k h in omega arith)
more_host i j (Host k) l h = le-leb i k (let m = leb-true j k h in omega arith)
more_host i j OutRoute l h = refl
more_host i j OutMail l h = refl
more_host i j _ l h = absurd (false≢true h)

host_mail : (j : ℕ) (c : Loc) → from_host j c ≡ true → from_mail j c ≡ true
host_mail j (Route k) h = h
host_mail j (Mail k) h = le-leb j k (let m = ltb-true j k h in omega arith)
host_mail j (Host k) h = h
host_mail j OutRoute h = refl
host_mail j OutMail h = refl
host_mail j _ h = absurd (false≢true h)

mail_route : (j : ℕ) (c : Loc) → from_mail j c ≡ true → from_route j c ≡ true
mail_route j (Route k) h = le-leb j k (let m = ltb-true j k h in omega arith)
mail_route j (Mail k) h = h
mail_route j (Host k) h = h
mail_route j OutRoute h = refl
mail_route j OutMail h = refl
mail_route j _ h = absurd (false≢true h)

host_state : (j : ℕ) (c : Loc) → from_host j c ≡ true → from_state j c ≡ true
host_state j (Route k) h = h
host_state j (Mail k) h = h
host_state j (Host k) h = h
host_state j OutRoute h = refl
host_state j OutMail h = refl
host_state j _ h = absurd (false≢true h)

state_move : (j : ℕ) (c : Loc) → from_state j c ≡ true → from_move j c ≡ true
state_move j (Route k) h = h
state_move j (Mail k) h = h
state_move j (State k) h = h
state_move j (Host k) h = h
state_move j OutRoute h = refl
state_move j OutMail h = refl
state_move j _ h = absurd (false≢true h)

move_ctl_mail : (j : ℕ) (c : Loc) → from_move j c ≡ true → from_ctl_mail c ≡ true
move_ctl_mail j (Route k) h = lt-ltb 0 k (let m = ltb-true j k h in omega arith)
move_ctl_mail j (Mail k) h = lt-ltb 0 k (let m = ltb-true j k h in omega arith)
move_ctl_mail j (Move k) h = refl
move_ctl_mail j (State k) h = refl
move_ctl_mail j (Host k) h = refl
move_ctl_mail j OutRoute h = refl
move_ctl_mail j OutMail h = refl
move_ctl_mail j _ h = absurd (false≢true h)

ctl_mail_ctl : (c : Loc) → from_ctl_mail c ≡ true → reaches Ctl c ≡ true
ctl_mail_ctl Ctl h = refl
ctl_mail_ctl CtlMail h = h
ctl_mail_ctl Source h = h
ctl_mail_ctl (Route k) h = h
ctl_mail_ctl (Mail k) h = h
ctl_mail_ctl (Move k) h = h
ctl_mail_ctl (State k) h = h
ctl_mail_ctl (Host k) h = h
ctl_mail_ctl OutRoute h = h
ctl_mail_ctl OutMail h = h

route_source : (c : Loc) → from_route 0 c ≡ true → reaches Source c ≡ true
route_source Source h = refl
route_source (Route k) h = h
route_source (Mail k) h = h
route_source (Host k) h = h
route_source OutRoute h = h
route_source OutMail h = h
route_source _ h = absurd (false≢true h)

out_host : (j : ℕ) (c : Loc) → reaches OutRoute c ≡ true → from_host j c ≡ true
out_host j OutRoute h = refl
out_host j OutMail h = refl
out_host j _ h = absurd (false≢true h)

mail_out : (c : Loc) → reaches OutMail c ≡ true → reaches OutRoute c ≡ true
mail_out OutMail h = refl
mail_out _ h = absurd (false≢true h)

at_loc : (b d c : Loc) → b ≡ d → reaches b c ≡ true → reaches d c ≡ true
at_loc b d c e h = subst (λ (x : Loc). reaches x c ≡ true) e h

edge_table : (a b c : Loc) → Feeds a b → reaches b c ≡ true → reaches a c ≡ true
edge_table Ctl b c f h = ctl_mail_ctl c (at_loc b CtlMail c f h)
edge_table CtlMail b c f h = move_ctl_mail f.0 c (at_loc b (Move f.0) c f.1 h)
edge_table Source b c f h = route_source c (at_loc b (Route 0) c f h)
edge_table (Route j) b c f h = mail_route j c (at_loc b (Mail j) c f h)
edge_table (Mail j) b c f h = host_mail j c (at_loc b (Host j) c f h)
edge_table (Move j) b c f h = state_move j c (at_loc b (State j) c f h)
edge_table (State j) b c f h = host_state j c (at_loc b (Host j) c f h)
edge_table (Host j) b c f h =
    ⊎_elim (λ (e : b ≡ Route (suc j)). more_host j (suc j) c (omega arith) (at_loc b (Route (suc j)) c e h)) (λ (e : b ≡ OutRoute). out_host j c (at_loc b OutRoute c e h)) f
edge_table OutRoute b c f h = mail_out c (at_loc b OutMail c f h)
edge_table OutMail b c f h = absurd f

at_once : (a : Loc) → reaches a a ≡ true
at_once Ctl = refl
at_once CtlMail = refl
at_once Source = refl
at_once (Route j) = le-leb j j (omega arith)
at_once (Mail j) = le-leb j j (omega arith)
at_once (Move j) = eq-eqb j j refl
at_once (State j) = eq-eqb j j refl
at_once (Host j) = le-leb j j (omega arith)
at_once OutRoute = refl
at_once OutMail = refl

pub table_from_path : (a b : Loc) → Reaches a b → reaches a b ≡ true
table_from_path a b stays = at_once a
table_from_path a b (goes {b = c} f g) = edge_table a c b f (table_from_path c b g)

-- what the table says has a path

host_host : (i n j : ℕ) → i + n ≡ j → Reaches (Host i) (Host j)
host_host i zero j e = subst (λ (k : ℕ). Reaches (Host i) (Host k)) (let f : i ≡ j = omega arith in f) stays
host_host i (suc n) j e =
    let rest = host_host (suc i) n j (omega arith) in
    goes {b = Route (suc i)} (inl refl) (goes {b = Mail (suc i)} refl (goes {b = Host (suc i)} refl rest))

up_to : (i j : ℕ) → i ≤ j → (n : ℕ) × (i + n ≡ j)
up_to i zero h = (0, omega arith)
up_to i (suc j) h =
    ⊎_elim (λ (k : i ≤ j). let r = up_to i j k in let e = r.1 in (suc r.0, omega arith)) (λ (e : i ≡ suc j). (0, omega arith)) (split i j h)
  where
    split : (i j : ℕ) → i ≤ suc j → (i ≤ j) ⊎ (i ≡ suc j)
    split i j h = grind arith

host_to_host : (i j : ℕ) → i ≤ j → Reaches (Host i) (Host j)
host_to_host i j h = let r = up_to i j h in host_host i r.0 j r.1

host_to_route : (i j : ℕ) → i < j → Reaches (Host i) (Route j)
host_to_route i zero h = absurd (omega arith)
host_to_route i (suc j) h = reach_on (Host i) (Host j) (Route (suc j)) (host_to_host i j (omega arith)) (host-route j)

host_path : (j : ℕ) (b : Loc) → from_host j b ≡ true → Reaches (Host j) b
host_path j (Route i) h = host_to_route j i (ltb-true j i h)
host_path j (Mail i) h = reach_on (Host j) (Route i) (Mail i) (host_to_route j i (ltb-true j i h)) (route-mail i)
host_path j (Host i) h = host_to_host j i (leb-true j i h)
host_path j OutRoute h = host-out_route j
host_path j OutMail h = reach_on (Host j) OutRoute OutMail (host-out_route j) out_route-out_mail
host_path j _ h = absurd (false≢true h)

same_or_below : (j i : ℕ) → j ≤ i → (j ≡ i) ⊎ (j < i)
same_or_below j i h = grind arith

mail_path : (j : ℕ) (b : Loc) → from_mail j b ≡ true → Reaches (Mail j) b
mail_path j (Mail i) h =
    ⊎_elim
    (λ (e : j ≡ i). subst (λ (k : ℕ). Reaches (Mail j) (Mail k)) e stays)
    (λ (l : j < i). reach_on (Mail j) (Host j) (Mail i) (mail-host j) (host_path j (Mail i) (lt-ltb j i l)))
    (same_or_below j i (leb-true j i h))
mail_path j (Route i) h = reach_on (Mail j) (Host j) (Route i) (mail-host j) (host_path j (Route i) h)
mail_path j (Host i) h = reach_on (Mail j) (Host j) (Host i) (mail-host j) (host_path j (Host i) h)
mail_path j OutRoute h = reach_on (Mail j) (Host j) OutRoute (mail-host j) (host_path j OutRoute h)
mail_path j OutMail h = reach_on (Mail j) (Host j) OutMail (mail-host j) (host_path j OutMail h)
mail_path j _ h = absurd (false≢true h)

route_path : (j : ℕ) (b : Loc) → from_route j b ≡ true → Reaches (Route j) b
route_path j (Route i) h =
    ⊎_elim
    (λ (e : j ≡ i). subst (λ (k : ℕ). Reaches (Route j) (Route k)) e stays)
    (λ (l : j < i). reach_on (Route j) (Mail j) (Route i) (route-mail j) (mail_path j (Route i) (lt-ltb j i l)))
    (same_or_below j i (leb-true j i h))
route_path j (Mail i) h = reach_on (Route j) (Mail j) (Mail i) (route-mail j) (mail_path j (Mail i) h)
route_path j (Host i) h = reach_on (Route j) (Mail j) (Host i) (route-mail j) (mail_path j (Host i) h)
route_path j OutRoute h = reach_on (Route j) (Mail j) OutRoute (route-mail j) (mail_path j OutRoute h)
route_path j OutMail h = reach_on (Route j) (Mail j) OutMail (route-mail j) (mail_path j OutMail h)
route_path j _ h = absurd (false≢true h)

state_path : (j : ℕ) (b : Loc) → from_state j b ≡ true → Reaches (State j) b
state_path j (State i) h = subst (λ (k : ℕ). Reaches (State j) (State k)) (sym (eqb-true i j h)) stays
state_path j (Route i) h = reach_on (State j) (Host j) (Route i) (state-host j) (host_path j (Route i) h)
state_path j (Mail i) h = reach_on (State j) (Host j) (Mail i) (state-host j) (host_path j (Mail i) h)
state_path j (Host i) h = reach_on (State j) (Host j) (Host i) (state-host j) (host_path j (Host i) h)
state_path j OutRoute h = reach_on (State j) (Host j) OutRoute (state-host j) (host_path j OutRoute h)
state_path j OutMail h = reach_on (State j) (Host j) OutMail (state-host j) (host_path j OutMail h)
state_path j _ h = absurd (false≢true h)

move_path : (j : ℕ) (b : Loc) → from_move j b ≡ true → Reaches (Move j) b
move_path j (Move i) h = subst (λ (k : ℕ). Reaches (Move j) (Move k)) (sym (eqb-true i j h)) stays
move_path j (Route i) h = reach_on (Move j) (State j) (Route i) (move-state j) (state_path j (Route i) h)
move_path j (Mail i) h = reach_on (Move j) (State j) (Mail i) (move-state j) (state_path j (Mail i) h)
move_path j (State i) h = reach_on (Move j) (State j) (State i) (move-state j) (state_path j (State i) h)
move_path j (Host i) h = reach_on (Move j) (State j) (Host i) (move-state j) (state_path j (Host i) h)
move_path j OutRoute h = reach_on (Move j) (State j) OutRoute (move-state j) (state_path j OutRoute h)
move_path j OutMail h = reach_on (Move j) (State j) OutMail (move-state j) (state_path j OutMail h)
move_path j _ h = absurd (false≢true h)

ctl_mail_path : (b : Loc) → from_ctl_mail b ≡ true → Reaches CtlMail b
ctl_mail_path CtlMail h = stays
ctl_mail_path (Move i) h = ctl_mail-move i
ctl_mail_path (State i) h = reach_on CtlMail (Move i) (State i) (ctl_mail-move i) (move-state i)
ctl_mail_path (Host i) h = ctl_mail-host i
ctl_mail_path (Route i) h = reach_on CtlMail (Host 0) (Route i) (ctl_mail-host 0) (host_path 0 (Route i) h)
ctl_mail_path (Mail i) h = reach_on CtlMail (Host 0) (Mail i) (ctl_mail-host 0) (host_path 0 (Mail i) h)
ctl_mail_path OutRoute h = reach_on CtlMail (Host 0) OutRoute (ctl_mail-host 0) (host_path 0 OutRoute h)
ctl_mail_path OutMail h = reach_on CtlMail (Host 0) OutMail (ctl_mail-host 0) (host_path 0 OutMail h)
ctl_mail_path _ h = absurd (false≢true h)

ctl_path : (b : Loc) → reaches Ctl b ≡ true → Reaches Ctl b
ctl_path Ctl h = stays
ctl_path CtlMail h = ctl-ctl_mail
ctl_path (Route i) h = reach_on Ctl CtlMail (Route i) ctl-ctl_mail (ctl_mail_path (Route i) h)
ctl_path (Mail i) h = reach_on Ctl CtlMail (Mail i) ctl-ctl_mail (ctl_mail_path (Mail i) h)
ctl_path (Move i) h = reach_on Ctl CtlMail (Move i) ctl-ctl_mail (ctl_mail_path (Move i) h)
ctl_path (State i) h = reach_on Ctl CtlMail (State i) ctl-ctl_mail (ctl_mail_path (State i) h)
ctl_path (Host i) h = reach_on Ctl CtlMail (Host i) ctl-ctl_mail (ctl_mail_path (Host i) h)
ctl_path OutRoute h = reach_on Ctl CtlMail OutRoute ctl-ctl_mail (ctl_mail_path OutRoute h)
ctl_path OutMail h = reach_on Ctl CtlMail OutMail ctl-ctl_mail (ctl_mail_path OutMail h)
ctl_path Source h = absurd (false≢true h)

source_path : (b : Loc) → reaches Source b ≡ true → Reaches Source b
source_path Source h = stays
source_path (Route i) h = reach_on Source (Route 0) (Route i) source-route (route_path 0 (Route i) h)
source_path (Mail i) h = reach_on Source (Route 0) (Mail i) source-route (route_path 0 (Mail i) h)
source_path (Host i) h = reach_on Source (Route 0) (Host i) source-route (route_path 0 (Host i) h)
source_path OutRoute h = reach_on Source (Route 0) OutRoute source-route (route_path 0 OutRoute h)
source_path OutMail h = reach_on Source (Route 0) OutMail source-route (route_path 0 OutMail h)
source_path _ h = absurd (false≢true h)

pub path_from_table : (a b : Loc) → reaches a b ≡ true → Reaches a b
path_from_table Ctl b h = ctl_path b h
path_from_table CtlMail b h = ctl_mail_path b h
path_from_table Source b h = source_path b h
path_from_table (Route j) b h = route_path j b h
path_from_table (Mail j) b h = mail_path j b h
path_from_table (Move j) b h = move_path j b h
path_from_table (State j) b h = state_path j b h
path_from_table (Host j) b h = host_path j b h
path_from_table OutRoute OutRoute h = stays
path_from_table OutRoute OutMail h = out_route-out_mail
path_from_table OutRoute _ h = absurd (false≢true h)
path_from_table OutMail OutMail h = stays
path_from_table OutMail _ h = absurd (false≢true h)
