-- Frontiers that are put at their places one by one.
use Rattle.std.proofs.Common.{◌≡◌, ◌≢◌, ◌⊎◌, ℕ, ◌+◌, ◌<◌, ◌≤◌, List, length, get_or, replicate, set, sym, subst, ◌∙◌, ⊎_elim, arith, ap}
use Rattle.std.proofs.lemmas.Bool.{cases_eq, cases_lt}
use Rattle.std.proofs.lemmas.List.{get_or-replicate, get_or-set_same, get_or-set_other, get_or_past, length-replicate, length-set}
use Rattle.mp_names.specs.declared.locations.Frontier.{Frontier}
use Rattle.mp_names.specs.declared.locations.Frontier.TheVariants.{Done}
use Rattle.mp_names.specs.declared.locations.Loc.{Loc}
use Rattle.mp_names.specs.declared.locations.Loc.TheVariants.{OutRoute, OutMail}
use Rattle.mp_names.specs.Frontiers.{IsFrontierOf}
use Rattle.mp_stamps.specs.Counts.{CountTable, count_in}
use Rattle.mp_stamps.specs.Places.{place_of}
use Rattle.mp_stamps.proofs.Tables.{place_once}

-- the frontier of the location stands at its place
abbrev pub Shows : CountTable → List Frontier → Loc → Type 0
Shows cs fs at = IsFrontierOf (count_in cs) at (get_or fs (place_of at) Done)

shows_put : (cs : CountTable) (fs : List Frontier) (i : ℕ) (loc at : Loc) (f : Frontier) → i ≡ place_of loc → place_of at ≡ place_of loc → i < length fs → IsFrontierOf (count_in cs) loc f → Shows cs (set fs i f) at
shows_put cs fs i loc at f there same l found =
    let g : get_or (set fs i f) (place_of at) Done ≡ f = ap (λ (p : ℕ). get_or (set fs i f) p Done) (same ∙ sym there) ∙ get_or-set_same fs i f Done l in
    subst (λ (h : Frontier). IsFrontierOf (count_in cs) at h) (sym g) (subst (λ (a : Loc). IsFrontierOf (count_in cs) a f) (sym (place_once at loc same)) found)

shows_still : (cs : CountTable) (fs : List Frontier) (i : ℕ) (at : Loc) (f : Frontier) → place_of at ≢ i → Shows cs fs at → Shows cs (set fs i f) at
shows_still cs fs i at f other h = subst (λ (g : Frontier). IsFrontierOf (count_in cs) at g) (sym (get_or-set_other fs i (place_of at) f Done other)) h

-- the frontiers of the locations before the place are there, but for the answer's rows, whose places are 3 and 4
abbrev pub AreFound : CountTable → List Frontier → ℕ → Type 0
AreFound cs fs n = (at : Loc) → place_of at < n → (place_of at < 3) ⊎ (4 < place_of at) → Shows cs fs at

pub none_found : (cs : CountTable) (fs : List Frontier) → AreFound cs fs 0
none_found cs fs at l o = absurd (omega arith)

pub found_next : (cs : CountTable) (fs : List Frontier) (i n : ℕ) (loc : Loc) (f : Frontier) → i ≡ place_of loc → place_of loc ≡ n → n < length fs → IsFrontierOf (count_in cs) loc f → AreFound cs fs n → AreFound cs (set fs i f) (n + 1)
found_next cs fs i n loc f there here l found before at k o =
    ⊎_elim
    (λ (m : place_of at < n). shows_still cs fs i at f (λ e. absurd (omega arith)) (before at m o))
    (λ (m : n ≤ place_of at). shows_put cs fs i loc at f there (omega arith) (omega arith) found)
    (cases_lt (place_of at) n)

-- the first stage's places come after those of the answer's rows
pub found_before_stages : (cs : CountTable) (fs : List Frontier) → AreFound cs fs 3 → AreFound cs fs 5
found_before_stages cs fs h at k o = h at (⊎_elim (λ (l : place_of at < 3). l) (λ (l : 4 < place_of at). absurd (omega arith)) o) o

module _ (cs : CountTable) (fs : List Frontier) (n i j : ℕ) (out_route out_mail : Frontier) (third : i ≡ 3) (fourth : j ≡ 4) (l : 4 < length fs) (rows : IsFrontierOf (count_in cs) OutRoute out_route) (mail : IsFrontierOf (count_in cs) OutMail out_mail) (before : AreFound cs fs n) where
  pub all_found : (at : Loc) → place_of at < n → Shows cs (set (set fs i out_route) j out_mail) at
  all_found at k =
      ⊎_elim
      (λ (e : place_of at ≡ 4). shows_put cs (set fs i out_route) j OutMail at out_mail fourth e (omega (arith, fourth, length-set fs i out_route)) mail)
      (λ (n : place_of at ≢ 4).
      shows_still cs (set fs i out_route) j at out_mail (λ e. n (e ∙ fourth))
      (⊎_elim
      (λ (e : place_of at ≡ 3). shows_put cs fs i OutRoute at out_route third e (omega arith) rows)
      (λ (m : place_of at ≢ 3). shows_still cs fs i at out_route (λ e. m (e ∙ third)) (before at k (inside (place_of at) m n)))
      (cases_eq (place_of at) 3)))
      (cases_eq (place_of at) 4)
    where
      inside : (p : ℕ) → p ≢ 3 → p ≢ 4 → (p < 3) ⊎ (4 < p)
      inside p m n = grind arith

-- what is put nowhere
pub at_first_none : (n p : ℕ) → get_or (replicate n Done) p Done ≡ Done
at_first_none n p = ⊎_elim (λ (k : p < n). get_or-replicate n p Done Done k) (λ (k : n ≤ p). get_or_past (replicate n Done) p Done (omega (arith, length-replicate n Done))) (cases_lt p n)

-- no other frontier is put at a place from this one on
abbrev pub StandsFrom : List Frontier → List Frontier → ℕ → Type 0
StandsFrom old fs n = (p : ℕ) → n ≤ p → get_or fs p Done ≡ get_or old p Done

pub stands_past : (old fs : List Frontier) (i n m : ℕ) (f : Frontier) → i < m → n ≤ m → StandsFrom old fs n → StandsFrom old (set fs i f) m
stands_past old fs i n m f l k h p q = get_or-set_other fs i p f Done (λ e. absurd (omega arith)) ∙ h p (omega arith)
