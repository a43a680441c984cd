-- How an owner changes: only at a move, and a move has a control record; and what the list of control records says.
use Rattle.std.proofs.Common.{◌≡◌, ℕ, zero, suc, ◌<◌, ◌≤◌, ◌⊎◌, Bool, true, false, cond, ◌&&◌, ◌==◌, nat_lt, List, [], ◌∷◌, length, Option, None, Some, refl, sym, ap, ◌∙◌, subst, inl, inr, ⊎_elim, arith}
use Rattle.std.specs.Option.{option_map_or}
use Rattle.std.proofs.lemmas.Bool.{cases_Bool, cases_eq, cases_lt, and_parts, false_from_ne_true, eqb-true, ltb-true, ltb-false, lt-ltb, le-ltb, both_ways}
use Rattle.mp_names.specs.declared.names.Name.{Name}
use Rattle.mp_names.specs.declared.controls.Control.{Control}
use Rattle.mp_names.specs.Names.{In}
use Rattle.mp_names.specs.Controls.{control_of, is_below, later_of, last_below, IsLastBelow}
use Rattle.mp_names.specs.Outlines.{Outline, OutlineIsSound, control_at, owner_before, owner_at, IsMove, HasControl}

-- by the worker just before each time, `b`; the owner at t is `b (suc t)`
abbrev pub Still : (ℕ → ℕ) → ℕ → ℕ → Type 0
Still b s u = (m : ℕ) → s < m → m ≤ u → (b m ≡ b (suc m) → ⊥) → ⊥

abbrev pub LastMove : (ℕ → ℕ) → ℕ → ℕ → Type 0
LastMove b s u = (m : ℕ) × (s < m) × (m ≤ u) × (b m ≡ b (suc m) → ⊥) × (b (suc m) ≡ b (suc u)) × Still b m u

last_cases : (m u : ℕ) → m ≤ suc u → (m ≤ u) ⊎ (m ≡ suc u)
last_cases m u h = grind arith

le_cases : (s u : ℕ) → s ≤ suc u → (s ≤ u) ⊎ (s ≡ suc u)
le_cases s u h = grind arith

still_more : (b : ℕ → ℕ) (s u : ℕ) → Still b s u → b (suc u) ≡ b (suc (suc u)) → Still b s (suc u)
still_more b s u h e m l k f = ⊎_elim (λ (g : m ≤ u). h m l g f) (λ (g : m ≡ suc u). f (subst (λ (v : ℕ). b v ≡ b (suc v)) (sym g) e)) (last_cases m u k)

pub last_move : (b : ℕ → ℕ) (s u : ℕ) → s ≤ u → ((b (suc s) ≡ b (suc u)) × Still b s u) ⊎ LastMove b s u
last_move b s zero h = let e : s ≡ 0 = omega arith in inl (ap (λ (v : ℕ). b (suc v)) e, (λ m l k f. omega arith))
last_move b s (suc u) h =
    ⊎_elim
    (λ (k : s ≤ u).
    ⊎_elim
    (λ (e : b (suc u) ≡ b (suc (suc u))).
    ⊎_elim
    (λ (r : (b (suc s) ≡ b (suc u)) × Still b s u). inl (r.0 ∙ e, still_more b s u r.1 e))
    (λ (r : LastMove b s u). let l = r.2 in inr (r.0, r.1, omega arith, r.3, r.4 ∙ e, still_more b r.0 u r.5 e))
    (last_move b s u k))
    (λ (e : b (suc u) ≡ b (suc (suc u)) → ⊥). inr (suc u, omega arith, omega arith, e, refl, (λ m l g f. omega arith)))
    (cases_eq (b (suc u)) (b (suc (suc u)))))
    (λ (e : s ≡ suc u). inl (ap (λ (v : ℕ). b (suc v)) e, (λ m l g f. omega arith)))
    (le_cases s u h)

-- the owner at s, who isn't the owner at u, gives the bin up between
pub leaves : (b : ℕ → ℕ) (s u : ℕ) → s ≤ u → (b (suc s) ≡ b (suc u) → ⊥) → (m : ℕ) × (s < m) × (m ≤ u) × (b m ≡ b (suc s)) × (b m ≡ b (suc m) → ⊥)
leaves b s zero h f = let e : s ≡ 0 = omega arith in absurd (f (ap (λ (v : ℕ). b (suc v)) e))
leaves b s (suc u) h f =
    ⊎_elim
    (λ (k : s ≤ u).
    ⊎_elim
    (λ (e : b (suc s) ≡ b (suc u)). (suc u, omega arith, omega arith, sym e, (λ g. f (e ∙ g))))
    (λ (e : b (suc s) ≡ b (suc u) → ⊥). let r = leaves b s u k e in let l = r.2 in (r.0, r.1, omega arith, r.3, r.4))
    (cases_eq (b (suc s)) (b (suc u))))
    (λ (e : s ≡ suc u). absurd (f (ap (λ (v : ℕ). b (suc v)) e)))
    (le_cases s u h)

-- a move has a control record of its stage, bin and time

abbrev pub HasControlOf : Outline → ℕ → ℕ → ℕ → Type 0
HasControlOf o j b t = (i : ℕ) × (i < length o.controls) × ((control_at o i).stage ≡ j) × ((control_at o i).bin ≡ b) × ((control_at o i).time ≡ t)

abbrev Found : List Control → ℕ → ℕ → ℕ → Type 0
Found cs j b t = (i : ℕ) × (i < length cs) × ((control_of cs i).stage ≡ j) × ((control_of cs i).bin ≡ b) × ((control_of cs i).time ≡ t)

same_below : (s t : ℕ) → (s ≡ t → ⊥) → nat_lt s t ≡ nat_lt s (suc t)
same_below s t h =
    ⊎_elim
    (λ (l : s < t). lt-ltb s t l ∙ sym (lt-ltb s (suc t) (omega arith)))
    (λ (l : t ≤ s). le-ltb s t l ∙ sym (le-ltb s (suc t) (ne_below s t l h)))
    (cases_lt s t)
  where
    ne_below : (s t : ℕ) → t ≤ s → (s ≡ t → ⊥) → suc t ≤ s
    ne_below s t l h = grind arith

below_same : (c : Control) (j b t : ℕ) → ((c.stage ≡ j) × (c.bin ≡ b) × (c.time ≡ t) → ⊥) → is_below j b t c ≡ is_below j b (suc t) c
below_same c j b t h =
    ⊎_elim
    (λ (e : (c.stage == j) ≡ true).
    ⊎_elim
    (λ (f : (c.bin == b) ≡ true).
    let apart = λ (g : c.time ≡ t). h (eqb-true c.stage j e, eqb-true c.bin b f, g) in
    ap (λ (x : Bool). c.stage == j && (c.bin == b && x)) (same_below c.time t apart))
    (λ (f : (c.bin == b) ≡ false). rw f)
    (cases_Bool (c.bin == b)))
    (λ (e : (c.stage == j) ≡ false). rw e)
    (cases_Bool (c.stage == j))

found_or_same : (cs : List Control) (j b t : ℕ) → Found cs j b t ⊎ (last_below cs j b t ≡ last_below cs j b (suc t))
found_or_same [] j b t = inr refl
found_or_same (c ∷ cs) j b t =
    ⊎_elim
    (λ (r : Found cs j b t). let l = r.1 in inl (suc r.0, omega arith, r.2, r.3, r.4))
    (λ (r : last_below cs j b t ≡ last_below cs j b (suc t)).
    ⊎_elim
    (λ (e : c.stage ≡ j).
    ⊎_elim
    (λ (k : c.bin ≡ b). ⊎_elim (λ (f : c.time ≡ t). inl (0, omega arith, e, k, f)) (λ (f : c.time ≡ t → ⊥). inr (more r (λ g. f g.2))) (cases_eq c.time t))
    (λ (k : c.bin ≡ b → ⊥). inr (more r (λ g. k g.1)))
    (cases_eq c.bin b))
    (λ (e : c.stage ≡ j → ⊥). inr (more r (λ g. e g.0)))
    (cases_eq c.stage j))
    (found_or_same cs j b t)
  where
    more : last_below cs j b t ≡ last_below cs j b (suc t) → ((c.stage ≡ j) × (c.bin ≡ b) × (c.time ≡ t) → ⊥) → last_below (c ∷ cs) j b t ≡ last_below (c ∷ cs) j b (suc t)
    more r h = rw (below_same c j b t h, r)

pub move_found : (o : Outline) (j b t : ℕ) → IsMove o j b t → HasControlOf o j b t
unfolding owner_before
move_found o j b t h =
    ⊎_elim
    (λ (r : Found o.controls j b t). r)
    (λ (r : last_below o.controls j b t ≡ last_below o.controls j b (suc t)). absurd (h (ap (λ (d : Option Control). option_map_or (λ c. c.worker) d (o.first_owner j b)) r)))
    (found_or_same o.controls j b t)

pub move_has_control : (o : Outline) (j b t : ℕ) → IsMove o j b t → HasControl o j t
move_has_control o j b t h = let r = move_found o j b t h in (r.0, r.1, r.2, r.4)

-- the moves below a time: none, or a last one
pub last_below_time : (b : ℕ → ℕ) (t : ℕ) → ((m : ℕ) → m < t → (b m ≡ b (suc m) → ⊥) → ⊥) ⊎ ((m : ℕ) × (m < t) × (b m ≡ b (suc m) → ⊥) × (b (suc m) ≡ b t) × ((k : ℕ) → m < k → k < t → (b k ≡ b (suc k) → ⊥) → ⊥))
last_below_time b zero = inl (λ m l f. omega arith)
last_below_time b (suc t) =
    ⊎_elim
    (λ (e : b t ≡ b (suc t)).
    ⊎_elim
    (λ (n : (m : ℕ) → m < t → (b m ≡ b (suc m) → ⊥) → ⊥). inl (λ m l f. ⊎_elim (λ (q : m < t). n m q f) (λ (q : m ≡ t). f (subst (λ (v : ℕ). b v ≡ b (suc v)) (sym q) e)) (below_one m t l)))
    (λ (r : (m : ℕ) × (m < t) × (b m ≡ b (suc m) → ⊥) × (b (suc m) ≡ b t) × ((k : ℕ) → m < k → k < t → (b k ≡ b (suc k) → ⊥) → ⊥)).
    let l = r.1 in
    inr (r.0, omega arith, r.2, r.3 ∙ e, (λ k g h f. ⊎_elim (λ (q : k < t). r.4 k g q f) (λ (q : k ≡ t). f (subst (λ (v : ℕ). b v ≡ b (suc v)) (sym q) e)) (below_one k t h))))
    (last_below_time b t))
    (λ (e : b t ≡ b (suc t) → ⊥). inr (t, omega arith, e, refl, (λ k g h f. omega arith)))
    (cases_eq (b t) (b (suc t)))
  where
    below_one : (m t : ℕ) → m < suc t → (m < t) ⊎ (m ≡ t)
    below_one m t h = grind arith

-- every owner is a worker

IsWorker : ℕ → Option Control → Type 0
IsWorker n None = Unit {0}
IsWorker n (Some c) = c.worker < n

later_worker : (n : ℕ) (c : Control) (d : Option Control) → c.worker < n → IsWorker n d → IsWorker n (later_of c d)
unfolding IsWorker
later_worker n c None h k = h
later_worker n c (Some d) h k = pick (nat_lt d.time c.time)
  where
    pick : (q : Bool) → IsWorker n (cond q (Some c) (Some d))
    pick true = h
    pick false = k

last_worker : (cs : List Control) (n j b t : ℕ) → ((i : ℕ) → i < length cs → (control_of cs i).worker < n) → IsWorker n (last_below cs j b t)
unfolding IsWorker
last_worker [] n j b t h = tt
last_worker (c ∷ cs) n j b t h = pick (is_below j b t c) (last_worker cs n j b t (λ i k. h (suc i) (omega arith)))
  where
    pick : (q : Bool) → IsWorker n (last_below cs j b t) → IsWorker n (cond q (later_of c (last_below cs j b t)) (last_below cs j b t))
    pick true k = later_worker n c (last_below cs j b t) (h 0 (omega arith)) k
    pick false k = k

worker_or : (n first : ℕ) (d : Option Control) → first < n → IsWorker n d → option_map_or (λ c. c.worker) d first < n
unfolding IsWorker
worker_or n first None h k = h
worker_or n first (Some c) h k = k

pub owner_is_worker : (o : Outline) → OutlineIsSound o → (j b t : ℕ) → j < o.stages → b < o.bins → owner_before o j b t < o.workers
unfolding owner_before
owner_is_worker o ok j b t l k =
    worker_or o.workers (o.first_owner j b) (last_below o.controls j b t) (ok.first_owners_fit j b l k) (last_worker o.controls o.workers j b t (λ i h. (ok.controls_fit i h).0))

-- a move is of a stage and a bin of the job
pub move_in_shape : (o : Outline) → OutlineIsSound o → (j b t : ℕ) → IsMove o j b t → (j < o.stages) × (b < o.bins)
move_in_shape o ok j b t h =
    let r = move_found o j b t h in
    let f = ok.controls_fit r.0 r.1 in
    (subst (λ (i : ℕ). i < o.stages) r.2 f.1, subst (λ (c : ℕ). c < o.bins) r.3 f.2)

-- what the list says, without a search

abbrev pub Said : List Control → ℕ → ℕ → ℕ → Option Control → Type 0
Said cs j b t None = (i : ℕ) → i < length cs → is_below j b t (control_of cs i) ≡ false
Said cs j b t (Some c) = (i : ℕ) × IsLastBelow cs j b t i × (control_of cs i ≡ c)

module _ (c : Control) (cs : List Control) (j b t : ℕ) where
  -- the head isn't below t
  skipped : is_below j b t c ≡ false → (d : Option Control) → Said cs j b t d → Said (c ∷ cs) j b t d
  skipped e None h = none
    where
      none : (i : ℕ) → i < length (c ∷ cs) → is_below j b t (control_of (c ∷ cs) i) ≡ false
      none zero l = e
      none (suc i) l = h i (omega arith)
  skipped e (Some d) h = (suc h.0, record { listed = let l = h.1.listed in omega arith; below = h.1.below; last = last }, h.2)
    where
      last : (k : ℕ) → k < length (c ∷ cs) → is_below j b t (control_of (c ∷ cs) k) ≡ true → ((control_of (c ∷ cs) k).time < (control_of cs h.0).time) ⊎ (((control_of (c ∷ cs) k).time ≡ (control_of cs h.0).time) × (k ≤ suc h.0))
      last zero l f = absurd (both_ways (is_below j b t c) e f)
      last (suc k) l f = ⊎_elim (λ (g : (control_of cs k).time < (control_of cs h.0).time). inl g) (λ (g : ((control_of cs k).time ≡ (control_of cs h.0).time) × (k ≤ h.0)). let m = g.1 in inr (g.0, omega arith)) (h.1.last k (omega arith) f)

  -- the head is the last
  first_is : is_below j b t c ≡ true → ((k : ℕ) → k < length cs → is_below j b t (control_of cs k) ≡ true → (control_of cs k).time < c.time) → Said (c ∷ cs) j b t (Some c)
  first_is e h = (0, record { listed = omega arith; below = e; last = last }, refl)
    where
      last : (k : ℕ) → k < length (c ∷ cs) → is_below j b t (control_of (c ∷ cs) k) ≡ true → ((control_of (c ∷ cs) k).time < c.time) ⊎ (((control_of (c ∷ cs) k).time ≡ c.time) × (k ≤ 0))
      last zero l f = inr (refl, omega arith)
      last (suc k) l f = inl (h k (omega arith) f)

  -- the head is below t, and a later one is no earlier
  later_is : (d : Control) → Said cs j b t (Some d) → c.time ≤ d.time → Said (c ∷ cs) j b t (Some d)
  later_is d h le = (suc h.0, record { listed = let l = h.1.listed in omega arith; below = h.1.below; last = last }, h.2)
    where
      last : (k : ℕ) → k < length (c ∷ cs) → is_below j b t (control_of (c ∷ cs) k) ≡ true → ((control_of (c ∷ cs) k).time < (control_of cs h.0).time) ⊎ (((control_of (c ∷ cs) k).time ≡ (control_of cs h.0).time) × (k ≤ suc h.0))
      last zero l f = split c.time (control_of cs h.0).time (suc h.0) (subst (λ (x : Control). c.time ≤ x.time) (sym h.2) le)
        where
          split : (m n k : ℕ) → m ≤ n → (m < n) ⊎ ((m ≡ n) × (0 ≤ k))
          split m n k l = grind arith
      last (suc k) l f = ⊎_elim (λ (g : (control_of cs k).time < (control_of cs h.0).time). inl g) (λ (g : ((control_of cs k).time ≡ (control_of cs h.0).time) × (k ≤ h.0)). let m = g.1 in inr (g.0, omega arith)) (h.1.last k (omega arith) f)

  taken : is_below j b t c ≡ true → (d : Option Control) → Said cs j b t d → Said (c ∷ cs) j b t (later_of c d)
  taken e None h = first_is e (λ k l f. absurd (both_ways (is_below j b t (control_of cs k)) (h k l) f))
  taken e (Some d) h = pick (nat_lt d.time c.time) refl
    where
      pick : (q : Bool) → nat_lt d.time c.time ≡ q → Said (c ∷ cs) j b t (cond q (Some c) (Some d))
      pick true g =
          let l = ltb-true d.time c.time g in
          let same : (control_of cs h.0).time ≡ d.time = ap (λ (x : Control). x.time) h.2 in
          first_is e (λ k m f. ⊎_elim (λ (n : (control_of cs k).time < (control_of cs h.0).time). omega arith) (λ (n : ((control_of cs k).time ≡ (control_of cs h.0).time) × (k ≤ h.0)). let r = n.0 in omega arith) (h.1.last k m f))
      pick false g = later_is d h (ltb-false d.time c.time g)

  chosen : (d : Option Control) → Said cs j b t d → (q : Bool) → is_below j b t c ≡ q → Said (c ∷ cs) j b t (cond q (later_of c d) d)
  chosen d h true e = taken e d h
  chosen d h false e = skipped e d h

pub said : (cs : List Control) (j b t : ℕ) → Said cs j b t (last_below cs j b t)
said [] j b t = λ i l. absurd (omega arith)
said (c ∷ cs) j b t = chosen c cs j b t (last_below cs j b t) (said cs j b t) (is_below j b t c) refl

-- the record that is last, said without a search, is the one that the search finds
last_agrees : (cs : List Control) (first j b t i : ℕ) (d : Option Control) → Said cs j b t d → IsLastBelow cs j b t i → option_map_or (λ c. c.worker) d first ≡ (control_of cs i).worker
last_agrees cs first j b t i None h l = absurd (both_ways (is_below j b t (control_of cs i)) (h i l.listed) l.below)
last_agrees cs first j b t i (Some d) h l =
    let a = l.last h.0 h.1.listed h.1.below in
    let b = h.1.last i l.listed l.below in
    let e : i ≡ h.0 = one i h.0 (control_of cs i).time (control_of cs h.0).time a b in
    sym (subst (λ (k : ℕ). (control_of cs k).worker ≡ d.worker) (sym e) (ap (λ (c : Control). c.worker) h.2))
  where
    one : (i k s t : ℕ) → (t < s) ⊎ ((t ≡ s) × (k ≤ i)) → (s < t) ⊎ ((s ≡ t) × (i ≤ k)) → i ≡ k
    one i k s t a b = omega arith

none_agrees : (cs : List Control) (first j b t : ℕ) (d : Option Control) → Said cs j b t d → ((i : ℕ) → i < length cs → is_below j b t (control_of cs i) ≡ false) → option_map_or (λ c. c.worker) d first ≡ first
none_agrees cs first j b t None h n = refl
none_agrees cs first j b t (Some d) h n = absurd (both_ways (is_below j b t (control_of cs h.0)) (n h.0 h.1.listed) h.1.below)

pub owners_follow : (o : Outline) (j b t : ℕ) → ((i : ℕ) → IsLastBelow o.controls j b t i → owner_before o j b t ≡ (control_at o i).worker) × (((i : ℕ) → i < length o.controls → is_below j b t (control_at o i) ≡ false) → owner_before o j b t ≡ o.first_owner j b)
unfolding owner_before
owners_follow o j b t = (
  (λ i l. last_agrees o.controls (o.first_owner j b) j b t i (last_below o.controls j b t) (said o.controls j b t) l),
  (λ n. none_agrees o.controls (o.first_owner j b) j b t (last_below o.controls j b t) (said o.controls j b t) n),
)

-- where a job has opening wakes, each bin is still the first owner's at 0
pub opening_owner : (o : Outline) → OutlineIsSound o → (j : ℕ) (x : Name) → In x (o.opening j) → (b : ℕ) → owner_at o j b 0 ≡ o.first_owner j b
opening_owner o ok j x h b =
    (owners_follow o j b 1).1 (λ i l.
    let later = ok.opening_first j x h i l in
    let c = control_at o i in
    false_from_ne_true (is_below j b 1 c) (λ e.
    let p = and_parts (c.stage == j) (c.bin == b && nat_lt c.time 1) e in
    let r = and_parts (c.bin == b) (nat_lt c.time 1) p.1 in
    let n : c.time < 1 = ltb-true c.time 1 r.1 in
    omega arith))
