-- The states that a worker's hosts have in hand once its log is full are those of the bins that it owns at the end.
use Rattle.std.proofs.Common.{◌≡◌, ◌≢◌, ◌++◌, ◌∷◌, [], ℕ, ◌<◌, List, Some, Ok, Err, Result, zero, suc, All, AllPairs, Contains, get_or, length, map, slice_get, refl, sym, ap, ◌∙◌, subst, arith}
use Rattle.std.specs.List.{flat_map}
use Rattle.std.specs.Prelude.{IfOk, OnOk}
use Rattle.std.proofs.lemmas.List.{map-append}
use Rattle.std.proofs.lemmas.List.Elements.{All-contains, Contains-get_or}
use Rattle.std.proofs.lemmas.Option.{none-some, same_Some}
use Rattle.mp_names.specs.Logs.{Log, LogIsLegal}
use Rattle.mp_names.specs.Outlines.{owner_before}
use Rattle.mp_machine.specs.Promises.{LogIsFull}
use Rattle.mp_model.specs.Facts.{JobFacts, QueryFacts}
use Rattle.mp_job.proofs.Members.{Contains-flat_map, Contains-here, Contains-later, Contains-map, flat_map-Contains, map-Contains}
use Rattle.mp_outline.specs.JobOutline.{outline_of}
use Rattle.mp_outline.proofs.Found.{found, found_there}
use Rattle.mp_outline.proofs.Pairs.{AllPairs-Pairs, Pairs, Pairs-append, Pairs-weaker}
use Rattle.mp_msg.specs.LastStates.{AreStatesOf, end_time}
use Rattle.mp_msg.specs.States.{BinContent, IsStateBefore}
use Rattle.mp_host_laws.specs.declared.held.Held.{Held}
use Rattle.mp_host_laws.specs.Hosted.{Hosted}
use Rattle.mp_host_laws.specs.Last.{EndsWithLastStates, HasLastStates}
use Rattle.mp_host_laws.proofs.Lists.{Pairs-AllPairs}
use Rattle.mp_worker_invariant.specs.Parts.{AtEach, IsHostAt}
use Rattle.mp_worker_parts.specs.Last.{staged}

-- what follows of a value that was given, from what holds of it and what holds where one was given
pub ok_with : {X E : Type 0} (r : Result X E) (P Q : X → Type 0) (A : Type 0) → (A → (x : X) → P x → Q x) → OnOk r A → IfOk r P → IfOk r Q
ok_with (Ok x) P Q A then a p = then a x p
ok_with (Err e) P Q A then a p = tt

-- Lists

-- what stands in a list of values is the value of what stands there
at_mapped : {X Y : Type 0} (f : X → Y) (xs : List X) (i : ℕ) (y : Y) → slice_get (map f xs) i ≡ Some y → (x : X) × (slice_get xs i ≡ Some x) × (f x ≡ y)
at_mapped f [] i y e = absurd (none-some y e)
at_mapped f (x ∷ xs) zero y e = (x, refl, same_Some (f x) y e)
at_mapped f (x ∷ xs) (suc i) y e = at_mapped f xs i y e

stands_at : {X : Type 0} (xs : List X) (i : ℕ) (x : X) → slice_get xs i ≡ Some x → Contains xs x
stands_at [] i x e = absurd (none-some x e)
stands_at {X} (y ∷ ys) zero x e = subst (λ (z : X). Contains (y ∷ ys) z) (same_Some y x e) (Contains-here y ys)
stands_at (y ∷ ys) (suc i) x e = Contains-later y x ys (stands_at ys i x e)

-- the values of the values
mapped_twice : {X Y Z : Type 0} (f : X → Y) (g : Y → Z) (xs : List X) → map g (map f xs) ≡ map (λ x. g (f x)) xs
mapped_twice f g [] = refl
mapped_twice {X} {Y} {Z} f g (x ∷ xs) = ap (λ (zs : List Z). g (f x) ∷ zs) (mapped_twice f g xs)

-- what holds between later elements of a list holds between their values, where it holds of these
pairs_mapped : {X Y : Type 0} (f : X → Y) (R : Y → Y → Type 0) (xs : List X) → Pairs (λ x y. R (f x) (f y)) xs → Pairs R (map f xs)
pairs_mapped f R [] h = tt
pairs_mapped {X} f R (x ∷ xs) h =
    ((λ y i. let a = found (λ (z : X). f z ≡ y) xs (Contains-map f xs y i) in subst (R (f x)) a.2 (h.0 a.0 a.1)), pairs_mapped f R xs h.1)

-- and between the elements of lists that are joined, where it holds within each and between any two
pairs_joined : {X Y : Type 0} (f : X → List Y) (R : Y → Y → Type 0) (xs : List X) → ((x : X) → Contains xs x → Pairs R (f x)) → Pairs (λ x y. (a b : _) → Contains (f x) a → Contains (f y) b → R a b) xs → Pairs R (flat_map f xs)
pairs_joined f R [] within between = tt
pairs_joined {X} {Y} f R (x ∷ xs) within between =
    Pairs-append R (f x) (flat_map f xs) (within x (Contains-here x xs)) (pairs_joined f R xs (λ y i. within y (Contains-later x y xs i)) between.1)
    (λ a b i j. let r = found (λ (y : X). Contains (f y) b) xs (Contains-flat_map f xs b j) in between.0 r.0 r.1 a b i r.2)

-- All states in hand, with their stages

module _ {Cell : Type 0} where
  abbrev in_stage : Hosted Cell → List (ℕ × Held Cell)
  in_stage h = map (λ s. (h.stage, s)) h.held

  abbrev all_in_hand : List (Hosted Cell) → List (ℕ × Held Cell)
  all_in_hand hosts = flat_map in_stage hosts

  abbrev state_in : ℕ × Held Cell → ℕ × BinContent Cell
  state_in e = (e.0, e.1.state)

  abbrev bin_in : ℕ × Held Cell → ℕ × ℕ
  bin_in e = (e.0, e.1.bin)

  staged_is : (hosts : List (Hosted Cell)) → flat_map staged hosts ≡ map state_in (all_in_hand hosts)
  staged_is [] = refl
  staged_is (h ∷ hs) =
      ap (λ (xs : List (ℕ × BinContent Cell)). staged h ++ xs) (staged_is hs)
      ∙ ap (λ (xs : List (ℕ × BinContent Cell)). xs ++ map state_in (all_in_hand hs)) (sym (mapped_twice (λ s. (h.stage, s)) state_in h.held))
      ∙ sym (map-append state_in (in_stage h) (all_in_hand hs))

  -- each is in hand of a host of its stage
  host_of : (hosts : List (Hosted Cell)) (e : ℕ × Held Cell) → Contains (all_in_hand hosts) e → (h : Hosted Cell) × Contains hosts h × (h.stage ≡ e.0) × Contains h.held e.1
  host_of hosts e i =
      let a = found (λ (h : Hosted Cell). Contains (in_stage h) e) hosts (Contains-flat_map in_stage hosts e i) in
      let h = a.0 in
      let b = found (λ (s : Held Cell). ◌≡◌ {A = ℕ × Held Cell} (h.stage, s) e) h.held (Contains-map (λ s. (h.stage, s)) h.held e a.2) in
      (h, a.1, ap (λ (f : ℕ × Held Cell). f.0) b.2, subst (λ (s : Held Cell). Contains h.held s) (ap (λ (f : ℕ × Held Cell). f.1) b.2) b.1)

  in_hand_of : (hosts : List (Hosted Cell)) (h : Hosted Cell) (s : Held Cell) → Contains hosts h → Contains h.held s → Contains (all_in_hand hosts) (h.stage, s)
  in_hand_of hosts h s i k =
      flat_map-Contains in_stage hosts (h.stage, s)
      (found_there (λ (g : Hosted Cell). Contains (in_stage g) (h.stage, s)) hosts h i (map-Contains (λ r. (h.stage, r)) h.held (h.stage, s) (found_there (λ (r : Held Cell). ◌≡◌ {A = ℕ × Held Cell} (h.stage, r) (h.stage, s)) h.held s k refl)))

-- At the end

module _ {Cell : Type 0} (q : QueryFacts Cell) (job : JobFacts) (w : ℕ) (log : Log) (hosts : List (Hosted Cell))
    (all : length hosts ≡ job.shape.stages) (at : AtEach hosts (IsHostAt q job w log)) (legal : LogIsLegal (outline_of q job) w log) (full : LogIsFull (outline_of q job) w log)
    (ends : All (EndsWithLastStates q job) hosts) where
  -- each host has the last states, of its place's stage
  at_end : (h : Hosted Cell) → Contains hosts h → (h.stage < job.shape.stages) × (h.worker ≡ w) × HasLastStates q job h
  at_end h i =
      let is = subst (IsHostAt q job w log i.0) i.2 (at i.0 h i.1) in
      let l = i.1 in
      let stage = is.0 in
      let o = outline_of q job in (
        omega arith,
        is.1,
        All-contains (EndsWithLastStates q job) hosts h ends i log is.2 (subst (λ (v : ℕ). LogIsLegal o v log) (sym is.1) legal) (subst (λ (v : ℕ). LogIsFull o v log) (sym is.1) full),
      )

  abbrev bins : List (ℕ × ℕ)
  bins = map bin_in (all_in_hand hosts)

  -- each state is what its bin has then
  last_of : (e : ℕ × Held Cell) → Contains (all_in_hand hosts) e → IsStateBefore q job e.0 e.1.bin (end_time job) e.1.state
  last_of e i =
      let r = host_of hosts e i in
      let h = r.0 in
      subst (λ (j : ℕ). IsStateBefore q job j e.1.bin (end_time job) e.1.state) r.2
      (All-contains (λ (s : Held Cell). IsStateBefore q job h.stage s.bin (end_time job) s.state) h.held e.1 (at_end h r.1).2.each r.3)

  each_last : (i : ℕ) (b : ℕ × ℕ) (s : ℕ × BinContent Cell) → slice_get bins i ≡ Some b → slice_get (flat_map staged hosts) i ≡ Some s → IsStateBefore q job b.0 b.1 (end_time job) s.1
  each_last i b s at_bins at_states =
      let t = end_time job in
      let es = all_in_hand hosts in
      let x = at_mapped bin_in es i b at_bins in
      let y = at_mapped state_in es i s (subst (λ (xs : List (ℕ × BinContent Cell)). slice_get xs i ≡ Some s) (staged_is hosts) at_states) in
      let e = x.0 in
      let same = same_Some e y.0 (sym x.1 ∙ y.1) in
      let last = subst (λ (f : ℕ × Held Cell). IsStateBefore q job e.0 e.1.bin t f.1.state) same (last_of e (stands_at es i e x.1)) in
      subst (λ (c : ℕ × ℕ). IsStateBefore q job c.0 c.1 t s.1) x.2 (subst (λ (r : ℕ × BinContent Cell). IsStateBefore q job e.0 e.1.bin t r.1) y.2 last)

  abbrev IsOwned : ℕ × ℕ → Type 0
  IsOwned b = (b.0 < job.shape.stages) × (b.1 < job.shape.bins) × (owner_before (outline_of q job) b.0 b.1 (end_time job) ≡ w)

  each_owned : (b : ℕ × ℕ) → Contains bins b → IsOwned b
  each_owned b i =
      let es = all_in_hand hosts in
      let r = found (λ (e : ℕ × Held Cell). bin_in e ≡ b) es (Contains-map bin_in es b i) in
      let e = r.0 in
      let host = host_of hosts e r.1 in
      let h = host.0 in
      let a = at_end h host.1 in
      let own = (a.2.owned e.1.bin).0 (found_there (λ (s : Held Cell). s.bin ≡ e.1.bin) h.held e.1 host.3 refl) in
      subst IsOwned r.2 (subst (λ (j : ℕ). IsOwned (j, e.1.bin)) host.2 (a.0, own.0, own.1 ∙ a.1))

  item_at : {X : Type 0} (xs : List X) (i : ℕ) → i < length xs → (d : X) × Contains xs (get_or xs i d)
  item_at [] i l = absurd (omega arith)
  item_at (x ∷ xs) i l = (x, Contains-get_or (x ∷ xs) i x l)

  all_owned : (j b : ℕ) → IsOwned (j, b) → Contains bins (j, b)
  all_owned j b own =
      let o = outline_of q job in
      let l : j < length hosts = omega (arith, own.0) in
      let d = item_at hosts j l in
      let h = get_or hosts j d.0 in
      let is = at j d.0 l in
      let a = at_end h d.1 in
      let mine = ap (λ (i : ℕ). owner_before o i b (end_time job)) is.0 ∙ (own.2 ∙ sym a.1) in
      let r = found (λ (s : Held Cell). s.bin ≡ b) h.held ((a.2.owned b).1 (own.1, mine)) in
      let there : ◌≡◌ {A = ℕ × ℕ} (h.stage, r.0.bin) (j, b) = subst (λ (i : ℕ). ◌≡◌ {A = ℕ × ℕ} (h.stage, r.0.bin) (i, r.0.bin)) is.0 refl ∙ ap (λ (c : ℕ). (j, c)) r.2 in
      map-Contains bin_in (all_in_hand hosts) (j, b) (found_there (λ (e : ℕ × Held Cell). bin_in e ≡ (j, b)) (all_in_hand hosts) (h.stage, r.0) (in_hand_of hosts h r.0 d.1 r.1) there)

  stage_of : (h : Hosted Cell) (e : ℕ × Held Cell) → Contains (in_stage h) e → h.stage ≡ e.0
  stage_of h e i =
      let r = found (λ (s : Held Cell). ◌≡◌ {A = ℕ × Held Cell} (h.stage, s) e) h.held (Contains-map (λ s. (h.stage, s)) h.held e i) in
      ap (λ (f : ℕ × Held Cell). f.0) r.2

  abbrev BinsDiffer : ℕ × Held Cell → ℕ × Held Cell → Type 0
  BinsDiffer e f = bin_in e ≢ bin_in f

  -- the hosts are of different stages
  stages_differ : Pairs (λ (g h : Hosted Cell). g.stage ≢ h.stage) hosts
  stages_differ =
      Pairs-AllPairs (λ (g h : Hosted Cell). g.stage ≢ h.stage) hosts
      (λ i j d l m e. let a = (at i d (omega arith)).0 in let b = (at j d m).0 in omega (arith, a, b, e))

  each_once : AllPairs (λ a b. a ≢ b) bins
  each_once =
      AllPairs-Pairs (λ a b. a ≢ b) bins
      (pairs_mapped bin_in (λ a b. a ≢ b) (all_in_hand hosts)
      (pairs_joined in_stage BinsDiffer hosts
      (λ h i.
      pairs_mapped (λ s. (h.stage, s)) BinsDiffer h.held
      (Pairs-weaker (λ r s. r.bin ≢ s.bin) (λ r s. BinsDiffer (h.stage, r) (h.stage, s)) (λ r s n e. n (ap (λ (b : ℕ × ℕ). b.1) e)) h.held
      (Pairs-AllPairs (λ r s. r.bin ≢ s.bin) h.held (at_end h i).2.once)))
      (Pairs-weaker (λ (g h : Hosted Cell). g.stage ≢ h.stage) (λ g h. (a b : ℕ × Held Cell) → Contains (in_stage g) a → Contains (in_stage h) b → BinsDiffer a b)
      (λ g h n a b i k e. n (stage_of g a i ∙ (ap (λ (c : ℕ × ℕ). c.0) e ∙ sym (stage_of h b k)))) hosts stages_differ)))

  pub last_states : AreStatesOf q job w (flat_map staged hosts)
  last_states =
      record {
        bins = bins;
        stages = same_stages;
        each = each_last;
        owned = λ j b. (each_owned (j, b), all_owned j b);
        once = each_once;
      }
    where
      same_stages : map (λ s. s.0) (flat_map staged hosts) ≡ map (λ b. b.0) bins
      same_stages =
          ap (map (λ s. s.0)) (staged_is hosts)
          ∙ (mapped_twice state_in (λ s. s.0) (all_in_hand hosts) ∙ sym (mapped_twice bin_in (λ b. b.0) (all_in_hand hosts)))
