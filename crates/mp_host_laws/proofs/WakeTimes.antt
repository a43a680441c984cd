-- The times of the wakes of a packet: the job begins with them or records posted them, so there are no more of them.
use Rattle.std.proofs.Common.{◌≡◌, ◌≢◌, ℕ, zero, suc, ◌<◌, ◌≤◌, ◌==◌, ◌+◌, Bool, true, cond, not, Option, None, Some, List, [], ◌∷◌, ◌++◌, All, Contains, count_by, filter, length, map, refl, sym, ap, ◌∙◌, subst, ⊎_elim, arith}
use Rattle.std.specs.List.{flat_map, sum_by}
use Rattle.std.proofs.lemmas.Bool.{eq-eqb, eqb-true}
use Rattle.std.proofs.lemmas.List.{length-map}
use Rattle.std.proofs.lemmas.List.Elements.{All-append, All-contains, All-map, All-tail, All-weaker, Contains-append_left, Contains-append_right}
use Rattle.std.proofs.lemmas.List.Sums.{get_or-le-sum_by, length-filter}
use Rattle.mp_names.specs.declared.names.Name.{Name}
use Rattle.mp_names.specs.declared.names.Name.TheVariants.{Rec as RecName, Written}
use Rattle.mp_names.specs.Names.{In}
use Rattle.mp_names.specs.Outlines.{is_posted}
use Rattle.mp_names.proofs.Counting.{length_within}
use Rattle.mp_model.specs.declared.record.Rec.{Rec}
use Rattle.mp_model.specs.Ascending.{ascending}
use Rattle.mp_model.specs.Facts.{JobFacts, QueryFacts, SavedState, SavedWake}
use Rattle.mp_model.specs.QueryLaws.{LaterStagesPostNothing, PostsAreLater, SavedFits, WakesAreInTime}
use Rattle.mp_model.specs.Stages.{input_records, stage_records}
use Rattle.mp_model.specs.Tables.{opening_wakes}
use Rattle.mp_model.proofs.LastTimes.{IsInTime, stage_in_time}
use Rattle.mp_model.proofs.Lists.{All-ascending, All-flat_map}
use Rattle.mp_model.proofs.SavedWakes.{saved_in_time}
use Rattle.mp_names.specs.Limits.{last_time}
use Rattle.mp_job.specs.Legal.{JobIsLegal}
use Rattle.mp_job.specs.Times.{post_times_of, wake_times}
use Rattle.mp_job.proofs.Ascents.{Contains-ascending, Rises, Rises-ascending, ascending-Contains}
use Rattle.mp_job.proofs.Members.{Contains-filter, Contains-here, Contains-later, Contains-map, flat_map-Contains, map-Contains, nothing_in_nil}
use Rattle.mp_outline.specs.JobOutline.{outline_of}
use Rattle.mp_outline.proofs.Found.{found, found_there}
use Rattle.mp_outline.proofs.Named.{In_named, named_In, named_once}
use Rattle.mp_outline.proofs.Pairs.{Pairs, Pairs-Rises, Pairs-weaker}
use Rattle.mp_outline.proofs.Stages.{post_named, record_named}
use Rattle.mp_msg.specs.States.{BinContent, IsOpening, IsPostedAt, IsStateBefore}
use Rattle.mp_host_laws.specs.Hosted.{Hosted, waits_at}
use Rattle.mp_host_laws.specs.Moving.{AreNumbersOf, not_waiting}
use Rattle.mp_host_laws.proofs.Lists.{Pairs-AllPairs}

-- Lists of numbers

-- no more numbers than stand in a list that has each of them
pub no_more : (xs ys : List ℕ) → Pairs (λ x y. x ≢ y) xs → Pairs (λ x y. x ≢ y) ys → ((x : ℕ) → Contains xs x → Contains ys x) → length xs ≤ length ys
no_more xs ys once also there =
    let named : (zs : List ℕ) → Pairs (λ x y. x ≢ y) zs → Pairs (λ x y. Written x ≡ Written y → ⊥) zs = λ zs. Pairs-weaker (λ x y. x ≢ y) (λ x y. Written x ≡ Written y → ⊥) (λ x y apart same. apart (same_time x y same)) zs in
    let within = length_within (map Written xs) (map Written ys) (named_once Written xs (named xs once)) (named_once Written ys (named ys also))
    (λ n i. let a = In_named Written xs n i in subst (λ (m : Name). In m (map Written ys)) a.2 (named_In Written ys a.0 (there a.0 a.1))) in
    let a = length-map xs Written in
    let b = length-map ys Written in
    omega arith
  where
    same_time : (x y : ℕ) → Written x ≡ Written y → x ≡ y
    same_time x y e = cc

-- where each is less than all later ones none stands twice
pub rising_once : (xs : List ℕ) → Rises xs → Pairs (λ x y. x ≢ y) xs
rising_once xs rises = Pairs-weaker (λ (x y : ℕ). x < y) (λ (x y : ℕ). x ≢ y) (λ x y less same. omega arith) xs (Pairs-Rises xs rises)

-- what holds between later elements holds between what they are mapped to
Pairs-map : {X Y : Type 0} (f : X → Y) (R : Y → Y → Type 0) (xs : List X) → Pairs (λ x y. R (f x) (f y)) xs → Pairs R (map f xs)
Pairs-map f R [] h = tt
Pairs-map {X} {Y} f R (x ∷ xs) h =
    (λ y i. let a = found (λ (z : X). f z ≡ y) xs (Contains-map f xs y i) in subst (R (f x)) a.2 (h.0 a.0 a.1), Pairs-map f R xs h.1)

-- one of them passes where their count isn't 0
counted_one : {X : Type 0} (p : X → Bool) (xs : List X) → count_by p xs ≢ 0 → (x : X) × Contains xs x × (p x ≡ true)
counted_one {X} p xs some = by_kept (filter p xs) refl
  where
    by_kept : (ys : List X) → filter p xs ≡ ys → (x : X) × Contains xs x × (p x ≡ true)
    by_kept [] e = absurd (some (sym (length-filter p xs) ∙ ap length e))
    by_kept (y ∷ ys) e =
        let a = Contains-filter p xs y (subst (λ (zs : List X). Contains zs y) (sym e) (Contains-here y ys)) in
        (y, a.0, a.1)

-- a time of numbers is a time of the groups that they are of
number_has_group : (groups ns : List (ℕ × ℕ)) → AreNumbersOf groups ns → (u : ℕ) → Contains (map (λ n. n.0) ns) u → (g : ℕ × ℕ) × Contains groups g × (g.0 ≡ u)
number_has_group groups ns are u i =
    let a = found (λ (n : ℕ × ℕ). n.0 ≡ u) ns (Contains-map (λ (n : ℕ × ℕ). n.0) ns u i) in
    let n = a.0 in
    let c = a.1 in
    let f : ℕ × ℕ → ℕ = λ m. cond (m.0 == u) m.1 0 in
    let there = subst (λ (m : ℕ × ℕ). f m ≤ sum_by f ns) c.2 (get_or-le-sum_by f ns c.0 n c.1) in
    let own : f n ≡ n.1 = ap (λ (b : Bool). cond b n.1 0) (eq-eqb n.0 u a.2) in
    let some : n.1 ≢ 0 = All-contains (λ (m : ℕ × ℕ). m.1 ≢ 0) ns n are.none_is_zero c in
    let sums = are.numbers u in
    let one = counted_one (λ (g : ℕ × ℕ). g.0 == u) groups (λ e. some (omega arith)) in
    (one.0, one.1, eqb-true (one.0).0 u one.2)

-- The wakes that a stage begins with

-- none is too late
pub wakes_in_time : {Cell : Type 0} (q : QueryFacts Cell) (job : JobFacts) → JobIsLegal q job → (j : ℕ) → WakesAreInTime q j
wakes_in_time q job legal j = subst (All (λ (w : ℕ × ℕ). w.0 ≤ last_time)) (sym (legal.table.waking j)) (saved_in_time q job.from legal.saved j)

-- and only the first stage begins with wakes
no_later_wake : {Cell : Type 0} (q : QueryFacts Cell) (from : Option SavedState) → SavedFits q from → (i u k : ℕ) → Contains (opening_wakes from (suc i)) (u, k) → ⊥
no_later_wake q None fits i u k h = nothing_in_nil (u, k) h
no_later_wake q (Some saved) fits i u k h =
    let own : SavedWake → Bool = λ w. w.stage == suc i in
    let wake : SavedWake → ℕ × ℕ = λ w. (w.time, w.key) in
    let a = found (λ (w : SavedWake). wake w ≡ (u, k)) (filter own saved.wakes) (Contains-map wake (filter own saved.wakes) (u, k) h) in
    let c = Contains-filter own saved.wakes a.0 a.1 in
    let first : a.0.stage ≡ 0 = All-contains (λ (w : SavedWake). w.stage ≡ 0) saved.wakes a.0 fits.first c.0 in
    let later : a.0.stage ≡ suc i = eqb-true a.0.stage (suc i) c.1 in
    omega arith

-- The times that records post, and those of the first stage's wakes

-- numbers that rise between bounds are no more than those between them
rising_within : (low high : ℕ) (xs : List ℕ) → Rises xs → ((x : ℕ) → Contains xs x → (low ≤ x) × (x ≤ high)) → low ≤ high + 1 → low + length xs ≤ high + 1
rising_within low high [] rises inside fit = omega (arith, fit)
rising_within low high (x ∷ xs) rises inside fit =
    let here = inside x (Contains-here x xs) in
    let more = rising_within (x + 1) high xs rises.1 (λ y i. (omega (arith, rises.0 y i), (inside y (Contains-later x y xs i)).1)) (omega (arith, here.1)) in
    omega (arith, here.0, more)

-- one after the other
abbrev wake_posts : {Cell : Type 0} → QueryFacts Cell → JobFacts → List ℕ
wake_posts q job = flat_map (q.posts 0) (input_records q job.events) ++ wake_times q

-- none is too late, so they are no more than there are times
pub few_post_times : {Cell : Type 0} (q : QueryFacts Cell) → PostsAreLater q → LaterStagesPostNothing q → (job : JobFacts) → JobIsLegal q job → length (post_times_of q job.events) ≤ last_time + 1
few_post_times q later nothing job legal =
    let timely : ℕ → Type 0 = λ t. t ≤ last_time in
    let rs = input_records q job.events in
    let each = All-weaker (IsInTime q 0) (λ (r : Rec). All timely (q.posts 0 r)) (λ r h. All-tail timely r.time (q.posts 0 r) h) rs (stage_in_time q later nothing (wakes_in_time q job legal) job.events legal.events 0) in
    let begun = All-map timely (λ (w : ℕ × ℕ). w.0) (q.waking 0) (wakes_in_time q job legal 0) in
    let all = All-ascending timely (wake_posts q job) (All-append timely (flat_map (q.posts 0) rs) (wake_times q) (All-flat_map timely (q.posts 0) rs each) begun) in
    let few = rising_within 0 last_time (post_times_of q job.events) (Rises-ascending (wake_posts q job)) (λ t i. (omega arith, All-contains timely (post_times_of q job.events) t all i)) (omega arith) in
    omega (arith, few)

-- The wakes of a packet

module _ {Cell : Type 0} (q : QueryFacts Cell) (nothing : LaterStagesPostNothing q) (job : JobFacts) (legal : JobIsLegal q job) where
  -- a time that a record of a stage posts is one that records of stage 0 post, as only they do
  post_of_job : (j : ℕ) (r : Rec) (u : ℕ) → Contains (stage_records q job.events j) r → Contains (q.posts j r) u → Contains (post_times_of q job.events) u
  post_of_job zero r u here posts =
      let rs = input_records q job.events in
      let posted = flat_map-Contains (q.posts 0) rs u (found_there (λ (s : Rec). Contains (q.posts 0 s) u) rs r here posts) in
      ascending-Contains (wake_posts q job) u (Contains-append_left (flat_map (q.posts 0) rs) (wake_times q) u posted)
  post_of_job (suc i) r u here posts = absurd (nothing_in_nil u (subst (λ (us : List ℕ). Contains us u) (nothing i r) posts))

  -- and one of a wake that a stage begins with is one of stage 0's
  opening_of_job : (j u k : ℕ) → IsOpening q j k u → Contains (post_times_of q job.events) u
  opening_of_job zero u k opening =
      let begun = map-Contains (λ (w : ℕ × ℕ). w.0) (q.waking 0) u (found_there (λ (w : ℕ × ℕ). w.0 ≡ u) (q.waking 0) (u, k) opening refl) in
      ascending-Contains (wake_posts q job) u (Contains-append_right (flat_map (q.posts 0) (input_records q job.events)) (wake_times q) u begun)
  opening_of_job (suc i) u k opening =
      absurd (no_later_wake q job.from legal.saved i u k (subst (λ (ws : List (ℕ × ℕ)). Contains ws (u, k)) (legal.table.waking (suc i)) opening))

  -- which stand once each
  all_once : Pairs (λ x y. x ≢ y) (post_times_of q job.events)
  all_once = rising_once (post_times_of q job.events) (Rises-ascending (wake_posts q job))

  module _ (j b t : ℕ) (s : BinContent Cell) (state : IsStateBefore q job j b t s) where
    posted_of_job : (u v k : ℕ) → IsPostedAt q job j k v u → Contains (post_times_of q job.events) u
    posted_of_job u v k p =
        let a = record_named q job j (RecName j v k p.0) p.1 in
        post_of_job j a.0 u a.1 (post_named q nothing job j a.0 u a.1 (subst (λ (x : Name). is_posted (outline_of q job) x u ≡ true) (sym a.2) p.2))

    -- a wake is at a time that the job begins with or that a record posts
    wake_of_job : (w : ℕ × ℕ) → Contains s.wakes w → Contains (post_times_of q job.events) w.0
    wake_of_job w i =
        ⊎_elim
        (λ (c : IsOpening q j w.1 w.0). opening_of_job j w.0 w.1 c)
        (λ (c : (v : ℕ) × (v < t) × IsPostedAt q job j w.1 v w.0). posted_of_job w.0 c.0 w.1 c.2)
        ((state.wakes w.0 w.1 (state.own.wakes w.0 w.1 i)).0 i).1

    -- so they are of no more times than there are
    pub few_times : length (ascending (map (λ w. w.0) s.wakes)) ≤ length (post_times_of q job.events)
    few_times =
        let ts = map (λ (w : ℕ × ℕ). w.0) s.wakes in
        no_more (ascending ts) (post_times_of q job.events) (rising_once (ascending ts) (Rises-ascending ts)) all_once
        (λ u i. let a = found (λ (w : ℕ × ℕ). w.0 ≡ u) s.wakes (Contains-map (λ (w : ℕ × ℕ). w.0) s.wakes u (Contains-ascending ts u i)) in subst (λ (v : ℕ). Contains (post_times_of q job.events) v) a.2 (wake_of_job a.0 a.1))

    -- and there are no more numbers of groups that begin to wait
    pub few_numbers : (h : Hosted Cell) (ns : List (ℕ × ℕ)) → AreNumbersOf (not_waiting h s) ns → length ns ≤ length (post_times_of q job.events)
    few_numbers h ns are =
        let us = map (λ (n : ℕ × ℕ). n.0) ns in
        let apart = Pairs-map (λ (n : ℕ × ℕ). n.0) (λ (x y : ℕ). x ≢ y) ns (Pairs-AllPairs (λ (m n : ℕ × ℕ). m.0 ≢ n.0) ns are.once) in
        let l = length-map ns (λ (n : ℕ × ℕ). n.0) in
        let few = no_more us (post_times_of q job.events) apart all_once
        (λ u i.
        let a = number_has_group (not_waiting h s) ns are u i in
        let here = Contains-filter (λ (w : ℕ × ℕ). not (waits_at h w.0 w.1)) s.wakes a.0 a.1 in
        subst (λ (v : ℕ). Contains (post_times_of q job.events) v) a.2 (wake_of_job a.0 here.0)) in
        omega arith
