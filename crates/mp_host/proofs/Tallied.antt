-- Groups are told by numbers of their times.
use Rattle.std.proofs.Common.{◌≡◌, ◌≢◌, ℕ, ◌+◌, ◌<◌, ◌≤◌, ◌==◌, nat_lt, Bool, true, false, cond, IsPermutation, List, [], ◌∷◌, ◌++◌, All, AllPairs, Contains, count_by, filter, fold, length, sym, ap, ◌∙◌, subst, refl, append_assoc, arith}
use Rattle.std.specs.List.{sum_by}
use Rattle.std.proofs.lemmas.Bool.{eqb-true}
use Rattle.std.proofs.lemmas.List.{append-nil, length-map, length_push}
use Rattle.std.proofs.lemmas.List.Elements.{All-cons, All-head, All-nil, All-tail, All-weaker, Contains-append_left, filter-append}
use Rattle.std.proofs.lemmas.List.Sorted.{Contains-permutation, IsPermutation-sym, sum_by-IsPermutation}
use Rattle.std.proofs.lemmas.List.Sums.{fold_push, length-filter, sum_by-cons, sum_by_push}
use Rattle.mp_model.specs.Ascending.{ascending, placed}
use Rattle.mp_job.proofs.Ascents.{Contains-ascending, Rises, Rises-ascending, ascending-Contains}
use Rattle.mp_job.proofs.Members.{Contains-filter, Contains-map, map-Contains}
use Rattle.mp_outline.proofs.Found.{found, found_there}
use Rattle.mp_outline.proofs.Pairs.{AllPairs-Pairs, Pairs}
use Rattle.mp_host_laws.specs.Moving.{AreNumbersOf}
use Rattle.mp_host.proofs.Enough.{filter_length}
use Rattle.mp_host_states.specs.Numbers.{numbers_of, times, with_one}
use Rattle.mp_host.proofs.Woken.{length_within, rising_once}

-- the number of a time, or nothing
abbrev number_at : ℕ → ℕ × ℕ → ℕ
number_at t n = cond (n.0 == t) n.1 0

-- one more

one_added : (b : Bool) (m : ℕ) → cond b (m + 1) 0 ≡ cond b m 0 + cond b 1 0
one_added true m = omega arith
one_added false m = omega arith

sum_by_place : (later here : Bool) (n : ℕ × ℕ) (ns ms : List (ℕ × ℕ)) (t s : ℕ) → (t == n.0) ≡ here → sum_by (number_at s) ms ≡ sum_by (number_at s) ns + cond (t == s) 1 0
    → sum_by (number_at s) (cond later ((t, 1) ∷ n ∷ ns) (cond here ((n.0, n.1 + 1) ∷ ns) (n ∷ ms))) ≡ sum_by (number_at s) (n ∷ ns) + cond (t == s) 1 0
sum_by_place true here n ns ms t s e rest = let first = sum_by-cons (number_at s) (t, 1) (n ∷ ns) in omega arith
sum_by_place false true n ns ms t s e rest =
    let first = sum_by-cons (number_at s) (n.0, n.1 + 1) ns in
    let was = sum_by-cons (number_at s) n ns in
    let same : t ≡ n.0 = eqb-true t n.0 e in
    let one : cond (n.0 == s) (n.1 + 1) 0 ≡ cond (n.0 == s) n.1 0 + cond (t == s) 1 0 = rw same (one_added (n.0 == s) n.1) in
    omega arith
sum_by_place false false n ns ms t s e rest =
    let first = sum_by-cons (number_at s) n ms in
    let was = sum_by-cons (number_at s) n ns in
    omega arith

sum_one : (ns : List (ℕ × ℕ)) (t s : ℕ) → sum_by (number_at s) (with_one ns t) ≡ sum_by (number_at s) ns + cond (t == s) 1 0
sum_one [] t s = refl
sum_one (n ∷ ns) t s = sum_by_place (nat_lt t n.0) (t == n.0) n ns (with_one ns t) t s refl (sum_one ns t s)

-- what holds of each number holds of them with one more, where it holds of one more and of 1
module _ (P Q : ℕ → Type 0) (keep : (n : ℕ) → P n → Q n) (more : (n : ℕ) → P n → Q (n + 1)) (new : Q 1) where
  abbrev Of : (ℕ → Type 0) → ℕ × ℕ → Type 0
  Of R n = R n.1

  each_by_place : (later here : Bool) (n : ℕ × ℕ) (ns ms : List (ℕ × ℕ)) (t : ℕ) → P n.1 → All (Of Q) ns → All (Of Q) ms → All (Of Q) (cond later ((t, 1) ∷ n ∷ ns) (cond here ((n.0, n.1 + 1) ∷ ns) (n ∷ ms)))
  each_by_place true here n ns ms t p all rest = All-cons (Of Q) (t, 1) (n ∷ ns) new (All-cons (Of Q) n ns (keep n.1 p) all)
  each_by_place false true n ns ms t p all rest = All-cons (Of Q) (n.0, n.1 + 1) ns (more n.1 p) all
  each_by_place false false n ns ms t p all rest = All-cons (Of Q) n ms (keep n.1 p) rest

  each_one : (ns : List (ℕ × ℕ)) (t : ℕ) → All (Of P) ns → All (Of Q) (with_one ns t)
  each_one [] t h = All-cons (Of Q) (t, 1) [] new (All-nil (Of Q))
  each_one (n ∷ ns) t h =
      let rest = All-tail (Of P) n ns h in
      each_by_place (nat_lt t n.0) (t == n.0) n ns (with_one ns t) t (All-head (Of P) n ns h) (All-weaker (Of P) (Of Q) (λ m p. keep m.1 p) ns rest) (each_one ns t rest)

-- What numbers tell of groups
record Tells (gs ns : List (ℕ × ℕ)) : Type 0 where
  numbers : (t : ℕ) → sum_by (number_at t) ns ≡ count_by (λ g. g.0 == t) gs
  some : All (λ n. n.1 ≢ 0) ns
  few : All (λ n. n.1 ≤ length gs) ns

none_told : Tells [] []
none_told = record {
  numbers = λ t. refl;
  some = All-nil (λ (n : ℕ × ℕ). n.1 ≢ 0);
  few = All-nil (λ (n : ℕ × ℕ). n.1 ≤ 0);
}

count_push : (t : ℕ) (gs : List (ℕ × ℕ)) (w : ℕ × ℕ) → count_by (λ g. g.0 == t) (gs ++ w ∷ []) ≡ count_by (λ g. g.0 == t) gs + cond (w.0 == t) 1 0
count_push t gs w = sum_by_push (λ (g : ℕ × ℕ). cond (g.0 == t) 1 0) gs w

one_told : (gs ns : List (ℕ × ℕ)) (w : ℕ × ℕ) → Tells gs ns → Tells (gs ++ w ∷ []) (with_one ns w.0)
one_told gs ns w told =
    let longer = length_push gs w in
    record {
      numbers = λ t. sum_one ns w.0 t ∙ (ap (λ (n : ℕ). n + cond (w.0 == t) 1 0) (told.numbers t) ∙ sym (count_push t gs w));
      some = each_one (λ n. n ≢ 0) (λ n. n ≢ 0) (λ n h. h) (λ n h e. omega arith) (λ e. omega arith) ns w.0 told.some;
      few = each_one (λ n. n ≤ length gs) (λ n. n ≤ length (gs ++ w ∷ [])) (λ n h. omega arith) (λ n h. omega arith) (omega arith) ns w.0 told.few;
    }

pub numbers_push : (gs : List (ℕ × ℕ)) (w : ℕ × ℕ) → numbers_of (gs ++ w ∷ []) ≡ with_one (numbers_of gs) w.0
numbers_push gs w = fold_push (λ ns g. with_one ns g.0) [] gs w

told_on : (before gs ns : List (ℕ × ℕ)) → Tells before ns → Tells (before ++ gs) (fold (λ ms w. with_one ms w.0) ns gs)
told_on before [] ns told = rw append-nil told
told_on before (w ∷ gs) ns told =
    subst (λ (hs : List (ℕ × ℕ)). Tells hs (fold (λ ms v. with_one ms v.0) (with_one ns w.0) gs)) (append_assoc before (w ∷ []) gs)
    (told_on (before ++ w ∷ []) gs (with_one ns w.0) (one_told before ns w told))

told_all : (gs : List (ℕ × ℕ)) → Tells gs (numbers_of gs)
told_all gs = told_on [] gs [] none_told

-- their times are those of the groups, ascending and each once

times_by_place : (later here : Bool) (n : ℕ × ℕ) (ns ms : List (ℕ × ℕ)) (t : ℕ) → times ms ≡ placed (times ns) t
    → times (cond later ((t, 1) ∷ n ∷ ns) (cond here ((n.0, n.1 + 1) ∷ ns) (n ∷ ms))) ≡ cond later (t ∷ n.0 ∷ times ns) (cond here (n.0 ∷ times ns) (n.0 ∷ placed (times ns) t))
times_by_place true here n ns ms t rest = refl
times_by_place false true n ns ms t rest = refl
times_by_place false false n ns ms t rest = ap (λ (ts : List ℕ). n.0 ∷ ts) rest

times_one : (ns : List (ℕ × ℕ)) (t : ℕ) → times (with_one ns t) ≡ placed (times ns) t
times_one [] t = refl
times_one (n ∷ ns) t = times_by_place (nat_lt t n.0) (t == n.0) n ns (with_one ns t) t (times_one ns t)

times_on : (gs ns : List (ℕ × ℕ)) → times (fold (λ ms w. with_one ms w.0) ns gs) ≡ fold placed (times ns) (times gs)
times_on [] ns = refl
times_on (w ∷ gs) ns = times_on gs (with_one ns w.0) ∙ ap (λ (ts : List ℕ). fold placed ts (times gs)) (times_one ns w.0)

times_are : (gs : List (ℕ × ℕ)) → times (numbers_of gs) ≡ ascending (times gs)
times_are gs = times_on gs []

numbers_rise : (gs : List (ℕ × ℕ)) → Rises (times (numbers_of gs))
numbers_rise gs = subst Rises (sym (times_are gs)) (Rises-ascending (times gs))

by_time : (ns : List (ℕ × ℕ)) → Rises (times ns) → Pairs (λ m n. m.0 < n.0) ns
by_time [] r = tt
by_time (n ∷ ns) r = ((λ m i. r.0 m.0 (map-Contains (λ (k : ℕ × ℕ). k.0) ns m.0 (found_there (λ (k : ℕ × ℕ). k.0 ≡ m.0) ns m i refl))), by_time ns r.1)

pub numbers_by_time : (gs : List (ℕ × ℕ)) → AllPairs (λ m n. m.0 < n.0) (numbers_of gs)
numbers_by_time gs = AllPairs-Pairs (λ (m n : ℕ × ℕ). m.0 < n.0) (numbers_of gs) (by_time (numbers_of gs) (numbers_rise gs))

-- so they are the numbers of the groups
pub numbers_are : (gs : List (ℕ × ℕ)) → AreNumbersOf gs (numbers_of gs)
numbers_are gs =
    let told = told_all gs in
    record {
      numbers = told.numbers;
      once = λ i j d l m e. let less = numbers_by_time gs i j d l m in omega arith;
      none_is_zero = told.some;
    }

-- they are no more than the times of wakes that the groups are among
numbers_within : (gs ws : List (ℕ × ℕ)) → ((w : ℕ × ℕ) → Contains gs w → Contains ws w) → length (numbers_of gs) ≤ length (ascending (times ws))
numbers_within gs ws among =
    let same = length-map (numbers_of gs) (λ (n : ℕ × ℕ). n.0) in
    let within = length_within (times (numbers_of gs)) (ascending (times ws)) (rising_once (times (numbers_of gs)) (numbers_rise gs)) (λ t i. ascending-Contains (times ws) t (there t (Contains-ascending (times gs) t (subst (λ (ts : List ℕ). Contains ts t) (times_are gs) i)))) in
    omega arith
  where
    there : (t : ℕ) → Contains (times gs) t → Contains (times ws) t
    there t i =
        let a = found (λ (w : ℕ × ℕ). w.0 ≡ t) gs (Contains-map (λ (w : ℕ × ℕ). w.0) gs t i) in
        map-Contains (λ (w : ℕ × ℕ). w.0) ws t (found_there (λ (w : ℕ × ℕ). w.0 ≡ t) ws a.0 (among a.0 a.1) a.2)

-- of fewer groups than a number each number is less than it
pub numbers_below : (p : ℕ × ℕ → Bool) (ws : List (ℕ × ℕ)) (top : ℕ) → length ws < top → All (λ n. n.1 < top) (numbers_of (filter p ws))
numbers_below p ws top l =
    let told = told_all (filter p ws) in
    let kept = filter_length p ws in
    All-weaker (λ (n : ℕ × ℕ). n.1 ≤ length (filter p ws)) (λ (n : ℕ × ℕ). n.1 < top) (λ n few. omega arith) (numbers_of (filter p ws)) told.few

module _ (p : ℕ × ℕ → Bool) where
  -- one more group that passes is told
  passing_told : (ws : List (ℕ × ℕ)) (w : ℕ × ℕ) → p w ≡ true → numbers_of (filter p (ws ++ w ∷ [])) ≡ with_one (numbers_of (filter p ws)) w.0
  passing_told ws w e = ap numbers_of (filter-append p ws (w ∷ []) ∙ ap (λ b. filter p ws ++ cond b (w ∷ []) []) e) ∙ numbers_push (filter p ws) w

  -- where there is room for a number for each time of wakes there is room for the next one
  pub room_for_one : (all ws rest : List (ℕ × ℕ)) (w : ℕ × ℕ) → IsPermutation all (ws ++ w ∷ rest) → p w ≡ true → length (with_one (numbers_of (filter p ws)) w.0) ≤ length (ascending (times all))
  room_for_one all ws rest w same e =
      let more = ws ++ w ∷ [] in
      let among : (v : ℕ × ℕ) → Contains (filter p more) v → Contains all v = λ v j.
      Contains-permutation (ws ++ w ∷ rest) all v (IsPermutation-sym all (ws ++ w ∷ rest) same) (subst (λ (vs : List (ℕ × ℕ)). Contains vs v) (append_assoc ws (w ∷ []) rest) (Contains-append_left more rest v (Contains-filter p more v j).0)) in
      let within = numbers_within (filter p more) all among in
      let told = ap (λ (ns : List (ℕ × ℕ)). length ns) (passing_told ws w e) in
      omega arith

  count_filtered : (q : ℕ × ℕ → Bool) (ws : List (ℕ × ℕ)) → count_by q (filter p ws) ≡ sum_by (λ w. cond (p w) (cond (q w) 1 0) 0) ws
  count_filtered q [] = refl
  count_filtered q (w ∷ ws) =
      let rest = count_filtered q ws in
      let whole = sum_by-cons (λ (v : ℕ × ℕ). cond (p v) (cond (q v) 1 0) 0) w ws in
      by (p w) rest ∙ sym whole
    where
      by : (b : Bool) → count_by q (filter p ws) ≡ sum_by (λ v. cond (p v) (cond (q v) 1 0) 0) ws → count_by q (cond b (w ∷ filter p ws) (filter p ws)) ≡ cond b (cond (q w) 1 0) 0 + sum_by (λ v. cond (p v) (cond (q v) 1 0) 0) ws
      by true e = let first = sum_by-cons (λ (v : ℕ × ℕ). cond (q v) 1 0) w (filter p ws) in omega arith
      by false e = omega arith

  -- numbers don't tell in which order the groups came
  pub told_in_order : (all ws ns : List (ℕ × ℕ)) → IsPermutation all ws → AreNumbersOf (filter p ws) ns → AreNumbersOf (filter p all) ns
  told_in_order all ws ns same told = record {
    numbers = λ t. told.numbers t ∙ (count_filtered (λ g. g.0 == t) ws ∙ (sum_by-IsPermutation (λ w. cond (p w) (cond (w.0 == t) 1 0) 0) all ws same ∙ sym (count_filtered (λ g. g.0 == t) all)));
    once = told.once;
    none_is_zero = told.none_is_zero;
  }

  pub passing_alike : (all ws : List (ℕ × ℕ)) → IsPermutation all ws → length (filter p ws) ≡ length (filter p all)
  passing_alike all ws same = length-filter p ws ∙ (sum_by-IsPermutation (λ w. cond (p w) 1 0) all ws same ∙ sym (length-filter p all))
