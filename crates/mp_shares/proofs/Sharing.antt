-- What stands in shares.
use Rattle.std.proofs.Common.{◌≡◌, ℕ, zero, suc, ◌+◌, ◌<◌, ◌≤◌, ◌%◌, ◌==◌, Bool, cond, false, true, ◌≢◌, ◌&&◌, Option, Some, List, [], ◌∷◌, ◌++◌, length, drop, get_or, option_to_list, filter, map, set, slice_get, sym, take, append-nil, option_and_then, Contains, IsSome, is_some, refl, ap, ◌∙◌, subst, ⊎_elim, add-one, add-zero, zero-add, arith}
use Rattle.std.specs.List.{enumerate_from, filter_map, flat_map, range_with_len}
use Rattle.std.specs.List.Sorted.{IsStrictlyIncreasing}
use Rattle.std.proofs.lemmas.Bool.{and_from, and_parts, cases_Bool, cases_eq, cases_lt, cond-false, cond-true, eq-eqb, ne_eqb, eqb-true, false≢true}
use Rattle.std.proofs.lemmas.List.{ext_get_or, get_or-set_other, get_or-set_same, length-set}
use Rattle.std.proofs.lemmas.List.Elements.{Contains-get_or}
use Rattle.std.proofs.lemmas.List.FromFn.{get_or-map-range_with_len, get_or-range_with_len, length-map-range_with_len, length-range_with_len}
use Rattle.std.proofs.lemmas.List.Kept.{IsStrictlyIncreasing-filter}
use Rattle.std.proofs.lemmas.Option.{slice_get_past}
use Rattle.std.proofs.lemmas.Grind.{common_steps}
use Rattle.mp_model.specs.declared.record.Event.{Event}
use Rattle.mp_model.specs.declared.record.Rec.{Rec}
use Rattle.mp_model.specs.declared.value.Value.{Value}
use Rattle.mp_model.specs.Facts.{QueryFacts}
use Rattle.mp_shares.specs.Laws.{SharesHoldEachOnce}
use Rattle.mp_model.specs.Folds.{times_in}
use Rattle.mp_model.specs.Stages.{record_of}
use Rattle.mp_shares.specs.Records.{is_taken_by, record_at, share_of, shares_of, with_index}
use Rattle.mp_shares.specs.Times.{HoldSame}
use Rattle.mp_shares.proofs.Members.{filter-Contains, Contains-filter}
use Rattle.mp_shares.proofs.Same.{same_list, same_then, same_twice}

-- one more number
pub filter-one_more : (p : ℕ → Bool) (n : ℕ) → filter p (range_with_len 0 (n + 1)) ≡ filter p (range_with_len 0 n) ++ cond (p n) (n ∷ []) []
filter-one_more p n = rw (add-one) (from 0 n ∙ ap (λ m. filter p (range_with_len 0 n) ++ cond (p m) (m ∷ []) []) (zero-add n))
  where
    from : (a n : ℕ) → filter p (range_with_len a (suc n)) ≡ filter p (range_with_len a n) ++ cond (p (a + n)) ((a + n) ∷ []) []
    from a zero = rw (add-zero) refl
    from a (suc n) = grind (arith, common_steps, from (a + 1) n)

range_rises : (n : ℕ) → IsStrictlyIncreasing (range_with_len 0 n)
range_rises n k l =
    let m : k + 1 < n = omega (arith, length-range_with_len 0 n) in
    let a : get_or (range_with_len 0 n) k 0 ≡ 0 + k = get_or-range_with_len 0 n k 0 (omega arith) in
    let b : get_or (range_with_len 0 n) (k + 1) 0 ≡ 0 + (k + 1) = get_or-range_with_len 0 n (k + 1) 0 m in
    omega arith

range_holds : (n i : ℕ) → i < n → Contains (range_with_len 0 n) i
range_holds n i l = (i, omega (arith, length-range_with_len 0 n), get_or-range_with_len 0 n i i l ∙ zero-add i)

module _ {Cell : Type 0} (q : QueryFacts Cell) (events : List Event) where
  -- an event that makes a record is there
  pub record_is_there : (i : ℕ) → IsSome (record_at q events i) → i < length events
  record_is_there i h =
      ⊎_elim
      (λ (l : i < length events). l)
      (λ (l : length events ≤ i). absurd (false≢true (rw (slice_get_past events i l) at h)))
      (cases_lt i (length events))

  -- it stands in the share of its index modulo the workers
  pub share-Contains : (workers i : ℕ) → IsSome (record_at q events i) → Contains (share_of q events workers (i % workers)) i
  share-Contains workers i h =
      filter-Contains
      (is_taken_by q events workers (i % workers))
      (range_with_len 0 (length events))
      i
      (range_holds (length events) i (record_is_there i h))
      (and_from (is_some (record_at q events i)) (i % workers == i % workers) h (eq-eqb (i % workers) (i % workers) refl))

  -- and what stands in a share makes a record
  pub Contains-share : (workers w i : ℕ) → Contains (share_of q events workers w) i → IsSome (record_at q events i) × (i % workers ≡ w)
  Contains-share workers w i h =
      let kept = Contains-filter (is_taken_by q events workers w) (range_with_len 0 (length events)) i h in
      let parts = and_parts (is_some (record_at q events i)) (i % workers == w) kept.1 in
      (parts.0, eqb-true (i % workers) w parts.1)

  -- so each index that is read from a share has a record
  pub record_of_place : (workers w : ℕ) (share : List ℕ) (k d : ℕ) → share ≡ share_of q events workers w → k < length share → IsSome (record_at q events (get_or share k d))
  record_of_place workers w share k d e l = (Contains-share workers w (get_or share k d) (subst (λ (s : List ℕ). Contains s (get_or share k d)) e (Contains-get_or share k d l))).0

  pub shares_hold : (workers : ℕ) → 0 < workers → SharesHoldEachOnce q events workers
  shares_hold workers some = record {
    held = λ i h. (omega arith, share-Contains workers i h);
    nothing_else = Contains-share workers;
    ascends = λ w. IsStrictlyIncreasing-filter (is_taken_by q events workers w) (range_with_len 0 (length events)) (range_rises (length events));
  }

  -- there is a share for each worker
  pub length-shares : (shares : List (List ℕ)) (workers : ℕ) → shares ≡ shares_of q events workers → length shares ≡ workers
  length-shares shares workers e = ap length e ∙ length-map-range_with_len (share_of q events workers) 0 workers

  -- the share of a worker stands at its number
  pub share-at : (shares : List (List ℕ)) (workers w : ℕ) (d : List ℕ) → shares ≡ shares_of q events workers → w < workers → get_or shares w d ≡ share_of q events workers w
  share-at shares workers w d e l = ap (λ (l : List (List ℕ)). get_or l w d) e ∙ get_or-map-range_with_len (share_of q events workers) 0 workers w w d l (zero-add w)

-- One more event

slice_get_there : {X : Type 0} (xs : List X) (n : ℕ) (x : X) → n < length xs → x ≡ get_or xs n x → slice_get xs n ≡ Some x
slice_get_there [] n x l is = absurd (omega arith)
slice_get_there (y ∷ ys) zero x l is = ap (λ (z : _). Some z) (sym is)
slice_get_there (y ∷ ys) (suc n) x l is = slice_get_there ys n x (omega arith) is

module _ {Cell : Type 0} (q : QueryFacts Cell) (events : List Event) (workers : ℕ) (some : 0 < workers) where
  -- the share of a worker, of the events so far
  abbrev share_to : ℕ → ℕ → List ℕ
  share_to n w = filter (is_taken_by q events workers w) (range_with_len 0 n)

  abbrev pub shares_to : ℕ → List (List ℕ)
  shares_to n = map (share_to n) (range_with_len 0 workers)

  at_worker : (n w : ℕ) → w < workers → get_or (shares_to n) w [] ≡ share_to n w
  at_worker n w l = get_or-map-range_with_len (share_to n) 0 workers w w [] l (zero-add w)

  as_long : (n : ℕ) → length (shares_to n) ≡ workers
  as_long n = length-map-range_with_len (share_to n) 0 workers

  -- it makes no record
  pub none_more : (n : ℕ) → is_some (record_at q events n) ≡ false → shares_to n ≡ shares_to (n + 1)
  none_more n none =
      ext_get_or [] (shares_to n) (shares_to (n + 1)) (as_long n ∙ sym (as_long (n + 1)))
      (λ w l.
      let m : w < workers = omega (arith, l, as_long n) in
      let kept : share_to (n + 1) w ≡ share_to n w = filter-one_more (is_taken_by q events workers w) n ∙ rw none (append-nil (share_to n w)) in
      at_worker n w m ∙ sym kept ∙ sym (at_worker (n + 1) w m))

  -- it makes one
  pub one_more : (n : ℕ) → is_some (record_at q events n) ≡ true → with_index n (shares_to n) ≡ shares_to (n + 1)
  one_more n made =
      ext_get_or [] (with_index n (shares_to n)) (shares_to (n + 1)) (length-set (shares_to n) (n % length (shares_to n)) _ ∙ as_long n ∙ sym (as_long (n + 1)))
      (λ w l.
      let m : w < workers = omega (arith, l, as_long n, length-set (shares_to n) (n % length (shares_to n)) (get_or (shares_to n) (n % length (shares_to n)) [] ++ n ∷ [])) in
      here w m)
    where
      here : (w : ℕ) → w < workers → get_or (with_index n (shares_to n)) w [] ≡ get_or (shares_to (n + 1)) w []
      here w m =
          let ss = shares_to n in
          let p = n % length ss in
          let x : List ℕ = get_or ss p [] ++ n ∷ [] in
          let rest : p ≡ n % workers = ap (λ (k : ℕ). n % k) (as_long n) in
          let small : p < length ss = omega (arith, rest, as_long n, some) in
          let by_test : is_taken_by q events workers w n ≡ (n % workers == w) = ap (λ (b : Bool). b && (n % workers == w)) made in
          ⊎_elim
          (λ (s : w ≡ p).
          let test : is_taken_by q events workers w n ≡ true = by_test ∙ eq-eqb (n % workers) w (sym rest ∙ sym s) in
          let more : share_to (n + 1) w ≡ share_to n w ++ n ∷ [] = filter-one_more (is_taken_by q events workers w) n ∙ ap (λ (b : Bool). share_to n w ++ cond b (n ∷ []) []) test in
          ap (λ (i : ℕ). get_or (set ss p x) i []) s
          ∙ get_or-set_same ss p x [] small
          ∙ ap (λ (i : ℕ). get_or ss i [] ++ n ∷ []) (sym s)
          ∙ ap (λ (xs : List ℕ). xs ++ n ∷ []) (at_worker n w m)
          ∙ sym more
          ∙ sym (at_worker (n + 1) w m))
          (λ (o : w ≢ p).
          let test : is_taken_by q events workers w n ≡ false = by_test ∙ ne_eqb (n % workers) w (λ (e : n % workers ≡ w). o (sym e ∙ sym rest)) in
          let kept : share_to (n + 1) w ≡ share_to n w = filter-one_more (is_taken_by q events workers w) n ∙ ap (λ (b : Bool). share_to n w ++ cond b (n ∷ []) []) test ∙ append-nil (share_to n w) in
          get_or-set_other ss p w x [] o ∙ at_worker n w m ∙ sym kept ∙ sym (at_worker (n + 1) w m))
          (cases_eq w p)

  -- an event is taken in
  pub taken_in : (n : ℕ) (e : Event) (shares next : List (List ℕ)) → n < length events → e ≡ get_or events n e → shares ≡ shares_to n → next ≡ cond (is_some (record_of q n e)) (with_index n shares) shares → next ≡ shares_to (n + 1)
  taken_in n e shares next l is before made =
      let get : slice_get events n ≡ Some e = slice_get_there events n e l is in
      let there : is_some (record_at q events n) ≡ is_some (record_of q n e) = ap (λ (o : Option Event). is_some (option_and_then (record_of q n) o)) get in
      ⊎_elim
      (λ (b : is_some (record_of q n e) ≡ true). made ∙ cond-true (is_some (record_of q n e)) (with_index n shares) shares b ∙ ap (λ (ss : List (List ℕ)). with_index n ss) before ∙ one_more n (there ∙ b))
      (λ (b : is_some (record_of q n e) ≡ false). made ∙ cond-false (is_some (record_of q n e)) (with_index n shares) shares b ∙ before ∙ none_more n (there ∙ b))
      (cases_Bool (is_some (record_of q n e)))

-- The times of one more event

module _ {Cell : Type 0} (q : QueryFacts Cell) where
  -- those of the record that it makes: its own time, and the posts
  pub times_made : (i n k : ℕ) (e : Event) (v : Value) (key : Option ℕ) (old posts : List ℕ) → key ≡ q.key 0 e.time e.value → key ≡ Some k → n ≡ i → v ≡ e.value → posts ≡ q.posts 0 (record { time = e.time; key = k; tag = record { 0 = 0; 1 = n }; value = v }) → (old ++ e.time ∷ []) ++ posts ≡ old ++ times_in q 0 (option_to_list (record_of q i e))
  times_made i n k e v key old posts is has index value are = grind (arith, common_steps)

  -- and the posts alone
  pub posts_made : (i n k : ℕ) (e : Event) (v : Value) (key : Option ℕ) (old posts : List ℕ) → key ≡ q.key 0 e.time e.value → key ≡ Some k → n ≡ i → v ≡ e.value → posts ≡ q.posts 0 (record { time = e.time; key = k; tag = record { 0 = 0; 1 = n }; value = v }) → old ++ posts ≡ old ++ flat_map (q.posts 0) (option_to_list (record_of q i e))
  posts_made i n k e v key old posts is has index value are = grind (arith, common_steps)

  module _ (times : Rec → List ℕ) (events : List Event) where
    -- the times of the records of the events from this one on
    abbrev pub times_from : ℕ → List ℕ
    times_from n = flat_map times (filter_map (λ p. record_of q p.0 p.1) (enumerate_from n (drop n events)))

    -- what is added, with what the later events will add
    pub times_added : (n : ℕ) (e : Event) (old new all : List ℕ) → n < length events → e ≡ get_or events n e → HoldSame new (old ++ flat_map times (option_to_list (record_of q n e))) → HoldSame (old ++ times_from n) all → HoldSame (new ++ times_from (n + 1)) all
    times_added n e old new all l is added before = same_then (new ++ times_from (n + 1)) (old ++ times_from n) all (same_twice _ new _ (times_from (n + 1)) _ (same_list _ _ refl) added (grind (arith, common_steps))) before

    -- after the last nothing is left to add
    pub none_left : (n : ℕ) (ts : List ℕ) → length events ≤ n → ts ≡ ts ++ times_from n
    none_left n ts l = grind (arith, common_steps)

-- Shares of no events

pub as_many : (xs ys : List (List ℕ)) (workers : ℕ) → xs ≡ ys → ys ≡ map (λ (_ : ℕ). []) (range_with_len 0 workers) → length xs ≡ workers
as_many xs ys workers e f = let none : ℕ → List ℕ = λ _. [] in ap length (e ∙ f) ∙ length-map-range_with_len none 0 workers

pub empty_there : (xs ys : List (List ℕ)) (workers : ℕ) → xs ≡ ys → ys ≡ map (λ (_ : ℕ). []) (range_with_len 0 workers) → xs ≡ map (λ (_ : ℕ). []) (range_with_len 0 (length xs))
empty_there xs ys workers e f =
    let none : ℕ → List ℕ = λ _. [] in
    let long = as_many xs ys workers e f in
    e ∙ f ∙ ap (λ (n : ℕ). map none (range_with_len 0 n)) (sym long)

-- What is written into a list of which a slice was taken

pub written_back : {X : Type 0} (new items : List X) (n : ℕ) → n ≡ length items → length new ≡ length items → take n (new ++ drop (length new) items) ≡ new
written_back new items n e f = grind (arith, common_steps)
