-- The table of q5 keeps the laws of a query, whatever the values of its rules.
use Rattle.std.specs.Prelude.{ℕ, zero, suc, ◌≡◌, ◌≢◌, ◌==◌, ◌&&◌, length, nat_le, nat_lt, ◌+◌, ◌-◌, ◌*◌, ◌/◌, ◌++◌, ◌<◌, ◌≤◌, Bool, true, false, Option, Some, None, List, [], ◌∷◌, All, IfSome, IsSome, filter, if◌then◌else◌, map, refl, take_while}
use Rattle.std.specs.List.{range_with_len}
use Rattle.std.specs.Option.{option_to_list}
use Rattle.std.proofs.Common.{◌∙◌, ap, append-nil, arith, length-append, lit<, subst}
use Rattle.std.proofs.lemmas.Bool.{and_from, and_parts, cond_both, false≢true, le-leb, leb-true, lt-ltb, ltb-true}
use Rattle.std.proofs.lemmas.List.Elements.{All-cons, All-head, All-nil, All-tail, All-weaker}
use Rattle.std.proofs.lemmas.Option.{none-some, same_Some}
use Rattle.std.proofs.lemmas.Nat.{mul-le}
use Rattle.mp_names.specs.Limits.{greatest_id, greatest_time, last_time, most_events}
use Rattle.mp_model.specs.declared.record.Output.{Output}
use Rattle.mp_model.specs.declared.record.Rec.{Rec}
use Rattle.mp_model.specs.declared.value.Value.{Value}
use Rattle.mp_model.specs.declared.value.Value.TheVariants.{Bid, Count}
use Rattle.mp_model.specs.Always.{always_fits}
use Rattle.mp_model.specs.Entry.{Entry}
use Rattle.mp_model.specs.Facts.{QueryFacts}
use Rattle.mp_model.specs.Folds.{cell_before, fold_of, timeline}
use Rattle.mp_model.specs.Legal.{EventIsLegal, IsLegalAt}
use Rattle.mp_model.specs.Stages.{stage_records}
use Rattle.mp_model.proofs.LastTimes.{stage_outputs_in_time}
use Rattle.mp_model.proofs.LegalRecords.{input_records_legal}
use Rattle.mp_model.proofs.Lists.{All-filter_map}
use Rattle.mp_model.specs.Rules.{settled}
use Rattle.mp_model.proofs.Tables.{length-filter_map, length_option, not_zero}
use Rattle.mp_model.specs.QueryLaws.{BeginsFresh, HasStages, PostsAreLater, LaterStagesPostNothing, OutputsHaveKeys, MostIsEnough, FreshStaysFresh, RecordIsLegal, RisesWithin, SumsFit, TextsTellCells}
use Rattle.mp_saved.specs.Leaving.{CellsMayBeSaved, KeysAreIds, LeavesWhatMayBeSaved}
use Rattle.mp_saved.proofs.Along.{HasItsTime, cell_reaches}
use Rattle.mp_saved.proofs.Counting.{length-filter}
use Rattle.mp_saved.proofs.Kept.{few_inputs, inputs_keep, next_keep}
use Rattle.mp_saved.proofs.Spelled.{AreSmall, none_small, numbers_again, numbers_are_plain, one_small}
use Rattle.mp_q_window.specs.Counts.{rows_of}
use Rattle.mp_q_window.specs.Laws.Settled.{first_within, second_within, settled_within}
use Rattle.mp_q_window.specs.Q5.{auction_of, bid_ends, count_time, q5_facts, q5_rules, q5_with, slide_in, slide_rule, slides_in, slides_rule}
use Rattle.mp_q_window.specs.Recent.{after_group, are_times, bid_time, count_in, is_legal, kept_by, since, text_of, times_of, times_said}

-- the slide and the number of slides are allowed
slide_is : (vs : List ℕ) → (1 ≤ slide_in vs) × (slide_in vs ≤ 7200)
slide_is vs = first_within slide_rule (slides_rule ∷ []) (settled q5_rules vs) 600 (settled_within q5_rules vs refl)

slides_is : (vs : List ℕ) → (1 ≤ slides_in vs) × (slides_in vs ≤ 6)
slides_is vs = second_within slide_rule slides_rule (settled q5_rules vs) 6 (settled_within q5_rules vs refl)

-- multiples rise, from one that is above a time on
multiples_rise : (slide q high low a n : ℕ) → 1 ≤ slide → low < (q + a) * slide → (q + a + n) * slide ≤ high + slide
    → RisesWithin low high (map (λ i. (q + i) * slide) (range_with_len a n))
multiples_rise slide q high low a zero some below fits = tt
multiples_rise slide q high low a (suc n) some below fits =
    (below, omega arith, multiples_rise slide q high ((q + a) * slide) (a + 1) n some (omega arith) (omega arith))

-- the ends of windows rise, are later than the bid, and not too late
ends_later : (slide slides t : ℕ) (v : Value) → 1 ≤ slide → slide * slides ≤ 43200 → t ≤ greatest_time → RisesWithin t last_time (bid_ends slide slides t v)
ends_later slide slides t (Bid auction bidder price) some short h = multiples_rise slide (t / slide + 1) last_time t 0 slides some (omega arith) (omega arith)
ends_later slide slides t _ some short h = tt

-- a count has a key in stage 1, if there is one
count_has_key : (t auction count : ℕ) (woken none : Bool)
    → All (λ v. IsSome (count_time t v)) (option_to_list (if woken then (if none then None else Some (Count auction count)) else None))
count_has_key t auction count true false =
    All-cons (λ (v : Value). IsSome (count_time t v)) (Count auction count) [] refl (All-nil (λ (v : Value). IsSome (count_time t v)))
count_has_key t auction count true true = All-nil (λ (v : Value). IsSome (count_time t v))
count_has_key t auction count false none = All-nil (λ (v : Value). IsSome (count_time t v))

-- no times stay where none were
none_kept : (woken : Bool) → (let kept : List ℕ = if woken then [] else [] in kept ++ [] ≡ [])
none_kept true = refl
none_kept false = refl

-- no times give no count
no_count : (woken : Bool) → (let count : Option Value = if woken then None else None in option_to_list count ≡ [])
no_count true = refl
no_count false = refl

-- times that may be saved have 64 bits
times_small : (low t : ℕ) (times : List ℕ) → are_times low t times ≡ true → AreSmall times
times_small low t [] h = none_small
times_small low t (n ∷ ns) h =
    let parts = and_parts (nat_le low n && nat_lt n t && nat_le n greatest_time) (are_times n t ns) h in
    let within = and_parts (nat_le low n && nat_lt n t) (nat_le n greatest_time) parts.0 in
    one_small n greatest_time ns within.1 (lit< tt) (times_small n t ns parts.1)

legal_small : (t n : ℕ) (ns : List ℕ) → is_legal t (n ∷ ns) ≡ true → AreSmall (n ∷ ns)
legal_small t n ns h = times_small 0 t (n ∷ ns) (and_parts (nat_lt 0 (length (n ∷ ns)) && nat_le (length (n ∷ ns)) most_events) (are_times 0 t (n ∷ ns)) h).1

module _ (slide slides : ℕ) where
  -- there are two stages
  pub has_stages : HasStages (q5_with slide slides)
  has_stages = (omega arith, omega arith)

  -- counts post nothing
  pub later_stages_post_nothing : LaterStagesPostNothing (q5_with slide slides)
  later_stages_post_nothing j r = rw (not_zero j) refl

  -- each count has a key in stage 1
  pub outputs_have_keys : OutputsHaveKeys (q5_with slide slides)
  outputs_have_keys zero cell e below = count_has_key e.time e.key _ e.woken _
  outputs_have_keys (suc j) cell e below = absurd (omega arith)

  -- a group has one count at most, and one row at most for each record
  pub most_is_enough : MostIsEnough (q5_with slide slides)
  most_is_enough zero cell e = length_option (count_in (slide * slides) cell e)
  most_is_enough (suc j) cell e = rw (not_zero j) (length-filter_map _ e.recs)

  -- without records there are no rows
  pub fresh_stays_fresh : FreshStaysFresh (q5_with slide slides)
  fresh_stays_fresh zero e none =
      (ap (λ rs. after_group (slide * (slides - 1)) [] (record e { recs = rs })) none ∙ none_kept e.woken, no_count e.woken)
  fresh_stays_fresh (suc j) e none = rw (not_zero j) (refl, ap rows_of none)

  -- each key begins with no times
  pub begins_fresh : BeginsFresh (q5_with slide slides)
  begins_fresh = (refl, refl)

  -- times are read from their text
  pub texts_tell_cells : TextsTellCells text_of (q5_with slide slides)
  texts_tell_cells j k t [] allowed = absurd (false≢true (and_parts (j == 0) false allowed).1)
  texts_tell_cells j k t (n ∷ ns) allowed = ap times_said (numbers_again n ns (legal_small t n ns (and_parts (j == 0) (is_legal t (n ∷ ns)) allowed).1))

  -- and hold no line feed
  pub texts_are_plain : (j k t : ℕ) (times : List ℕ) → (q5_with slide slides).allows j k t times ≡ true → All (λ b. b ≢ 10) (text_of j times)
  texts_are_plain j k t [] allowed = absurd (false≢true (and_parts (j == 0) false allowed).1)
  texts_are_plain j k t (n ∷ ns) allowed = numbers_are_plain n ns (legal_small t n ns (and_parts (j == 0) (is_legal t (n ∷ ns)) allowed).1)

-- a bid posts the ends of its windows
pub posts_are_later : (vs : List ℕ) → PostsAreLater (q5_facts vs)
posts_are_later vs r legal =
    ends_later (slide_in vs) (slides_in vs) r.time r.value (slide_is vs).0 (mul-le (slide_in vs) (slides_in vs) 7200 6 (slide_is vs).1 (slides_is vs).1) legal.in_time

-- counts are lengths of lists
pub sums_fit : SumsFit q5_facts
sums_fit = always_fits q5_facts (λ vs j cell e. refl)

-- What is left

auction_is_id : (t : ℕ) (v : Value) (k : ℕ) → IsLegalAt t v → auction_of v ≡ Some k → k ≤ greatest_id
auction_is_id t (Bid auction bidder price) k h e = let same : auction ≡ k = same_Some auction k e in subst (λ (n : ℕ). n ≤ greatest_id) same h.0
auction_is_id t _ k h e = absurd (none-some k e)

-- the key of a count is its time
time_of_count : (t : ℕ) (v : Value) (k : ℕ) → count_time t v ≡ Some k → t ≡ k
time_of_count t (Count auction count) k e = same_Some t k e
time_of_count t _ k e = absurd (none-some k e)

-- times that rise to one below t

-- each within its limits, and not less than low
abbrev IsTimeAt : ℕ → ℕ → ℕ → Bool
IsTimeAt low t n = nat_le low n && nat_lt n t && nat_le n greatest_time

-- also to a later one, and from a lower one
more_times : (low mid t high : ℕ) (times : List ℕ) → low ≤ mid → t ≤ high → are_times mid t times ≡ true → are_times low high times ≡ true
more_times low mid t high [] l m h = refl
more_times low mid t high (n ∷ ns) l m h =
    let parts = and_parts (IsTimeAt mid t n) (are_times n t ns) h in
    let within = and_parts (nat_le mid n && nat_lt n t) (nat_le n greatest_time) parts.0 in
    let both = and_parts (nat_le mid n) (nat_lt n t) within.0 in
    let above : mid ≤ n = leb-true mid n both.0 in
    let below : n < t = ltb-true n t both.1 in
    and_from (IsTimeAt low high n) (are_times n high ns)
    (and_from (nat_le low n && nat_lt n high) (nat_le n greatest_time) (and_from (nat_le low n) (nat_lt n high) (le-leb low n (omega arith)) (lt-ltb n high (omega arith))) within.1)
    (more_times n n t high ns (omega arith) m parts.1)

-- and those of them that a filter keeps
kept_times : (p : ℕ → Bool) (low t : ℕ) (times : List ℕ) → are_times low t times ≡ true → are_times low t (filter p times) ≡ true
kept_times p low t [] h = refl
kept_times p low t (n ∷ ns) h =
    let parts = and_parts (IsTimeAt low t n) (are_times n t ns) h in
    let rest = kept_times p n t ns parts.1 in
    let above : low ≤ n = leb-true low n (and_parts (nat_le low n) (nat_lt n t) (and_parts (nat_le low n && nat_lt n t) (nat_le n greatest_time) parts.0).0).0 in
    cond_both (p n) (n ∷ filter p ns) (filter p ns) (λ (kept : List ℕ). are_times low t kept ≡ true)
    (λ _. and_from (IsTimeAt low t n) (are_times n t (filter p ns)) parts.0 rest)
    (λ _. more_times low n t t (filter p ns) above (omega arith) rest)

-- times of one moment
one_time : (low t : ℕ) (times : List ℕ) → low ≤ t → t ≤ greatest_time → All (λ n. n ≡ t) times → are_times low (t + 1) times ≡ true
one_time low t [] l m h = refl
one_time low t (n ∷ ns) l m h =
    let same : n ≡ t = All-head (λ (k : ℕ). k ≡ t) n ns h in
    and_from (IsTimeAt low (t + 1) n) (are_times n (t + 1) ns)
    (and_from (nat_le low n && nat_lt n (t + 1)) (nat_le n greatest_time) (and_from (nat_le low n) (nat_lt n (t + 1)) (le-leb low n (omega arith)) (lt-ltb n (t + 1) (omega arith))) (le-leb n greatest_time (omega arith)))
    (one_time n t ns (omega arith) m (All-tail (λ (k : ℕ). k ≡ t) n ns h))

-- behind earlier ones
later_times : (low t : ℕ) (times ones : List ℕ) → low ≤ t → t ≤ greatest_time → are_times low t times ≡ true → All (λ n. n ≡ t) ones → are_times low (t + 1) (times ++ ones) ≡ true
later_times low t [] ones l m h k = one_time low t ones l m k
later_times low t (n ∷ ns) ones l m h k =
    let parts = and_parts (IsTimeAt low t n) (are_times n t ns) h in
    let within = and_parts (nat_le low n && nat_lt n t) (nat_le n greatest_time) parts.0 in
    let both = and_parts (nat_le low n) (nat_lt n t) within.0 in
    let below : n < t = ltb-true n t both.1 in
    and_from (IsTimeAt low (t + 1) n) (are_times n (t + 1) (ns ++ ones))
    (and_from (nat_le low n && nat_lt n (t + 1)) (nat_le n greatest_time) (and_from (nat_le low n) (nat_lt n (t + 1)) both.0 (lt-ltb n (t + 1) (omega arith))) within.1)
    (later_times n t ns ones (omega arith) m parts.1 k)

-- the times of the bids of a group
bid_times : (t : ℕ) (rs : List Rec) → All (λ r. r.time ≡ t) rs → All (λ n. n ≡ t) (times_of rs)
bid_times t rs h = All-filter_map (λ (n : ℕ). n ≡ t) (λ (r : Rec). bid_time r.time r.value) rs (All-weaker (λ (r : Rec). r.time ≡ t) (λ (r : Rec). IfSome (bid_time r.time r.value) (λ n. n ≡ t)) (λ r e. of_value r.time r.value e) rs h)
  where
    of_value : (s : ℕ) (v : Value) → s ≡ t → IfSome (bid_time s v) (λ n. n ≡ t)
    of_value s (Bid auction bidder price) e = e
    of_value s _ e = tt

-- times below one that no group has reached, no more of them than records
record IsGood (low n : ℕ) (times : List ℕ) : Type 0 where
  within : are_times 0 low times ≡ true
  few : length times ≤ n

module _ (span : ℕ) where
  kept_good : (low n : ℕ) (times : List ℕ) (e : Entry) → IsGood low n times → IsGood low n (kept_by span times e)
  kept_good low n times e h =
      cond_both e.woken (since (e.time - span) times) times (IsGood low n)
      (λ _. record { within = kept_times (λ t. nat_le (e.time - span) t) 0 low times h.within; few = omega (arith, h.few, length-filter (λ t. nat_le (e.time - span) t) times) })
      (λ _. h)

  group_good : (low n : ℕ) (times : List ℕ) (e : Entry) → IsGood low n times → low ≤ e.time → All RecordIsLegal e.recs → HasItsTime e → IsGood (e.time + 1) (n + length e.recs) (after_group span times e)
  group_good low n times e h rise recs same =
      let kept = kept_by span times e in
      let before = kept_good low n times e h in
      record {
        within = by_records e.recs recs same (more_times 0 0 low e.time kept (omega arith) rise before.within);
        few = omega (arith, before.few, length-append kept (times_of e.recs), length-filter_map (λ (r : Rec). bid_time r.time r.value) e.recs);
      }
    where
      by_records : (rs : List Rec) → All RecordIsLegal rs → All (λ r. r.time ≡ e.time) rs → are_times 0 e.time (kept_by span times e) ≡ true → are_times 0 (e.time + 1) (kept_by span times e ++ times_of rs) ≡ true
      by_records [] recs same k = rw append-nil (more_times 0 0 e.time (e.time + 1) (kept_by span times e) (omega arith) (omega arith) k)
      by_records (r ∷ rs) recs same k =
          let first : r.time ≡ e.time = All-head (λ (s : Rec). s.time ≡ e.time) r rs same in
          let early : r.time ≤ greatest_time = (All-head RecordIsLegal r rs recs).in_time in
          later_times 0 e.time (kept_by span times e) (times_of (r ∷ rs)) (omega arith) (omega arith) k (bid_times e.time (r ∷ rs) same)

good_is_legal : (low n t : ℕ) (times : List ℕ) → IsGood low n times → low ≤ t → n ≤ most_events → times ≢ [] → is_legal t times ≡ true
good_is_legal low n t [] h l few other = absurd (other refl)
good_is_legal low n t (m ∷ ms) h l few other =
    and_from (nat_lt 0 (length (m ∷ ms)) && nat_le (length (m ∷ ms)) most_events) (are_times 0 t (m ∷ ms))
    (and_from (nat_lt 0 (length (m ∷ ms))) (nat_le (length (m ∷ ms)) most_events) (lt-ltb 0 (length (m ∷ ms)) (omega arith)) (le-leb (length (m ∷ ms)) most_events (omega (arith, h.few))))
    (more_times 0 0 low t (m ∷ ms) (omega arith) l h.within)

module _ (vs : List ℕ) where
  abbrev q : QueryFacts (List ℕ)
  q = q5_facts vs

  -- nothing is kept of counts
  counts_fresh : (es : List Entry) → fold_of q 1 [] es ≡ []
  counts_fresh [] = refl
  counts_fresh (e ∷ es) = counts_fresh es

  no_wakes : (j : ℕ) → All (λ (w : ℕ × ℕ). w.0 ≤ last_time) (q.waking j)
  no_wakes j = All-nil (λ (w : ℕ × ℕ). w.0 ≤ last_time)

  keys_are_ids : KeysAreIds q
  keys_are_ids events legal zero l =
      inputs_keep q (λ (r : Rec). r.key ≤ greatest_id) EventIsLegal (λ i k e h is. auction_is_id e.time e.value k h.legal is) events legal.each
  keys_are_ids events legal (suc zero) l =
      next_keep q (λ (r : Rec). r.key ≤ greatest_id) (λ (o : Output). o.time ≤ last_time) events 0
      (λ k o h is. let same : o.time ≡ k = time_of_count o.time o.value k is in omega arith)
      (stage_outputs_in_time q (posts_are_later vs) (later_stages_post_nothing (slide_in vs) (slides_in vs)) no_wakes events legal 0)
  keys_are_ids events legal (suc (suc j)) l = absurd (omega arith)

  times_may_be_saved : CellsMayBeSaved q
  times_may_be_saved events legal plain zero k t l other =
      let rs = stage_records q events 0 in
      let good = cell_reaches q 0 IsGood RecordIsLegal (group_good (slide_in vs * (slides_in vs - 1))) t k (record { within = refl; few = omega arith }) rs (input_records_legal q events legal) in
      good_is_legal good.0 good.2 t (cell_before q 0 rs k t) good.4 good.1 (omega (arith, good.3, few_inputs q events legal)) other
  times_may_be_saved events legal plain (suc zero) k t l other = absurd (other (counts_fresh (take_while (λ e. nat_lt e.time t) (timeline q 1 k (stage_records q events 1)))))
  times_may_be_saved events legal plain (suc (suc j)) k t l other = absurd (omega arith)

  -- the times of bids are left, and the ends of their windows
  pub leaves_what_may_be_saved : LeavesWhatMayBeSaved 5 q
  leaves_what_may_be_saved = record { keys = keys_are_ids; cells = times_may_be_saved; wakes = λ r u legal i. omega arith }
