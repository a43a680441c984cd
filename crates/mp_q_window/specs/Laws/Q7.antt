-- The table of q7 keeps the laws of a query, whatever the value of its rule.
use Rattle.std.specs.Prelude.{ℕ, zero, suc, fold, nat_lt, ◌≡◌, ◌≢◌, ◌≤◌, ◌==◌, ◌&&◌, Bool, true, false, All, Option, None, Some, List, [], ◌∷◌, nat_le, if◌then◌else◌, refl}
use Rattle.std.specs.Option.{option_map, option_to_list}
use Rattle.std.proofs.Common.{◌∙◌, ap, arith, lit<}
use Rattle.std.proofs.lemmas.Bool.{and_from, and_parts, cond_both, false≢true, le-leb}
use Rattle.std.proofs.lemmas.List.Elements.{All-head, All-tail}
use Rattle.std.proofs.lemmas.Option.{none-some, same_Some}
use Rattle.mp_names.specs.Limits.{greatest_id, greatest_price, greatest_time, last_time}
use Rattle.mp_model.specs.declared.record.Rec.{Rec}
use Rattle.mp_model.specs.declared.value.Value.{Value}
use Rattle.mp_model.specs.declared.value.Value.TheVariants.{Bid}
use Rattle.mp_model.specs.Always.{always_fits}
use Rattle.mp_model.specs.Folds.{cell_before}
use Rattle.mp_model.specs.Legal.{EventIsLegal, IsLegalAt}
use Rattle.mp_model.specs.Stages.{stage_records}
use Rattle.mp_model.proofs.LegalRecords.{input_records_legal}
use Rattle.mp_model.specs.Rules.{settled}
use Rattle.mp_model.proofs.Tables.{length_option, not_zero}
use Rattle.mp_model.specs.QueryLaws.{BeginsFresh, HasStages, PostsAreLater, LaterStagesPostNothing, MostIsEnough, FreshStaysFresh, RecordIsLegal, RisesWithin, SumsFit, TextsTellCells}
use Rattle.mp_saved.specs.Leaving.{CellsMayBeSaved, KeysAreIds, LeavesWhatMayBeSaved}
use Rattle.mp_saved.proofs.Along.{cell_reaches}
use Rattle.mp_saved.proofs.Kept.{inputs_keep}
use Rattle.mp_saved.proofs.Spelled.{AreSmall, none_small, numbers_again, numbers_are_plain, one_small}
use Rattle.mp_q_window.specs.declared.best.Offer.{Offer}
use Rattle.mp_q_window.specs.Best.{after_group, after_value, at_start, better_of, is_legal, numbers_of, offer_said, row_of, row_with, text_of}
use Rattle.mp_q_window.specs.Laws.Settled.{first_within, settled_within}
use Rattle.mp_q_window.specs.Windows.{end_after}
use Rattle.mp_q_window.specs.Q7.{key_of, q7_facts, q7_rules, q7_with, width_in, width_rule}

-- the length of a window is allowed
width_is : (vs : List ℕ) → (1 ≤ width_in vs) × (width_in vs ≤ 43200)
width_is vs = first_within width_rule [] (settled q7_rules vs) 600 (settled_within q7_rules vs refl)

-- a window ends later than each of its times, and not too late
ends_later : (width t : ℕ) (v : Value) → 1 ≤ width → width ≤ 43200 → t ≤ greatest_time → RisesWithin t last_time (option_to_list (key_of width t v))
ends_later width t (Bid auction bidder price) some short h = (omega arith, omega arith, tt)
ends_later width t _ some short h = tt

-- without a best offer there is no row
no_row : (woken : Bool) → option_to_list (if woken then option_map row_with None else None) ≡ []
no_row true = refl
no_row false = refl

-- nothing is kept where nothing was
none_kept : (woken : Bool) → (let kept : Option Offer = if woken then None else None in kept ≡ None)
none_kept true = refl
none_kept false = refl

-- the numbers of an offer that may be saved have 64 bits
offer_small : (offer : Offer) → is_legal (Some offer) ≡ true → AreSmall (numbers_of (Some offer))
offer_small offer h =
    let both = and_parts (nat_le offer.auction greatest_id && nat_le offer.bidder greatest_id) (nat_le offer.price greatest_price) h in
    let ids = and_parts (nat_le offer.auction greatest_id) (nat_le offer.bidder greatest_id) both.0 in
    one_small offer.auction greatest_id (offer.bidder ∷ offer.price ∷ []) ids.0 (lit< tt)
    (one_small offer.bidder greatest_id (offer.price ∷ []) ids.1 (lit< tt) (one_small offer.price greatest_price [] both.1 (lit< tt) none_small))

module _ (width : ℕ) where
  -- there is one stage
  pub has_stages : HasStages (q7_with width)
  has_stages = (omega arith, omega arith)

  -- there is no later stage
  pub later_stages_post_nothing : LaterStagesPostNothing (q7_with width)
  later_stages_post_nothing j r = rw (not_zero j) refl

  -- a group has one row at most
  pub most_is_enough : MostIsEnough (q7_with width)
  most_is_enough j cell e = length_option (row_of cell e)

  -- without bids there are no rows
  pub fresh_stays_fresh : FreshStaysFresh (q7_with width)
  fresh_stays_fresh j e none =
      (ap (λ rs. after_group None (record e { recs = rs })) none ∙ none_kept e.woken, no_row e.woken)

  -- each key begins without an offer
  pub begins_fresh : BeginsFresh (q7_with width)
  begins_fresh = (refl, refl)

  -- an offer is read from its text
  pub texts_tell_cells : TextsTellCells text_of (q7_with width)
  texts_tell_cells j k t None allowed = absurd (false≢true (and_parts (j == 0) false allowed).1)
  texts_tell_cells j k t (Some offer) allowed = ap offer_said (numbers_again offer.auction (offer.bidder ∷ offer.price ∷ []) (offer_small offer (and_parts (j == 0) (is_legal (Some offer)) allowed).1))

  -- and holds no line feed
  pub texts_are_plain : (j k t : ℕ) (best : Option Offer) → (q7_with width).allows j k t best ≡ true → All (λ b. b ≢ 10) (text_of j best)
  texts_are_plain j k t None allowed = absurd (false≢true (and_parts (j == 0) false allowed).1)
  texts_are_plain j k t (Some offer) allowed = numbers_are_plain offer.auction (offer.bidder ∷ offer.price ∷ []) (offer_small offer (and_parts (j == 0) (is_legal (Some offer)) allowed).1)

-- a bid posts the end of its window
pub posts_are_later : (vs : List ℕ) → PostsAreLater (q7_facts vs)
posts_are_later vs r legal = ends_later (width_in vs) r.time r.value (width_is vs).0 (width_is vs).1 legal.in_time

-- nothing is summed or counted
pub sums_fit : SumsFit q7_facts
sums_fit = always_fits q7_facts (λ vs j cell e. refl)

-- What is left

-- the end of a window is within the limit of ids
window_is_id : (vs : List ℕ) (t : ℕ) (v : Value) (k : ℕ) → t ≤ greatest_time → key_of (width_in vs) t v ≡ Some k → k ≤ greatest_id
window_is_id vs t (Bid auction bidder price) k h e =
    let same : end_after (width_in vs) t ≡ k = same_Some (end_after (width_in vs) t) k e in
    let ends = ends_later (width_in vs) t (Bid auction bidder price) (width_is vs).0 (width_is vs).1 h in
    let late : end_after (width_in vs) t ≤ last_time = ends.1 in
    omega arith
window_is_id vs t _ k h e = absurd (none-some k e)

-- there is no offer, or one that may be saved
abbrev IsGood : Option Offer → Type 0
IsGood None = Unit {0}
IsGood (Some offer) = is_legal (Some offer) ≡ true

better_good : (best : Option Offer) (offer : Offer) → IsGood best → is_legal (Some offer) ≡ true → IsGood (better_of best offer)
better_good None offer h legal = legal
better_good (Some best) offer h legal = cond_both (nat_lt best.price offer.price) (Some offer) (Some best) IsGood (λ _. legal) (λ _. h)

value_good : (best : Option Offer) (t : ℕ) (v : Value) → IsGood best → IsLegalAt t v → IsGood (after_value best v)
value_good best t (Bid auction bidder price) h legal =
    let ids = and_from (nat_le auction greatest_id) (nat_le bidder greatest_id) (le-leb auction greatest_id legal.0) (le-leb bidder greatest_id legal.1) in
    better_good best (record { auction = auction; bidder = bidder; price = price }) h (and_from (nat_le auction greatest_id && nat_le bidder greatest_id) (nat_le price greatest_price) ids (le-leb price greatest_price legal.2))
value_good best t _ h legal = h

records_good : (best : Option Offer) (rs : List Rec) → IsGood best → All RecordIsLegal rs → IsGood (fold (λ b r. after_value b r.value) best rs)
records_good best [] h legal = h
records_good best (r ∷ rs) h legal = records_good (after_value best r.value) rs (value_good best r.time r.value h (All-head RecordIsLegal r rs legal).legal) (All-tail RecordIsLegal r rs legal)

start_good : (best : Option Offer) (woken : Bool) → IsGood best → IsGood (if woken then None else best)
start_good best true h = tt
start_good best false h = h

good_is_legal : (best : Option Offer) → IsGood best → best ≢ None → is_legal best ≡ true
good_is_legal None h other = absurd (other refl)
good_is_legal (Some offer) h other = h

module _ (vs : List ℕ) where
  keys_are_ids : KeysAreIds (q7_facts vs)
  keys_are_ids events legal zero l =
      inputs_keep (q7_facts vs) (λ (r : Rec). r.key ≤ greatest_id) EventIsLegal (λ i k e h is. window_is_id vs e.time e.value k h.in_time is) events legal.each
  keys_are_ids events legal (suc j) l = absurd (omega arith)

  offers_may_be_saved : CellsMayBeSaved (q7_facts vs)
  offers_may_be_saved events legal plain zero k t l other =
      let q = q7_facts vs in
      let good = cell_reaches q 0 (λ low n best. IsGood best) RecordIsLegal (λ low n best e h rise recs times. records_good (at_start best e) e.recs (start_good best e.woken h) recs) t k tt (stage_records q events 0) (input_records_legal q events legal) in
      good_is_legal (cell_before q 0 (stage_records q events 0) k t) good.4 other
  offers_may_be_saved events legal plain (suc j) k t l other = absurd (omega arith)

  -- best offers are left, and the ends of their windows
  pub leaves_what_may_be_saved : LeavesWhatMayBeSaved 7 (q7_facts vs)
  leaves_what_may_be_saved = record { keys = keys_are_ids; cells = offers_may_be_saved; wakes = λ r u legal i. omega arith }
