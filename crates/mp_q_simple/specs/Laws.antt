-- The table that q1 and q2 have in common keeps the laws of a query, whatever row a bid has.
use Rattle.std.specs.Prelude.{ℕ, zero, suc, Some, ◌≡◌, ◌≢◌, ◌≤◌, ◌<◌, true, List, [], ◌∷◌, All, refl}
use Rattle.std.proofs.Common.{ap, arith, subst}
use Rattle.std.proofs.lemmas.Bool.{and_from, false≢true}
use Rattle.std.proofs.lemmas.List.Elements.{All-head, All-tail}
use Rattle.std.proofs.lemmas.Option.{none-some, same_Some}
use Rattle.mp_names.specs.Limits.{greatest_id}
use Rattle.mp_model.specs.declared.record.Rec.{Rec}
use Rattle.mp_model.specs.declared.value.Value.{Value}
use Rattle.mp_model.specs.declared.value.Value.TheVariants.{Bid}
use Rattle.mp_model.specs.Entry.{Entry}
use Rattle.mp_model.specs.Facts.{JobFacts}
use Rattle.mp_model.specs.Folds.{FitsAlong, timeline}
use Rattle.mp_model.specs.Legal.{EventIsLegal, IsLegalAt}
use Rattle.mp_model.specs.QueryLaws.{BeginsFresh, HasStages, PostsAreLater, LaterStagesPostNothing, MostIsEnough, FreshStaysFresh, RecordIsLegal, SumsFit, TextsTellCells}
use Rattle.mp_model.specs.Stages.{input_records}
use Rattle.mp_model.specs.Tables.{table_of}
use Rattle.mp_model.proofs.GroupRecords.{group_records}
use Rattle.mp_model.proofs.LegalRecords.{input_records_legal}
use Rattle.mp_model.proofs.Tables.{length-filter_map}
use Rattle.mp_saved.specs.Leaving.{KeysAreIds, LeavesWhatMayBeSaved}
use Rattle.mp_saved.proofs.Kept.{inputs_keep}
use Rattle.mp_q_simple.specs.declared.bids.Nothing.{Nothing}
use Rattle.mp_q_simple.specs.Bids.{RowFacts, all_fit, bids_by, key_of, rows_of, text_of}

-- the numbers of the row of a value that a file can say fit
abbrev pub LegalRowsFit : RowFacts → Type 0
LegalRowsFit rows = (t : ℕ) (v : Value) → IsLegalAt t v → rows.fits v ≡ true

module _ (rows : RowFacts) where
  -- there is one stage
  pub has_stages : HasStages (bids_by rows)
  has_stages = (omega arith, omega arith)

  -- there are no posts
  pub posts_are_later : PostsAreLater (bids_by rows)
  posts_are_later r legal = tt

  -- nor in a later stage
  pub later_stages_post_nothing : LaterStagesPostNothing (bids_by rows)
  later_stages_post_nothing j r = refl

  -- a record gives one row at most
  pub most_is_enough : MostIsEnough (bids_by rows)
  most_is_enough j cell e = length-filter_map (λ (r : Rec). rows.row r.value) e.recs

  -- without records there are no rows
  pub fresh_stays_fresh : FreshStaysFresh (bids_by rows)
  fresh_stays_fresh j e none = (refl, ap (rows_of rows.row) none)

  -- each key begins with nothing
  pub begins_fresh : BeginsFresh (bids_by rows)
  begins_fresh = (refl, refl)

  -- no cell may be saved
  pub texts_tell_cells : TextsTellCells text_of (bids_by rows)
  texts_tell_cells j k t cell allowed = refl

  -- so no text holds a line feed
  pub texts_are_plain : (j k t : ℕ) (cell : Nothing) → (bids_by rows).allows j k t cell ≡ true → All (λ b. b ≢ 10) (text_of j cell)
  texts_are_plain j k t cell allowed = absurd (false≢true allowed)

  -- a key of the first stage is an auction
  auction_is_id : (t : ℕ) (v : Value) (k : ℕ) → IsLegalAt t v → key_of v ≡ Some k → k ≤ greatest_id
  auction_is_id t (Bid auction bidder price) k h e = let same : auction ≡ k = same_Some auction k e in subst (λ (n : ℕ). n ≤ greatest_id) same h.0
  auction_is_id t _ k h e = absurd (none-some k e)

  keys_are_ids : KeysAreIds (bids_by rows)
  keys_are_ids events legal zero l =
      inputs_keep (bids_by rows) (λ (r : Rec). r.key ≤ greatest_id) EventIsLegal (λ i k e h is. auction_is_id e.time e.value k h.legal is) events legal.each
  keys_are_ids events legal (suc j) l = absurd (omega arith)

  -- all cells are fresh, and no key is woken
  pub leaves_what_may_be_saved : (number : ℕ) → LeavesWhatMayBeSaved number (bids_by rows)
  leaves_what_may_be_saved number = record {
    keys = keys_are_ids;
    cells = λ events legal plain j k t l other. absurd (other refl);
    wakes = λ r u legal i. absurd (let none : i.0 < 0 = i.1 in omega arith);
  }

  recs_fit : LegalRowsFit rows → (rs : List Rec) → All RecordIsLegal rs → all_fit rows.fits rs ≡ true
  recs_fit legal_fit [] h = refl
  recs_fit legal_fit (r ∷ rs) h =
      and_from (rows.fits r.value) (all_fit rows.fits rs) (legal_fit r.time r.value (All-head RecordIsLegal r rs h).legal) (recs_fit legal_fit rs (All-tail RecordIsLegal r rs h))

module _ (rows : List ℕ → RowFacts) (legal_fit : (vs : List ℕ) → LegalRowsFit (rows vs)) where
  along : (job : JobFacts) (j : ℕ) (cell : Nothing) (es : List Entry) → All (λ e. All RecordIsLegal e.recs) es → FitsAlong (table_of (λ vs. bids_by (rows vs)) job) j cell es
  along job j cell [] h = tt
  along job j cell (e ∷ es) h =
      let P = λ (e : Entry). All RecordIsLegal e.recs in
      (recs_fit (rows job.values) (legal_fit job.values) e.recs (All-head P e es h), along job j cell es (All-tail P e es h))

  -- the rows of what a file can say fit
  pub sums_fit : SumsFit (λ vs. bids_by (rows vs))
  sums_fit job legal saved zero k below =
      let q = table_of (λ vs. bids_by (rows vs)) job in
      let rs = input_records q job.events in
      along job 0 (q.opening 0 k) (timeline q 0 k rs) (group_records q 0 RecordIsLegal k rs (input_records_legal q job.events legal))
  sums_fit job legal saved (suc j) k below = absurd (omega arith)
