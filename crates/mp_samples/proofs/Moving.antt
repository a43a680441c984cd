-- The bin of the sample's key moves, and this is its state just before.
use Rattle.std.proofs.Common.{◌≡◌, ◌⊎◌, ℕ, ◌<◌, ◌≤◌, ◌==◌, true, false, [], ◌∷◌, Contains, refl, sym, subst, inr, ⊎_elim, arith}
use Rattle.std.proofs.lemmas.Bool.{cases_Bool, eqb-true, or_cases, false≢true}
use Rattle.std.specs.List.Sorted.{IsStrictlySortedBy}
use Rattle.mp_bins.specs.Bins.{bin_of_key}
use Rattle.mp_job.proofs.Whole.{whole_table}
use Rattle.mp_job.proofs.Members.{nothing_in_nil, Contains-here, Contains-cases}
use Rattle.mp_model.specs.Facts.{QueryFacts}
use Rattle.mp_model.specs.Folds.{cell_before}
use Rattle.mp_model.specs.Stages.{stage_records}
use Rattle.mp_names.specs.declared.names.Name.{Name}
use Rattle.mp_names.specs.declared.names.Name.TheVariants.{Rec}
use Rattle.mp_names.specs.Outlines.{IsMove, is_posted, owner_before}
use Rattle.mp_names.proofs.Lists.{In_cases}
use Rattle.mp_outline.specs.JobOutline.{name_of_record, outline_of}
use Rattle.mp_postdated.specs.Wakes.{Has}
use Rattle.mp_msg.specs.Contents.{IsPacketOf}
use Rattle.mp_samples.specs.Bids.{answering_bids, answering_in}
use Rattle.mp_samples.specs.Jobs.{one_move, record_of_bid}
use Rattle.mp_samples.specs.Laws.{begins_fresh}
use Rattle.mp_samples.specs.States.{state_of_bin}
use Rattle.mp_msg.specs.States.{IsInOrder, IsOfBin, IsOpening, IsPostedAt, IsStateBefore, cell_in}

-- worker 1 gives the bin to worker 2
bin_moves : IsMove (outline_of answering_bids one_move) 0 1 10
unfolding owner_before
bin_moves e = cc

one_element : {X : Type 0} (x y : X) → Contains (x ∷ []) y → x ≡ y
one_element x y i = ⊎_elim (λ (e : x ≡ y). e) (λ (m : Contains [] y). absurd (nothing_in_nil y m)) (Contains-cases x y [] i)

in_order : IsInOrder state_of_bin
unfolding IsStrictlySortedBy
in_order = record { cells = (tt, tt); wakes = (tt, tt) }

of_bin : IsOfBin answering_bids one_move 0 1 state_of_bin
of_bin = record {
  cells = λ k c i. subst (λ (p : ℕ × ℕ). (bin_of_key p.0 4 ≡ 1) × (p.1 ≡ 0 → ⊥)) (one_element (7, 1) (k, c) i) (refl, λ e. cc);
  wakes = λ u k i. subst (λ (w : ℕ × ℕ). bin_of_key w.1 4 ≡ 1) (one_element (15, 7) (u, k) i) refl;
}

-- the key has its mark, and every other key none
marked : (k : ℕ) → cell_in 0 state_of_bin.cells k ≡ cell_before answering_bids 0 (stage_records answering_bids one_move.events 0) k 10
marked k =
    ⊎_elim
    (λ (e : (7 == k) ≡ true). subst (λ (l : ℕ). cell_in 0 state_of_bin.cells l ≡ cell_before answering_bids 0 (stage_records answering_bids one_move.events 0) l 10) (eqb-true 7 k e) refl)
    (λ (e : (7 == k) ≡ false). rw e refl)
    (cases_Bool (7 == k))

-- the wakes that were posted, as the job begins with none
abbrev IsStated : ℕ → ℕ → Type 0
IsStated u k = (10 ≤ u) × (IsOpening answering_bids 0 k u ⊎ ((v : ℕ) × (v < 10) × IsPostedAt answering_bids one_move 0 k v u))

wake_posted : (u k : ℕ) → Has state_of_bin.wakes u k → IsStated u k
wake_posted u k i =
    subst (λ (w : ℕ × ℕ). IsStated w.0 w.1) (one_element (15, 7) (u, k) i)
    (omega arith, inr (5, omega arith, (record { 0 = 0; 1 = 0 }, refl, refl)))

posted_wake : (u k v : ℕ) → IsPostedAt answering_bids one_move 0 k v u → Has state_of_bin.wakes u k
posted_wake u k v h =
    let o = outline_of answering_bids one_move in
    let name : Name = Rec 0 v k h.0 in
    let same : name_of_record 0 record_of_bid ≡ name = ⊎_elim (λ (e : name_of_record 0 record_of_bid ≡ name). e) (λ e. absurd (false≢true e)) (In_cases name (name_of_record 0 record_of_bid) [] h.1) in
    let posted : is_posted o (name_of_record 0 record_of_bid) u ≡ true = subst (λ (x : Name). is_posted o x u ≡ true) (sym same) h.2 in
    let at : 15 ≡ u = ⊎_elim (λ (e : (15 == u) ≡ true). eqb-true 15 u e) (λ e. absurd (false≢true e)) (or_cases (15 == u) false posted) in
    let key : 7 ≡ k = cc in
    let wake : (15, 7) ≡ (u, k) = cc in
    subst (Contains state_of_bin.wakes) wake (Contains-here (15, 7) [])

stated_wake : (u k : ℕ) → IsStated u k → Has state_of_bin.wakes u k
stated_wake u k h =
    ⊎_elim
    (λ (i : IsOpening answering_bids 0 k u). absurd (nothing_in_nil (u, k) i))
    (λ (p : (v : ℕ) × (v < 10) × IsPostedAt answering_bids one_move 0 k v u). posted_wake u k p.0 p.2)
    h.1

pub bin_has_state : IsStateBefore answering_bids one_move 0 1 10 state_of_bin
bin_has_state = record {
  order = in_order;
  own = of_bin;
  cells = λ k b. marked k;
  wakes = λ u k b. ((λ i. wake_posted u k i), (λ h. stated_wake u k h));
}

-- the job is whole, so the query's table in it is the query's own
own_table : answering_in one_move ≡ answering_bids
own_table = whole_table (λ values. answering_bids) [] one_move.events one_move.controls one_move.shape [] (begins_fresh true)

pub state_is_packet : IsPacketOf (answering_in one_move) one_move 0 1 10 state_of_bin
state_is_packet = subst (λ (q : QueryFacts ℕ). IsPacketOf q one_move 0 1 10 state_of_bin) (sym own_table) (bin_moves, bin_has_state)
