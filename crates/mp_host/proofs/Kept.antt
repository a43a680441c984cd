-- What a host keeps to as it changes, where a call succeeds and where it is refused.
use Rattle.std.proofs.Common.{◌≡◌, ◌<◌, ◌==◌, ◌+◌, ◌++◌, ◌∙◌, ℕ, zero, suc, refl, sym, ap, subst, Bool, true, false, cond, Option, None, Some, IfNone, IsOk, List, [], ◌∷◌, All, Contains, filter, inl, arith}
use Rattle.std.specs.List.{range_with_len}
use Rattle.std.specs.Result.{OnErr, OnOk}
use Rattle.std.specs.declared.result.Result.{Result}
use Rattle.std.specs.declared.result.Result.TheVariants.{Ok, Err}
use Rattle.std.proofs.lemmas.Bool.{eq-eqb, ne_eqb}
use Rattle.std.proofs.lemmas.List.{append-nil, map-append}
use Rattle.std.proofs.lemmas.List.Elements.{All-contains, All-nil, All-push, All-weaker, filter-append}
use Rattle.mp_bins.specs.Notes.{first_owner}
use Rattle.mp_model.specs.declared.record.Rec.{Rec}
use Rattle.mp_model.specs.Facts.{JobFacts, QueryFacts}
use Rattle.mp_job.specs.Legal.{JobIsLegal}
use Rattle.mp_job.specs.Runs.{IsRunOf}
use Rattle.mp_job.proofs.Members.{map-Contains}
use Rattle.mp_model.specs.Tables.{table_of}
use Rattle.mp_outline.specs.JobOutline.{layout_of}
use Rattle.mp_outline.proofs.Found.{found_there}
use Rattle.mp_msg.specs.Contents.{IsRecordOf}
use Rattle.mp_msg.specs.States.{BinContent, IsStateAtFirst}
use Rattle.mp_ordered.specs.InOrder.{IsInOrder, put_in_order}
use Rattle.mp_ordered.proofs.Placing.{put_all, put_keeps}
use Rattle.mp_host_laws.specs.declared.held.Held.{Held}
use Rattle.mp_host_laws.specs.Hosted.{Hosted, IsNew, StateStands, first_bins, group_rank}
use Rattle.mp_host_laws.proofs.Beginning.{first_bin_is}
use Rattle.mp_host_laws.proofs.Lists.{All-each}
use Rattle.mp_host.specs.Hosts.{AreAtFirst, IsHosted, MayBeHeld, WakesAreCaused}

-- where a call does one thing on `Ok` and another on `Err`, and either will do
pub either_way : {A E : Type 0} (r : Result A E) (P Q R : Type 0) → OnOk r P → OnErr r Q → (P → R) → (Q → R) → R
either_way (Ok a) P Q R p q f g = f p
either_way (Err e) P Q R p q f g = g q

-- what follows from what holds on `Err`
pub on_err : {A E : Type 0} (r : Result A E) (P Q : Type 0) → OnErr r P → (P → Q) → OnErr r Q
on_err (Ok a) P Q p f = tt
on_err (Err e) P Q p f = f p

-- what holds anyway holds on `Err`
pub even_on_err : {A E : Type 0} (r : Result A E) (P : Type 0) → P → OnErr r P
even_on_err (Ok a) P p = tt
even_on_err (Err e) P p = p

-- what follows from what holds on `Ok`
pub on_ok : {A E : Type 0} (r : Result A E) (P Q : Type 0) → OnOk r P → (P → Q) → OnOk r Q
on_ok (Ok a) P Q p f = f p
on_ok (Err e) P Q p f = tt

-- a host of a run is one of the run itself
pub of_the_run : {Cell : Type 0} {q : QueryFacts Cell} {job its : JobFacts} {old new : Hosted Cell} → old ≡ new → IsHosted q job its old → IsHosted q job job new
of_the_run {q = q} {job = job} {old = old} is hosted =
    let itself : IsHosted q job job old = record { run = refl; legal = hosted.legal; stage = hosted.stage; worker = hosted.worker; order = hosted.order; caused = hosted.caused } in
    subst (IsHosted q job job) is itself

module _ {Cell : Type 0} (q : QueryFacts Cell) (job its : JobFacts) where
  -- each state of a host is one that a host may have
  pub states_fit : (h : Hosted Cell) → IsHosted q job its h → All (MayBeHeld q job h.stage) h.held
  states_fit h hosted =
      All-each (MayBeHeld q job h.stage) h.held
      (λ s i. record {
        denotes = All-contains (StateStands q job h.stage) h.held s hosted.order.states i;
        caused = All-contains (WakesAreCaused q job h.stage) h.held s hosted.caused i;
      })

  -- with other records in order, and other such states, it keeps to what a host keeps to
  pub hosted_still : (h : Hosted Cell) (records : List Rec) (held : List (Held Cell)) (room bins : ℕ)
      → IsHosted q job its h → All (IsRecordOf q job h.stage) records → IsInOrder group_rank records → All (MayBeHeld q job h.stage) held
      → IsHosted q job its (record { stage = h.stage; worker = h.worker; records = records; held = held; room = room; room_for_bins = bins })
  hosted_still h records held room bins hosted content order fit = record {
    run = hosted.run;
    legal = hosted.legal;
    stage = hosted.stage;
    worker = hosted.worker;
    order = record { content = content; records = order; states = All-weaker (MayBeHeld q job h.stage) (StateStands q job h.stage) (λ s f. f.denotes) held fit };
    caused = All-weaker (MayBeHeld q job h.stage) (WakesAreCaused q job h.stage) (λ s f. f.caused) held fit;
  }

  -- with a record of the stage put at its place
  pub received_still : (h : Hosted Cell) (r : Rec) (records : List Rec) (room bins : ℕ) → IsHosted q job its h → IsRecordOf q job h.stage r → records ≡ put_in_order group_rank r h.records
      → IsHosted q job its (record { stage = h.stage; worker = h.worker; records = records; held = h.held; room = room; room_for_bins = bins })
  received_still h r records room bins hosted is e =
      hosted_still h records h.held room bins hosted
      (rw e (put_all group_rank (IsRecordOf q job h.stage) r h.records is hosted.order.content))
      (rw e (put_keeps group_rank r h.records hosted.order.records))
      (states_fit h hosted)

-- The bins that a worker first owns

-- those below a number
abbrev pub bins_below : JobFacts → ℕ → ℕ → ℕ → List ℕ
bins_below job j w n = filter (λ b. first_owner (layout_of job) j b == w) (range_with_len 0 n)

range_more : (a n : ℕ) → range_with_len a (suc n) ≡ range_with_len a n ++ (a + n) ∷ []
range_more a zero = let same : a ≡ a + 0 = omega arith in ap (λ (b : ℕ). b ∷ []) same
range_more a (suc n) =
    let same : a + 1 + n ≡ a + suc n = omega arith in
    ap (λ (bs : List ℕ). a ∷ bs) (range_more (a + 1) n ∙ ap (λ (b : ℕ). range_with_len (a + 1) n ++ b ∷ []) same)

below_more : (p : ℕ → Bool) (b : ℕ) → filter p (range_with_len 0 (b + 1)) ≡ filter p (range_with_len 0 b) ++ cond (p b) (b ∷ []) []
below_more p b =
    let next : b + 1 ≡ suc b = omega arith in
    let same : 0 + b ≡ b = omega arith in
    ap (λ (n : ℕ). filter p (range_with_len 0 n)) next
    ∙ ap (filter p) (range_more 0 b)
    ∙ filter-append p (range_with_len 0 b) ((0 + b) ∷ [])
    ∙ ap (λ (n : ℕ). filter p (range_with_len 0 b) ++ cond (p n) (n ∷ []) []) same

module _ {Cell : Type 0} (q : QueryFacts Cell) (job : JobFacts) (j w b : ℕ) (held : List (Held Cell)) (are : AreAtFirst q job j (bins_below job j w b) held) where
  -- one bin more that is the worker's, with what it begins with
  pub one_first : (s : BinContent Cell) → IsStateAtFirst q job j b s → first_owner (layout_of job) j b ≡ w → AreAtFirst q job j (bins_below job j w (b + 1)) (held ++ record { bin = b; since = None; state = s } ∷ [])
  one_first s at e =
      let one : Held Cell = record { bin = b; since = None; state = s } in
      let its : (first_owner (layout_of job) j b == w) ≡ true = eq-eqb (first_owner (layout_of job) j b) w e in
      let more : bins_below job j w (b + 1) ≡ bins_below job j w b ++ b ∷ [] = below_more (λ (n : ℕ). first_owner (layout_of job) j n == w) b ∙ ap (λ (own : Bool). bins_below job j w b ++ cond own (b ∷ []) []) its in
      record {
        of = map-append (λ (r : Held Cell). r.bin) held (one ∷ []) ∙ ap (λ (bs : List ℕ). bs ++ b ∷ []) are.of ∙ sym more;
        first = All-push (λ (r : Held Cell). r.since ≡ None) held one are.first refl;
        states = All-push (λ (r : Held Cell). IsStateAtFirst q job j r.bin r.state) held one are.states at;
      }

  -- or one that isn't
  pub other_first : (first_owner (layout_of job) j b ≡ w → ⊥) → AreAtFirst q job j (bins_below job j w (b + 1)) held
  other_first e =
      let other : (first_owner (layout_of job) j b == w) ≡ false = ne_eqb (first_owner (layout_of job) j b) w e in
      let more : bins_below job j w (b + 1) ≡ bins_below job j w b = below_more (λ (n : ℕ). first_owner (layout_of job) j n == w) b ∙ ap (λ (own : Bool). bins_below job j w b ++ cond own (b ∷ []) []) other ∙ append-nil (bins_below job j w b) in
      subst (λ (bs : List ℕ). AreAtFirst q job j bs held) (sym more) are

-- a host may have them
module _ {Cell : Type 0} (q : QueryFacts Cell) (job : JobFacts) (j w : ℕ) (held : List (Held Cell)) (are : AreAtFirst q job j (first_bins job j w) held) where
  pub first_fit : All (MayBeHeld q job j) held
  first_fit = All-each (MayBeHeld q job j) held fits
    where
      fits : (s : Held Cell) → Contains held s → MayBeHeld q job j s
      fits s i =
          let at = All-contains (λ (r : Held Cell). IsStateAtFirst q job j r.bin r.state) held s are.states i in
          let there = map-Contains (λ (r : Held Cell). r.bin) held s.bin (found_there (λ (r : Held Cell). r.bin ≡ s.bin) held s i refl) in
          record {
            denotes = record { bin = (first_bin_is job j w s.bin (subst (λ (bs : List ℕ). Contains bs s.bin) are.of there)).0; order = at.order; own = at.own };
            caused = λ u k has. inl ((at.wakes u k (at.own.wakes u k has)).0 has);
          }

-- What bins begin with doesn't depend on whether the job is paced

module _ {Cell : Type 0} (q : QueryFacts Cell) (job : JobFacts) (paced : Bool) where
  state_as : (j b : ℕ) (s : BinContent Cell) → IsStateAtFirst q job j b s → IsStateAtFirst q (record job { paced = paced }) j b s
  state_as j b s at = record { order = at.order; own = record { cells = at.own.cells; wakes = at.own.wakes }; cells = at.cells; wakes = at.wakes }

  first_as : (j : ℕ) (bins : List ℕ) (held : List (Held Cell)) → AreAtFirst q job j bins held → AreAtFirst q (record job { paced = paced }) j bins held
  first_as j bins held are = record {
    of = are.of;
    first = are.first;
    states = All-weaker (λ (s : Held Cell). IsStateAtFirst q job j s.bin s.state) (λ (s : Held Cell). IsStateAtFirst q (record job { paced = paced }) j s.bin s.state) (λ s at. state_as j s.bin s.state at) held are.states;
  }

-- so a host of a run with them is new
pub new_of_run : {Cell : Type 0} (facts : List ℕ → QueryFacts Cell) (its job : JobFacts) → IsRunOf its job → (h : Hosted Cell) → h.records ≡ []
    → AreAtFirst (table_of facts its) its h.stage (first_bins its h.stage h.worker) h.held → IsNew (table_of facts job) job h
new_of_run facts its job run h none are =
    let now = subst (λ (f : JobFacts). AreAtFirst (table_of facts f) f h.stage (first_bins f h.stage h.worker) h.held) run (first_as (table_of facts its) its job.paced h.stage (first_bins its h.stage h.worker) h.held are) in
    record { records = none; bins = now.of; first = now.first; states = now.states }

-- and keeps to what a host keeps to
pub new_hosted : {Cell : Type 0} (q : QueryFacts Cell) (job its : JobFacts) (h : Hosted Cell) → IsRunOf its job → JobIsLegal q job → h.stage < job.shape.stages → h.worker < job.shape.workers → IsNew q job h → IsHosted q job its h
new_hosted q job its h run legal stage worker new =
    let fit : All (MayBeHeld q job h.stage) h.held = first_fit q job h.stage h.worker h.held (record { of = new.bins; first = new.first; states = new.states }) in
    record {
      run = run;
      legal = legal;
      stage = stage;
      worker = worker;
      order = record {
        content = rw new.records (All-nil (IsRecordOf q job h.stage));
        records = rw new.records (none_in_order group_rank);
        states = All-weaker (MayBeHeld q job h.stage) (StateStands q job h.stage) (λ s f. f.denotes) h.held fit;
      };
      caused = All-weaker (MayBeHeld q job h.stage) (WakesAreCaused q job h.stage) (λ s f. f.caused) h.held fit;
    }
  where
    none_in_order : (rank : Rec → List ℕ) → IsInOrder rank []
    none_in_order rank = λ i j d l m. absurd (omega arith)

-- what holds anyway holds on `None`
pub even_on_none : {A : Type 0} (o : Option A) (P : Type 0) → P → IfNone o P
even_on_none None P p = p
even_on_none (Some a) P p = tt

-- what succeeds isn't refused
pub not_refused : {A E : Type 0} (r : Result A E) (e : E) → r ≡ Err e → IsOk r → ⊥
not_refused (Ok a) e is ok = cc
not_refused (Err d) e is ok = cc
