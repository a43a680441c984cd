-- What a worker takes: that it is owed to it, what it changes at the counts, and that the parts hold it.
use Rattle.std.proofs.Common.{◌≡◌, ◌<◌, ◌≤◌, ◌==◌, ◌∷◌, ℕ, Bool, true, false, cond, if◌then◌else◌, List, [], All, Contains, get_or, length, map, neg_ℤ, pos, take, refl, sym, ap, ◌∙◌, subst, arith}
use Rattle.std.proofs.lemmas.Bool.{eq-eqb}
use Rattle.std.proofs.lemmas.List.{length-map}
use Rattle.std.proofs.lemmas.List.Elements.{All-get_or, Contains-get_or}
use Rattle.mp_names.specs.declared.controls.Control.{Control}
use Rattle.mp_names.specs.declared.locations.Loc.TheVariants.{Host, Mail}
use Rattle.mp_names.specs.declared.names.Name.{Name}
use Rattle.mp_names.specs.declared.names.Name.TheVariants.{Ctrl, Row}
use Rattle.mp_names.specs.declared.names.Tag.{Tag}
use Rattle.mp_names.specs.declared.pointstamps.Change.{Change}
use Rattle.mp_names.specs.Controls.{control_of}
use Rattle.mp_names.specs.Names.{has, In, is_rec}
use Rattle.mp_names.specs.Outlines.{IsOwedTo, Outline, OutlineIsSound, receiver, time_of}
use Rattle.mp_names.specs.Logs.{Log, LogIsLegal, with_took}
use Rattle.mp_names.proofs.Lists.{In_here}
use Rattle.mp_bins.specs.Notes.{Notes, with_note}
use Rattle.mp_model.specs.declared.record.Output.{Output}
use Rattle.mp_model.specs.declared.record.Rec.{Rec}
use Rattle.mp_model.specs.Facts.{JobFacts, QueryFacts}
use Rattle.mp_outline.specs.JobOutline.{name_of_record, outline_of}
use Rattle.mp_outline.proofs.Named.{In_named, named_In}
use Rattle.mp_rows.specs.Entries.{AreChanges, change_at}
use Rattle.mp_rows_laws.specs.Changes.{new_groups, records_taken_at}
use Rattle.mp_rows_laws.proofs.Bundles.{records_taken}
use Rattle.mp_msg.specs.Bundles.{Bundled, IsBundle, names_in}
use Rattle.mp_msg.specs.Contents.{IsRecordOf}
use Rattle.mp_host_laws.specs.Hosted.{Hosted}
use Rattle.mp_host_laws.specs.HostOf.{IsHostOf}
use Rattle.mp_host.specs.Receiving.{AreToCome, TakesRecords}
use Rattle.mp_handoff.specs.MoversState.{MoversState}
use Rattle.mp_output.specs.Holding.{HoldsUnwritten}
use Rattle.mp_worker_invariant.specs.Kept.{AreOwedAndNew, with_all_took, with_host, with_movers, with_notes, with_unwritten}
use Rattle.mp_worker_invariant.specs.Parts.{AreMoversAt, ArePartsOf, IsHostAt, Parts}
use Rattle.mp_worker_invariant.proofs.Standing.{steps}

-- a control record that comes here is this worker's
pub control_here : {Cell : Type 0} (q : QueryFacts Cell) (job : JobFacts) (i v w : ℕ) (x : Name) → Ctrl i v ≡ x → receiver (outline_of q job) x ≡ w → Ctrl i w ≡ x
control_here q job i v w x is comes = ap (λ (u : ℕ). Ctrl i u) (sym (ap (λ (y : Name). receiver (outline_of q job) y) is ∙ comes)) ∙ is

-- The only name of a message that is owed to this worker and new to it
module _ (o : Outline) (w : ℕ) (log : Log) (x : Name) (xs : List Name) (is : x ∷ [] ≡ xs) (new : AreOwedAndNew o w log xs) where
  listed : In x xs
  listed = subst (In x) is (In_here x [])

  pub only_owed : IsOwedTo o w x
  only_owed = (new.1 x listed).0

  pub only_new : has log.took x ≡ false
  only_new = (new.1 x listed).1

-- Records that came together

-- what they add to the counts: the second change only where a group begins to wait
changes_shown : (first second : Change) (none : Bool) (n : ℕ) → n ≡ cond none 1 2 → take n (first ∷ second ∷ []) ≡ first ∷ (if none then [] else second ∷ [])
changes_shown first second true n e = rw e refl
changes_shown first second false n e = rw e refl

module _ {Cell : Type 0} (q : QueryFacts Cell) (job : JobFacts) (b : Bundled) (bundle : IsBundle q job b) where
  -- each of their names is that of a record of their stage
  pub each_is_record : (x : Name) → In x (names_in b) → is_rec b.stage x ≡ true
  each_is_record x i = let a = In_named (name_of_record b.stage) b.recs x i in subst (λ (y : Name). is_rec b.stage y ≡ true) a.2 (eq-eqb b.stage b.stage refl)

  -- there are some, and no more than travel together
  pub some_records : 0 < length b.recs
  some_records = let some = bundle.message.some in omega (arith, length-map b.recs (name_of_record b.stage), some)

  pub few_records : length b.recs ≤ 64
  few_records = let few = bundle.message.few in omega (arith, length-map b.recs (name_of_record b.stage), few)

  -- the job has their stage
  pub stage_below : b.stage < job.shape.stages
  stage_below = below b.recs some_records bundle.records
    where
      below : (rs : List Rec) → 0 < length rs → All (IsRecordOf q job b.stage) rs → b.stage < job.shape.stages
      below [] some all = absurd (omega arith)
      below (r ∷ rs) some all = (All-get_or (IsRecordOf q job b.stage) (r ∷ rs) 0 r some all).0

  -- their time is that of the first
  time_is : (r : Rec) → r ≡ get_or b.recs 0 r → (x : Name) → In x (names_in b) → time_of (outline_of q job) x ≡ r.time
  time_is r at x i =
      let here = named_In (name_of_record b.stage) b.recs r (subst (Contains b.recs) (sym at) (Contains-get_or b.recs 0 r some_records)) in
      (bundle.message.together (name_of_record b.stage r) x here i).0

  module _ (w : ℕ) (log : Log) (new : AreOwedAndNew (outline_of q job) w log (names_in b)) (legal : LogIsLegal (outline_of q job) w log) (old : Hosted Cell) (at : IsHostAt q job w log b.stage old) where
    -- the host's worker is this one
    its_log : LogIsLegal (outline_of q job) old.worker log
    its_log = subst (λ (v : ℕ). LogIsLegal (outline_of q job) v log) (sym at.1) legal

    come : AreToCome (outline_of q job) log old.worker (names_in b)
    come = subst (λ (v : ℕ). AreToCome (outline_of q job) log v (names_in b)) (sym at.1) (record { once = new.0; owed = λ x i. (new.1 x i).0; fresh = λ x i. (new.1 x i).1 })

    pub records_changes : OutlineIsSound (outline_of q job) → (r : Rec) → r ≡ get_or b.recs 0 r
        → (groups : ℕ) → ((l : Log) → IsHostOf q job l old → LogIsLegal (outline_of q job) old.worker l → AreToCome (outline_of q job) l old.worker (names_in b) → groups ≡ new_groups (outline_of q job) old.worker l (names_in b))
        → (n : ℕ) → n ≡ cond (groups == 0) 1 2
        → AreChanges (outline_of q job) w log (with_all_took log (names_in b))
        (take n (change_at (Mail b.stage) r.time (neg_ℤ (pos (length b.recs))) ∷ change_at (Host b.stage) r.time (pos groups) ∷ []))
    records_changes sound r first groups told n count =
        let o = outline_of q job in
        let xs = names_in b in
        let many = length-map b.recs (name_of_record b.stage) in
        let begun = told log at.2 its_log come ∙ ap (λ (v : ℕ). new_groups o v log xs) at.1 in
        let all = records_taken o w log sound legal b.stage r.time xs bundle.message.some (λ x i. (each_is_record x i, time_is r first x i, (new.1 x i).0, (new.1 x i).1)) in
        let shown = changes_shown (change_at (Mail b.stage) r.time (neg_ℤ (pos (length b.recs)))) (change_at (Host b.stage) r.time (pos groups)) (groups == 0) n count in
        rw shown
        (subst (λ (m : ℕ). AreChanges o w log (with_all_took log xs) (records_taken_at b.stage r.time (length b.recs) m)) (sym begun)
        (subst (λ (m : ℕ). AreChanges o w log (with_all_took log xs) (records_taken_at b.stage r.time m (new_groups o w log xs))) many all))

    pub records_held : (new : Hosted Cell) → new.stage ≡ old.stage → new.worker ≡ old.worker → TakesRecords q job b.recs old new → IsHostAt q job w (with_all_took log (names_in b)) b.stage new
    records_held new stage worker takes =
        let there = subst (λ (i : ℕ). AreToCome (outline_of q job) log old.worker (map (name_of_record i) b.recs)) (sym at.0) come in
        (stage ∙ at.0, worker ∙ at.1, subst (λ (i : ℕ). IsHostOf q job (with_all_took log (map (name_of_record i) b.recs)) new) at.0 (takes log at.2 its_log there))

-- The parts

module _ {Cell : Type 0} {q : QueryFacts Cell} {job : JobFacts} {p : Parts Cell} (sound : OutlineIsSound (outline_of q job)) (are : ArePartsOf q job p) where
  -- a control record is taken
  pub control_taken : (i : ℕ) (c : Control) → c ≡ control_of job.controls i → IsOwedTo (outline_of q job) p.number (Ctrl i p.number) → has p.log.took (Ctrl i p.number) ≡ false
      → (noted : Notes) → noted ≡ record p.notes { noted = with_note p.notes.noted (record { index = i; control = c }); room = noted.room }
      → (m : MoversState) → AreMoversAt q job p.number (with_took p.log (Ctrl i p.number)) c.stage m
      → ArePartsOf q job (with_movers (with_notes p (with_took p.log (Ctrl i p.number)) noted) (with_took p.log (Ctrl i p.number)) c.stage m)
  control_taken i c of_job owed fresh noted with_it m at =
      let taken = (steps sound are).receive_control i noted m owed fresh
      (subst (λ (d : Control). noted ≡ record p.notes { noted = with_note p.notes.noted (record { index = i; control = d }); room = noted.room }) of_job with_it)
      (subst (λ (d : Control). AreMoversAt q job p.number (with_took p.log (Ctrl i p.number)) d.stage m) of_job at) in
      rw of_job taken

  -- records that came together are
  pub records_taken_here : (b : Bundled) → IsBundle q job b → AreOwedAndNew (outline_of q job) p.number p.log (names_in b)
      → (h : Hosted Cell) → IsHostAt q job p.number (with_all_took p.log (names_in b)) b.stage h → ArePartsOf q job (with_host p (with_all_took p.log (names_in b)) b.stage h)
  records_taken_here b bundle new h holds = (steps sound are).receive b.stage (names_in b) h new (each_is_record q job b bundle) holds

  -- an answer row is
  pub row_taken : (t : ℕ) (g : Tag) (x : Name) → x ≡ Row t g → IsOwedTo (outline_of q job) p.number x → has p.log.took x ≡ false
      → (rows : List Output) → HoldsUnwritten (with_took p.log x) rows → ArePartsOf q job (with_unwritten p (with_took p.log x) rows)
  row_taken t g x is owed fresh rows holds = rw is ((steps sound are).receive_row t g rows (rw is at owed) (rw is at fresh) (rw is at holds))
