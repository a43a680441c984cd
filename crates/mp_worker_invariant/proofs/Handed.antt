-- What becomes of the router of the next stage, or of the answer rows that are to be sent, as a group is applied.
use Rattle.std.proofs.Common.{◌≡◌, ◌↔◌, ◌⊎◌, ℕ, suc, ◌<◌, ◌-◌, Bool, true, List, [], ◌∷◌, ◌++◌, map, Contains, refl, sym, ap, ◌∙◌, subst, inl, inr, ⊎_elim, arith}
use Rattle.std.proofs.lemmas.Bool.{false≢true, both_ways, eq-eqb, eqb-true, false_from_ne_true}
use Rattle.std.proofs.lemmas.List.Elements.{All-contains_itself, All-weaker}
use Rattle.mp_names.specs.declared.names.Name.{Name}
use Rattle.mp_names.specs.declared.names.Name.TheVariants.{Rec as RecName, Row, Group}
use Rattle.mp_names.specs.Names.{has, In, Distinct, is_rec, is_row}
use Rattle.mp_names.specs.Outlines.{Outline, OutlineIsSound, IsOwed}
use Rattle.mp_names.specs.Logs.{Log, LogGrows, LogIsLegal, with_applied}
use Rattle.mp_names.specs.Keeping.{IsHeld, IsWaiting}
use Rattle.mp_names.proofs.Grows.{grown_given}
use Rattle.mp_names.proofs.Hosts.{pending_new}
use Rattle.mp_names.proofs.Lists.{Distinct_append, In_append, In_left, In_push, In_right, prefix_push, prefix_refl}
use Rattle.mp_names.proofs.NameParts.{same_group, same_row}
use Rattle.mp_model.specs.declared.record.Output.{Output}
use Rattle.mp_model.specs.declared.record.Rec.{Rec}
use Rattle.mp_model.specs.Facts.{JobFacts, QueryFacts}
use Rattle.mp_model.specs.Folds.{stage_outputs}
use Rattle.mp_model.specs.QueryLaws.{LaterStagesPostNothing}
use Rattle.mp_model.specs.Stages.{answer_rows, stage_records}
use Rattle.mp_job.specs.Legal.{JobIsLegal}
use Rattle.mp_outline.specs.JobOutline.{name_of_record, name_of_row, outline_of}
use Rattle.mp_outline.specs.Laws.{OutputsInOrder}
use Rattle.mp_outline.proofs.Named.{In_named, named_In, named_once}
use Rattle.mp_outline.proofs.Pairs.{Pairs-weaker}
use Rattle.mp_outline.proofs.Stages.{name_stands, record_named}
use Rattle.mp_outline.proofs.Tags.{tag_irreflexive}
use Rattle.mp_outline.proofs.Outputs.{outputs_are, outputs_in_order}
use Rattle.mp_msg.specs.Contents.{IsRecordOf}
use Rattle.mp_route.specs.Routed.{Routed}
use Rattle.mp_route.specs.Unsent.{HoldsAllBut, HoldsUnsent, names_held}
use Rattle.mp_host_laws.proofs.Logs.{push_has}
use Rattle.mp_worker_invariant.specs.Given.{outputs_given, records_made, values_given}
use Rattle.mp_worker_invariant.specs.Laws.{GroupsHandOn}
use Rattle.mp_worker_invariant.specs.Parts.{HoldsRowsBut}
use Rattle.mp_worker_invariant.proofs.Given.{made_once, outputs_come, outputs_stand, records_come, records_stand}

-- Names that are held by a new log only, and those that are held by both

module _ (o : Outline) (w : ℕ) (p : Name → Bool) (old new : Log) (names held : List Name) (held_is : (x : Name) → (In x held ↔ IsHeld o w old p x)) (named : (x : Name) → In x names → IsHeld o w new p x × (IsHeld o w old p x → ⊥)) where
  both_once : Distinct names → Distinct held → Distinct (names ++ held)
  both_once d e = Distinct_append names held d e (λ x i. false_from_ne_true (has held x) (λ k. (named x i).1 ((held_is x).0 k)))

  both_are_held : ((x : Name) → IsHeld o w old p x → IsHeld o w new p x) → ((x : Name) → IsHeld o w new p x → In x names ⊎ IsHeld o w old p x) → (x : Name) → (In x (names ++ held) ↔ IsHeld o w new p x)
  both_are_held kept all x = (
    (λ i. ⊎_elim (λ (k : In x names). (named x k).0) (λ (k : In x held). kept x ((held_is x).0 k)) (In_append x names held i)),
    (λ h. ⊎_elim (λ (k : In x names). In_left x names held k) (λ (k : IsHeld o w old p x). In_right x names held ((held_is x).1 k)) (all x h)),
  )

-- what is held has its name in its list
record_listed : (o : Outline) (j : ℕ) (x : Name) → is_rec j x ≡ true → IsOwed o x → In x (o.records j)
record_listed o j (RecName i t k g) e h = subst (λ (n : ℕ). In (RecName i t k g) (o.records n)) (eqb-true i j e) h.1
record_listed o j _ e h = absurd (false≢true e)

row_listed : (o : Outline) (x : Name) → is_row x ≡ true → IsOwed o x → In x o.rows
row_listed o (Row t g) e h = h
row_listed o _ e h = absurd (false≢true e)

applied_grows : (log : Log) (x : Name) → LogGrows log (with_applied log x)
applied_grows log x = record { ingested = prefix_refl log.ingested; sent = prefix_refl log.sent; took = prefix_refl log.took; applied = prefix_push log.applied x; settled = prefix_refl log.settled }

module _ {Cell : Type 0} (q : QueryFacts Cell) (nothing : LaterStagesPostNothing q) (job : JobFacts) (sound : OutlineIsSound (outline_of q job))
    (w : ℕ) (log : Log) (legal : LogIsLegal (outline_of q job) w log) (j t k : ℕ) (waits : IsWaiting (outline_of q job) w log j (Group j t k)) where
  -- the group isn't applied yet
  not_applied : (u l : ℕ) → u ≡ t → l ≡ k → In (Group j u l) log.applied → ⊥
  not_applied u l e f h =
      both_ways (has log.applied (Group j t k)) (pending_new (outline_of q job) w log j t k waits.1) (subst (λ (m : ℕ). In (Group j t m) log.applied) f (subst (λ (m : ℕ). In (Group j m l) log.applied) e h))

  -- and then is
  is_applied : (u l : ℕ) → u ≡ t → l ≡ k → In (Group j u l) (log.applied ++ Group j t k ∷ [])
  is_applied u l e f =
      subst (λ (m : ℕ). In (Group j m l) (log.applied ++ Group j t k ∷ [])) (sym e) (subst (λ (m : ℕ). In (Group j t m) (log.applied ++ Group j t k ∷ [])) (sym f) (push_has log.applied (Group j t k)))

  still_held : (p : Name → Bool) (x : Name) → IsHeld (outline_of q job) w log p x → IsHeld (outline_of q job) w (with_applied log (Group j t k)) p x
  still_held p x h = (h.0, h.1, grown_given (outline_of q job) w log (with_applied log (Group j t k)) (applied_grows log (Group j t k)) x h.2, h.3)

  -- Records of the next stage

  module _ (below : suc j < job.shape.stages) where
    stage_is : j < job.shape.stages
    stage_is = omega arith

    new_record : (r : Rec) → Contains (records_made q j (outputs_given q job j t k)) r
        → IsHeld (outline_of q job) w (with_applied log (Group j t k)) (is_rec (suc j)) (name_of_record (suc j) r) × (IsHeld (outline_of q job) w log (is_rec (suc j)) (name_of_record (suc j) r) → ⊥)
    new_record r i =
        let a = records_stand q nothing job sound j t k stage_is waits.0 r i in (
          (
            eq-eqb (suc j) (suc j) refl,
            (below, name_stands q job (suc j) r below a.0),
            is_applied r.time r.tag.0 a.1 a.2,
            false_from_ne_true (has log.sent (name_of_record (suc j) r)) (λ s. not_applied r.time r.tag.0 a.1 a.2 (legal.sent_given (name_of_record (suc j) r) s)),
          ),
          (λ h. not_applied r.time r.tag.0 a.1 a.2 h.2),
        )

    record_old_or_new : (r : Rec) → Contains (stage_records q job.events (suc j)) r → IsHeld (outline_of q job) w (with_applied log (Group j t k)) (is_rec (suc j)) (name_of_record (suc j) r)
        → In (name_of_record (suc j) r) (map (name_of_record (suc j)) (records_made q j (outputs_given q job j t k))) ⊎ IsHeld (outline_of q job) w log (is_rec (suc j)) (name_of_record (suc j) r)
    record_old_or_new r c h =
        ⊎_elim
        (λ (i : In (Group j r.time r.tag.0) log.applied). inr (h.0, h.1, i, h.3))
        (λ (e : Group j t k ≡ Group j r.time r.tag.0).
        let s = same_group j t k r.time r.tag.0 e in
        inl (named_In (name_of_record (suc j)) (records_made q j (outputs_given q job j t k)) r (records_come q nothing job sound j t k stage_is waits.0 r c (sym s.0) (sym s.1))))
        (In_push (Group j r.time r.tag.0) (Group j t k) log.applied h.2)

    pub router_is_handed : (h : Routed) → h.stage ≡ suc j → HoldsUnsent q job w log h → HoldsAllBut q job w (with_applied log (Group j t k)) (map (name_of_record (suc j)) (records_made q j (outputs_given q job j t k))) h
    router_is_handed h at holds =
        let o = outline_of q job in
        let new = with_applied log (Group j t k) in
        let rs = records_made q j (outputs_given q job j t k) in
        let names = map (name_of_record (suc j)) rs in
        let held_is = subst (λ (n : ℕ). (x : Name) → (In x (names_held h) ↔ IsHeld o w log (is_rec n) x)) at holds.unsent in
        let named : (x : Name) → In x names → IsHeld o w new (is_rec (suc j)) x × (IsHeld o w log (is_rec (suc j)) x → ⊥) =
        λ x i. let a = In_named (name_of_record (suc j)) rs x i in subst (λ (z : Name). IsHeld o w new (is_rec (suc j)) z × (IsHeld o w log (is_rec (suc j)) z → ⊥)) a.2 (new_record a.0 a.1) in
        let all : (x : Name) → IsHeld o w new (is_rec (suc j)) x → In x names ⊎ IsHeld o w log (is_rec (suc j)) x =
        λ x u.
        let a = record_named q job (suc j) x (record_listed o (suc j) x u.0 u.1) in
        subst (λ (z : Name). In z names ⊎ IsHeld o w log (is_rec (suc j)) z) a.2 (record_old_or_new a.0 a.1 (subst (λ (z : Name). IsHeld o w new (is_rec (suc j)) z) (sym a.2) u)) in
        record {
          once = both_once o w (is_rec (suc j)) log new names (names_held h) held_is named (made_once q j t k (values_given q job j t k)) holds.once;
          unsent =
              subst (λ (n : ℕ). (x : Name) → (In x (names ++ names_held h) ↔ IsHeld o w new (is_rec n) x)) (sym at)
              (both_are_held o w (is_rec (suc j)) log new names (names_held h) held_is named (still_held (is_rec (suc j))) all);
        }

  -- Answer rows

  module _ (ends : suc j ≡ job.shape.stages) (stages : job.shape.stages ≡ q.stages) where
    last_is : j < job.shape.stages
    last_is = omega arith

    -- the rows of the answer are the outputs of the stage
    pub row_stands : (r : Output) → Contains (stage_outputs q j (stage_records q job.events j)) r → Contains (answer_rows q job.events) r
    row_stands r h = let e : j ≡ q.stages - 1 = omega arith in subst (λ (n : ℕ). Contains (stage_outputs q n (stage_records q job.events n)) r) e h

    stands_row : (r : Output) → Contains (answer_rows q job.events) r → Contains (stage_outputs q j (stage_records q job.events j)) r
    stands_row r h = let e : q.stages - 1 ≡ j = omega arith in subst (λ (n : ℕ). Contains (stage_outputs q n (stage_records q job.events n)) r) e h

    new_row : (r : Output) → Contains (outputs_given q job j t k) r
        → IsHeld (outline_of q job) w (with_applied log (Group j t k)) is_row (name_of_row r) × (IsHeld (outline_of q job) w log is_row (name_of_row r) → ⊥)
    new_row r i =
        let a = outputs_stand q nothing job sound j t k last_is waits.0 r i in
        let b = outputs_are t k (values_given q job j t k) r i in
        let last : job.shape.stages - 1 ≡ j = omega arith in
        let before : has log.applied (Group (job.shape.stages - 1) r.time r.tag.0) ≡ true → ⊥ = λ h. not_applied r.time r.tag.0 b.0 b.1 (subst (λ (n : ℕ). In (Group n r.time r.tag.0) log.applied) last h) in (
          (
            refl,
            named_In name_of_row (answer_rows q job.events) r (row_stands r a),
            subst (λ (n : ℕ). In (Group n r.time r.tag.0) (log.applied ++ Group j t k ∷ [])) (sym last) (is_applied r.time r.tag.0 b.0 b.1),
            false_from_ne_true (has log.sent (name_of_row r)) (λ s. before (legal.sent_given (name_of_row r) s)),
          ),
          (λ h. before h.2),
        )

    row_old_or_new : (r : Output) → Contains (answer_rows q job.events) r → IsHeld (outline_of q job) w (with_applied log (Group j t k)) is_row (name_of_row r)
        → In (name_of_row r) (map name_of_row (outputs_given q job j t k)) ⊎ IsHeld (outline_of q job) w log is_row (name_of_row r)
    row_old_or_new r c h =
        let last : job.shape.stages - 1 ≡ j = omega arith in
        ⊎_elim
        (λ (i : In (Group (job.shape.stages - 1) r.time r.tag.0) log.applied). inr (h.0, h.1, i, h.3))
        (λ (e : Group j t k ≡ Group (job.shape.stages - 1) r.time r.tag.0).
        let s = same_group j t k r.time r.tag.0 (e ∙ ap (λ (n : ℕ). Group n r.time r.tag.0) last) in
        inl (named_In name_of_row (outputs_given q job j t k) r (outputs_come q nothing job sound j t k last_is waits.0 r (stands_row r c) (sym s.0) (sym s.1))))
        (In_push (Group (job.shape.stages - 1) r.time r.tag.0) (Group j t k) log.applied h.2)

    pub given_row_stands : (r : Output) → Contains (outputs_given q job j t k) r → Contains (answer_rows q job.events) r
    given_row_stands r i = row_stands r (outputs_stand q nothing job sound j t k last_is waits.0 r i)

    pub rows_are_handed : (rows : List Output) → HoldsRowsBut q job w log [] rows → HoldsRowsBut q job w (with_applied log (Group j t k)) (map name_of_row (outputs_given q job j t k)) rows
    rows_are_handed rows holds =
        let o = outline_of q job in
        let new = with_applied log (Group j t k) in
        let given = outputs_given q job j t k in
        let names = map name_of_row given in
        let held = map name_of_row rows in
        let named : (x : Name) → In x names → IsHeld o w new is_row x × (IsHeld o w log is_row x → ⊥) =
        λ x i. let a = In_named name_of_row given x i in subst (λ (z : Name). IsHeld o w new is_row z × (IsHeld o w log is_row z → ⊥)) a.2 (new_row a.0 a.1) in
        let all : (x : Name) → IsHeld o w new is_row x → In x names ⊎ IsHeld o w log is_row x =
        λ x u.
        let a = In_named name_of_row (answer_rows q job.events) x (row_listed o x u.0 u.1) in
        subst (λ (z : Name). In z names ⊎ IsHeld o w log is_row z) a.2 (row_old_or_new a.0 a.1 (subst (λ (z : Name). IsHeld o w new is_row z) (sym a.2) u)) in
        let apart : Distinct names =
        named_once name_of_row given (Pairs-weaker OutputsInOrder (λ r s. name_of_row r ≡ name_of_row s → ⊥) (λ r s less same. let e = same_row r.time s.time r.tag s.tag same in tag_irreflexive r.tag s.tag (less e.0) e.1) given (outputs_in_order t k (values_given q job j t k))) in
        record {
          once = both_once o w is_row log new names held holds.unsent named apart holds.once;
          unsent = both_are_held o w is_row log new names held holds.unsent named (still_held is_row) all;
        }

module _ {Cell : Type 0} (q : QueryFacts Cell) (nothing : LaterStagesPostNothing q) (job : JobFacts) (job_legal : JobIsLegal q job) (sound : OutlineIsSound (outline_of q job)) where
  pub groups_hand_on : (w : ℕ) (log : Log) (j t k : ℕ) → LogIsLegal (outline_of q job) w log → IsWaiting (outline_of q job) w log j (Group j t k) → GroupsHandOn q job w log j t k
  groups_hand_on w log j t k legal waits =
      let records = records_made q j (outputs_given q job j t k) in
      let given = outputs_given q job j t k in
      record {
        record_is = λ below.
            let here : j < job.shape.stages = omega arith in
            All-weaker (Contains records) (IsRecordOf q job (suc j)) (λ r i. (below, (records_stand q nothing job sound j t k here waits.0 r i).0)) records (All-contains_itself records);
        router = router_is_handed q nothing job sound w log legal j t k waits;
        row_is = λ ends. All-weaker (Contains given) (Contains (answer_rows q job.events)) (given_row_stands q nothing job sound w log legal j t k waits ends job_legal.stages) given (All-contains_itself given);
        rows = λ ends. rows_are_handed q nothing job sound w log legal j t k waits ends job_legal.stages;
      }
