-- The times of a job are those of all names of its outline.
use Rattle.std.proofs.Common.{◌≡◌, ◌⊎◌, ℕ, zero, suc, ◌-◌, ◌<◌, true, refl, length, inl, inr, sym, subst, ⊎_elim, Contains}
use Rattle.std.proofs.lemmas.Bool.{eqb-true, false≢true}
use Rattle.std.proofs.lemmas.List.{get_or_default}
use Rattle.mp_names.specs.declared.controls.Control.{Control}
use Rattle.mp_names.specs.declared.names.Name.{Name}
use Rattle.mp_names.specs.declared.names.Name.TheVariants.{Ctrl, Rec as RecName, Packet, Row, Group}
use Rattle.mp_names.specs.declared.names.Tag.{Tag}
use Rattle.mp_names.specs.Controls.{control_of, no_control}
use Rattle.mp_names.specs.Laws.{IsMade}
use Rattle.mp_names.specs.Names.{In, is_group}
use Rattle.mp_names.specs.Outlines.{IsOwed, OutlineIsSound, groups_of, is_posted, time_of}
use Rattle.mp_names.proofs.Listed.{group_cause, groups_are}
use Rattle.mp_names.proofs.NameParts.{same_group, same_parts}
use Rattle.mp_names.proofs.Owners.{move_has_control}
use Rattle.mp_model.specs.declared.record.Rec.{Rec}
use Rattle.mp_model.specs.Facts.{JobFacts, QueryFacts}
use Rattle.mp_model.specs.QueryLaws.{LaterStagesPostNothing}
use Rattle.mp_model.specs.Stages.{input_records}
use Rattle.mp_rows.specs.Below.{HasTime}
use Rattle.mp_rows.specs.Below.{JobIsLegal}
use Rattle.mp_rows.specs.Below.{times_of}
use Rattle.mp_rows.specs.Below.{times_have}
use Rattle.mp_rows.specs.Below.{map-Contains}
use Rattle.mp_rows.specs.Below.{opening_names, outline_of, record_names}
use Rattle.mp_rows.specs.Below.{found_there}
use Rattle.mp_rows.specs.Below.{post_named, record_named}
use Rattle.mp_rows.specs.Below.{wake_named, wakes_are_first}
use Rattle.mp_board.specs.Soundness.{HoldsAllTimes}

module _ {Cell : Type 0} (q : QueryFacts Cell) (nothing : LaterStagesPostNothing q) (job : JobFacts) (ok : OutlineIsSound (outline_of q job)) (legal : JobIsLegal q job) where
  abbrev Has : ℕ → Type 0
  Has t = HasTime q job.events job.controls t

  abbrev IsOf : ℕ → Rec → Type 0
  IsOf t r = (r.time ≡ t) ⊎ Contains (q.posts 0 r) t

  control_time : (i : ℕ) → i < length job.controls → Has (control_of job.controls i).time
  control_time i l =
      let c = control_of job.controls i in
      inr (inl (found_there (λ (d : Control). d.time ≡ c.time) job.controls c (i, l, get_or_default job.controls i c no_control l) refl))

  input_time : (t k : ℕ) (g : Tag) → In (RecName 0 t k g) (record_names q job 0) → Has t
  input_time t k g i =
      let r = record_named q job 0 (RecName 0 t k g) i in
      inl (found_there (IsOf t) (input_records q job.events) r.0 r.1 (inl (same_parts 0 0 r.0.time t r.0.key k r.0.tag g r.2).0))

  posted_time : (s k t : ℕ) (g : Tag) → In (RecName 0 s k g) (record_names q job 0) → is_posted (outline_of q job) (RecName 0 s k g) t ≡ true → Has t
  posted_time s k t g i p =
      let r = record_named q job 0 (RecName 0 s k g) i in
      let posted = subst (λ (x : Name). is_posted (outline_of q job) x t ≡ true) (sym r.2) p in
      inl (found_there (IsOf t) (input_records q job.events) r.0 r.1 (inr (post_named q nothing job 0 r.0 t r.1 posted)))

  -- the time of an opening wake, which is of the first stage
  wake_time : (j t k : ℕ) → In (Group j t k) (opening_names q job j) → Has t
  wake_time j t k i =
      let a = wake_named q job j (Group j t k) i in
      let there = subst (λ (n : ℕ). Contains (q.waking n) a.0) (wakes_are_first q job legal j a.0 a.1) a.1 in
      inr (inr (map-Contains (λ (w : ℕ × ℕ). w.0) (q.waking 0) t (found_there (λ (w : ℕ × ℕ). w.0 ≡ t) (q.waking 0) a.0 there (same_group j a.0.0 a.0.1 t k a.2).0)))

  -- a group's time is that of an opening wake or of its records, or one that they post
  group_from : (j t k : ℕ) → ((s l : ℕ) (g : Tag) → In (RecName j s l g) (record_names q job j) → Has s) → In (Group j t k) (groups_of (outline_of q job) j) → Has t
  group_from j t k records i = ⊎_elim (λ (e : In (Group j t k) (opening_names q job j)). wake_time j t k e) (λ (m : IsMade (outline_of q job) j t k). from j m records) (group_cause (outline_of q job) ok j t k i)
    where
      from : (n : ℕ) → IsMade (outline_of q job) n t k → ((s l : ℕ) (g : Tag) → In (RecName n s l g) (record_names q job n) → Has s) → Has t
      from zero c recs =
          ⊎_elim
          (λ (e : c.0 ≡ t). subst Has e (recs c.0 k c.1 c.2))
          (λ (p : is_posted (outline_of q job) (RecName 0 c.0 k c.1) t ≡ true). posted_time c.0 k t c.1 c.2 p)
          c.3
      from (suc n) c recs =
          ⊎_elim
          (λ (e : c.0 ≡ t). subst Has e (recs c.0 k c.1 c.2))
          (λ (p : is_posted (outline_of q job) (RecName (suc n) c.0 k c.1) t ≡ true). absurd (false≢true p))
          c.3

  rec_time : (j t k : ℕ) (g : Tag) → In (RecName j t k g) (record_names q job j) → Has t
  rec_time zero t k g i = input_time t k g i
  rec_time (suc j) t k g i = group_from j t g.0 (rec_time j) (ok.records_given j t k g i)

  name_time : (x : Name) → IsOwed (outline_of q job) x ⊎ ((j : ℕ) × In x (groups_of (outline_of q job) j)) → Has (time_of (outline_of q job) x)
  name_time x c = ⊎_elim (owed x) (λ (d : (j : ℕ) × In x (groups_of (outline_of q job) j)). of_group x d.0 d.1 (groups_are (outline_of q job) ok d.0 x d.1).1) c
    where
      owed : (y : Name) → IsOwed (outline_of q job) y → Has (time_of (outline_of q job) y)
      owed (Ctrl i v) d = control_time i d.0
      owed (RecName j t k g) d = rec_time j t k g d.1
      owed (Packet j b t) d = let m = move_has_control (outline_of q job) j b t d in subst Has m.3 (control_time m.0 m.1)
      owed (Row t g) d = group_from (job.shape.stages - 1) t g.0 (rec_time (job.shape.stages - 1)) (ok.rows_given t g d)
      owed _ d = absurd d

      of_group : (y : Name) (j : ℕ) → In y (groups_of (outline_of q job) j) → is_group j y ≡ true → Has (time_of (outline_of q job) y)
      of_group (Group i t k) j h e = group_from j t k (rec_time j) (subst (λ (n : ℕ). In (Group n t k) (groups_of (outline_of q job) j)) (eqb-true i j e) h)
      of_group _ j h e = absurd (false≢true e)

  pub holds_all_times : HoldsAllTimes (outline_of q job) (times_of q job.events job.controls)
  holds_all_times x c = times_have q job.events job.controls (time_of (outline_of q job) x) (name_time x c)
